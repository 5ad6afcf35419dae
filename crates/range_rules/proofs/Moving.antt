-- Each batch finishes the first work of its list, so what is carried over moves forward.
use Rattle.std.proofs.Common.{◌≡◌, ℕ, zero, suc, ◌<◌, ◌≤◌, List, [], ◌∷◌, map, length, Bool, true, false, cond, None, Some, refl, sym, ap, ◌∙◌, arith}
use Rattle.std.specs.Prelude.{slice_get}
use Rattle.std.specs.List.{filter}
use Rattle.std.specs.Option.{option_map}
use Rattle.std.proofs.lemmas.List.{length-map}
use Rattle.std.proofs.lemmas.Option.{slice_get-map}
use Rattle.aria_base.specs.Orders.{Cells, Database}
use Rattle.aria_base.specs.declared.keys.Key.{Key}
use Rattle.aria_base.specs.declared.calls.Request.{Request}
use Rattle.proc_lang.specs.declared.ends.End.{End}
use Rattle.batch_rules.specs.declared.verdicts.Rule.{Rule}
use Rattle.batch_rules.specs.declared.verdicts.Rule.TheVariants.{Plain, Reorder}
use Rattle.batch_rules.specs.declared.verdicts.Verdict.{Verdict}
use Rattle.batch_rules.specs.declared.verdicts.Verdict.TheVariants.{Finish}
use Rattle.batch_rules.specs.Batches.{Judged, judged, waiting}
use Rattle.batch_rules.specs.Trees.{Tree}
use Rattle.batch_rules.specs.Verdicts.{through, waits, verdict_by}
use Rattle.batch_core.specs.Steps.{reply_by}
use Rattle.range_rules.specs.declared.routines.Action.{Action}
use Rattle.range_rules.specs.declared.routines.NumberedWork.{NumberedWork}
use Rattle.range_rules.specs.declared.routines.RoutineCall.{RoutineCall}
use Rattle.range_rules.specs.declared.routines.Seen.{Seen}
use Rattle.range_rules.specs.Batches.{depends, judged_on, number_at, fate_of}
use Rattle.range_rules.specs.Courses.{ran_on}
use Rattle.range_rules.specs.Laws.{MakesProgress}
use Rattle.range_rules.proofs.Printed.{same_list}

-- ---- what a filter keeps stands no later than it stood

module _ {X : Type 0} (test : X → Bool) where
  pub few_kept : (xs : List X) → length (filter test xs) ≤ length xs
  few_kept [] = omega arith
  few_kept (x ∷ xs) = let rest = few_kept xs in elim (test x) as (λ b. length (cond b (x ∷ filter test xs) (filter test xs)) ≤ suc (length xs)) [
    | true ↦ omega (arith, rest)
    | false ↦ omega (arith, rest)
  ]

  -- it stood here, or further on
  record StoodAt (xs ys : List X) (i : ℕ) : Type 0 where
    place : ℕ
    within : place < length xs
    upto : i ≤ place
    same : slice_get ys i ≡ slice_get xs place

  one_on : (x : X) (xs ys : List X) (i : ℕ) → StoodAt xs ys i → StoodAt (x ∷ xs) ys i
  one_on x xs ys i s = record { place = suc s.place; within = omega (arith, s.within); upto = omega (arith, s.upto); same = s.same }

  in_front : (x : X) (xs ys : List X) (i : ℕ) → i < suc (length ys) → ((i : ℕ) → i < length ys → StoodAt xs ys i) → StoodAt (x ∷ xs) (x ∷ ys) i
  in_front x xs ys zero below rest = record { place = 0; within = omega arith; upto = omega arith; same = refl }
  in_front x xs ys (suc i) below rest =
      let s = rest i (omega (arith, below)) in
      record { place = suc s.place; within = omega (arith, s.within); upto = omega (arith, s.upto); same = s.same }

  stood : (xs : List X) (i : ℕ) → i < length (filter test xs) → StoodAt xs (filter test xs) i
  stood [] i below = absurd (omega (arith, below))
  stood (x ∷ xs) i below = elim (test x) as (λ b. i < length (cond b (x ∷ filter test xs) (filter test xs))
      → StoodAt (x ∷ xs) (cond b (x ∷ filter test xs) (filter test xs)) i) [
        | true ↦ λ below. in_front x xs (filter test xs) i below (stood xs)
        | false ↦ λ below. one_on x xs (filter test xs) i (stood xs i below)
      ] below

-- ---- the first work

first_verdict : (rule : Rule) → verdict_by rule None None None ≡ Finish false
first_verdict Plain = refl
first_verdict Reorder = refl

module _ (tree : Request → Tree Key Cells End) (act : ℕ → RoutineCall → List Seen → Action) (rule : Rule) (start : Database) where
  module _ (first : NumberedWork) (rest : List NumberedWork) where
    abbrev list : List NumberedWork
    list = first ∷ rest

    abbrev ds : List (Judged NumberedWork)
    ds = judged_on tree act rule start list

    abbrev later : List (Judged NumberedWork)
    later = judged (through (ran_on tree act start) depends) rule (first ∷ []) rest

    -- the first work as judged, with this verdict
    abbrev head : Verdict → Judged NumberedWork
    head v = record { tid = 1; request = first; verdict = v }

    is : verdict_by rule None None None ≡ Finish false
    is = first_verdict rule

    kept : waiting ds ≡ waiting later
    kept = λ i. cond (waits (is i)) (head (is i) ∷ waiting later) (waiting later)

    pub first_progress : (batch : ℕ) → MakesProgress tree act rule start list batch
    first_progress batch =
        let request_of : Judged NumberedWork → NumberedWork = λ d. d.request in
        let same = same_list tree act rule start list in
        let many = length-map ds request_of in
        let left : map request_of (waiting ds) ≡ map request_of (waiting later) = ap (map request_of) kept in
        let count = length-map (waiting later) request_of in record {
          first = λ i. Some (record { q = first.q; reply = reply_by (number_at list) (fate_of (ran_on tree act start first) (is i)) });
          fewer = let few = few_kept (λ d. waits d.verdict) later in
              omega (arith, few, ap length left, count, ap length same, many);
          sooner = λ i below.
              let within : i < length (waiting later) = omega (arith, below, ap length left, count) in
              let s = stood (λ d. waits d.verdict) later i within in
              let here : slice_get (map request_of (waiting ds)) i ≡ option_map request_of (slice_get later s.place) =
              ap (λ l. slice_get l i) left ∙ slice_get-map request_of (waiting later) i ∙ ap (option_map request_of) s.same in
              let there : slice_get list (suc s.place) ≡ option_map request_of (slice_get later s.place) =
              sym (ap (λ l. slice_get l (suc s.place)) same) ∙ slice_get-map request_of ds (suc s.place) in
              (suc s.place, omega (arith, s.within, ap length same, many), (omega (arith, s.upto), here ∙ sym there));
        }

  pub progress : (list : List NumberedWork) (batch : ℕ) → 0 < length list → MakesProgress tree act rule start list batch
  progress [] batch some = absurd (omega (arith, some))
  progress (first ∷ rest) batch some = first_progress first rest batch
