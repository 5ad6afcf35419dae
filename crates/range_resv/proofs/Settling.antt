-- What is made of a batch's verdicts, one list after the other, is what the definition of a batch says.
use Rattle.std.proofs.Common.{◌≡◌, refl, sym, ap, subst, ◌∙◌, ℕ, zero, suc, ◌+◌, ◌-◌, List, [], ◌∷◌, map, Option, Some, option_map, slice_index_or}
use Rattle.std.specs.List.{filter, slice_get}
use Rattle.std.proofs.lemmas.Option.{slice_get-map}
use Rattle.std.proofs.lemmas.Simd.{map-map}
use Rattle.aria_base.specs.Orders.{Cells, Database}
use Rattle.aria_base.specs.declared.calls.Request.{Request}
use Rattle.aria_base.specs.declared.keys.Key.{Key}
use Rattle.batch_core.specs.Steps.{number_in, reply_by}
use Rattle.batch_rules.specs.Batches.{Judged, decided, finishing, waiting, placed, judged_through}
use Rattle.batch_rules.specs.Touches.{installed}
use Rattle.batch_rules.specs.Trees.{Tree}
use Rattle.batch_rules.specs.Verdicts.{Dependencies, through, finishes, waits}
use Rattle.batch_rules.specs.declared.verdicts.Rule.{Rule}
use Rattle.batch_rules.specs.declared.verdicts.Verdict.{Verdict}
use Rattle.batch_rules.specs.declared.verdicts.Verdict.TheVariants.{Finish, Wait}
use Rattle.batch_rules.proofs.Installs.{installed-map}
use Rattle.batch_rules.proofs.Judges.{decided_each}
use Rattle.batch_rules.proofs.Lists.{filter-map}
use Rattle.install_phase.specs.Installs.{after_changes}
use Rattle.proc_lang.specs.declared.ends.End.{End}
use Rattle.reorder.specs.Orders.{placed_tids}
use Rattle.reorder.proofs.Places.{placed_names}
use Rattle.range_rules.specs.declared.routines.Action.{Action}
use Rattle.range_rules.specs.declared.routines.NumberedWork.{NumberedWork}
use Rattle.range_rules.specs.declared.routines.Ran.{Ran}
use Rattle.range_rules.specs.declared.routines.RoutineCall.{RoutineCall}
use Rattle.range_rules.specs.declared.routines.Seen.{Seen}
use Rattle.range_rules.specs.Batches.{Outcome, depends, fate_of, number_or, number_at, judged_on, batch_of}
use Rattle.range_rules.specs.Courses.{ran_on}
use Rattle.range_rules.proofs.Printed.{same_list}
use Rattle.range_runs.specs.Indexes.{Listed, IsIndexOf, followed_all}
use Rattle.range_runs.proofs.Following.{follows_all}
use Rattle.range_resv.specs.Answers.{fate_by, lines_in}
use Rattle.range_resv.specs.Commits.{IsSettled}
use Rattle.range_resv.specs.declared.settlements.Settled.{Settled}
use Rattle.range_resv.specs.Lists.{waiting_among, finishing_among}

abbrev Rows : Type 0
Rows = List (Key × Option Cells)

-- ---- lists of verdicts

decided-map : {O P : Type 0} (of : O → P) (tid : ℕ) (list : List O) (verdicts : List Verdict)
    → decided tid (map of list) verdicts ≡ map (judged_through of) (decided tid list verdicts)
decided-map of tid [] verdicts = refl
decided-map of tid (o ∷ os) [] = refl
decided-map of tid (o ∷ os) (v ∷ vs) =
    ap (λ rest. judged_through of (record { tid = tid; request = o; verdict = v }) ∷ rest) (decided-map of (tid + 1) os vs)

kept-is : {X : Type 0} (tid : ℕ) (xs : List X) (verdicts : List Verdict)
    → map (λ d. d.request) (finishing (decided tid xs verdicts)) ≡ finishing_among xs verdicts
kept-is tid [] verdicts = refl
kept-is tid (x ∷ xs) [] = refl
kept-is tid (x ∷ xs) (Finish raw ∷ vs) = ap (λ l. x ∷ l) (kept-is (tid + 1) xs vs)
kept-is tid (x ∷ xs) (Wait cause ∷ vs) = kept-is (tid + 1) xs vs

-- the index of the rows with the writes of all that finish
pub followed-is : (index : Listed) (start : Database) (changes : List Rows) (verdicts : List Verdict) → IsIndexOf index start
    → IsIndexOf (followed_all index (finishing_among changes verdicts)) (after_changes 1 start changes verdicts)
followed-is index start changes verdicts is =
    let same = sym (installed-map (λ (ws : Rows). ws) (λ d. d.request) start (finishing (decided 1 changes verdicts)))
    ∙ ap (installed (λ (ws : Rows). ws) start) (kept-is 1 changes verdicts) in
    subst (IsIndexOf (followed_all index (finishing_among changes verdicts))) (sym same)
    (follows_all index start (finishing_among changes verdicts) is)

-- ---- numbers of a list

numbers-are : (list : List NumberedWork) → number_in (map (λ w. w.q) list) ≡ number_at list
numbers-are list = λ i tid. at list (tid - 1) i
  where
    at : (list : List NumberedWork) (i : ℕ) → slice_index_or (map (λ w. w.q) list) i 0 ≡ number_or (slice_get list i)
    at [] i = refl
    at (w ∷ ws) zero = refl
    at (w ∷ ws) (suc i) = at ws i

-- ---- lines

same_fate : (ran : Ran) (v : Verdict) → fate_by ran.end v ≡ fate_of ran v
same_fate ran (Finish raw) = refl
same_fate ran (Wait cause) = refl

module _ (ran_of : NumberedWork → Ran) (number : ℕ → ℕ) where
  lines_by : (ds : List (Judged NumberedWork))
      → lines_in number (map (λ d. (ran_of d.request).end) ds) (map (λ d. d.request.q) ds) (map (λ d. d.verdict) ds)
      ≡ map (λ d. record { q = d.request.q; reply = reply_by number (fate_of (ran_of d.request) d.verdict) }) ds
  lines_by [] = refl
  lines_by (d ∷ ds) = λ i. record { q = d.request.q; reply = reply_by number (same_fate (ran_of d.request) d.verdict i) } ∷ lines_by ds i

waiting_by : (ds : List (Judged NumberedWork)) → waiting_among (map (λ d. d.request) ds) (map (λ d. d.verdict) ds) ≡ map (λ d. d.request) (waiting ds)
waiting_by [] = refl
waiting_by (d ∷ ds) =
    elim d.verdict as (λ v. waiting_among (d.request ∷ map (λ d. d.request) ds) (v ∷ map (λ d. d.verdict) ds)
    ≡ map (λ d. d.request) (filter (λ d. waits d.verdict) (record { tid = d.tid; request = d.request; verdict = v } ∷ ds))) [
      | Finish raw ↦ waiting_by ds
      | Wait cause ↦ ap (λ l. d.request ∷ l) (waiting_by ds)
    ]

-- ---- the batch

module _ (tree : Request → Tree Key Cells End) (act : ℕ → RoutineCall → List Seen → Action) (rule : Rule) (start : Database)
    (list : List NumberedWork) (verdicts : List Verdict) (decides : verdicts ≡ map (λ d. d.verdict) (judged_on tree act rule start list)) where
  abbrev ds : List (Judged NumberedWork)
  ds = judged_on tree act rule start list

  abbrev ran : NumberedWork → Ran
  ran = ran_on tree act start

  abbrev outcome : Outcome
  outcome = batch_of tree act rule start list

  same : map (λ d. d.request) ds ≡ list
  same = same_list tree act rule start list

  -- what is read off the works of the list is read off them as they are judged
  read : {X : Type 0} (f : NumberedWork → X) → map f list ≡ map (λ d. f d.request) ds
  read f = ap (map f) (sym same) ∙ map-map f (λ d. d.request) ds

  pub rows-are : (changes : List Rows) → changes ≡ map (λ w. (ran w).writes) list → after_changes 1 start changes verdicts ≡ outcome.rows
  rows-are changes c =
      let rows_of : NumberedWork → Rows = λ w. (ran w).writes in
      let on : Dependencies NumberedWork = through ran depends in
      let all = (λ i. decided 1 (c i) (decides i)) ∙ decided-map rows_of 1 list (map (λ d. d.verdict) ds)
      ∙ ap (map (judged_through rows_of)) (decided_each on rule list) in
      let kept = sym (filter-map (judged_through rows_of) (λ d. finishes d.verdict) (λ d. finishes d.verdict) ds (λ k d below. refl)) in
      ap (λ l. installed (λ one. one.request) start (finishing l)) all
      ∙ ap (installed (λ one. one.request) start) kept
      ∙ installed-map (λ one. one.request) (judged_through rows_of) start (finishing ds)

  pub lines-are : (ends : List End) → ends ≡ map (λ w. (ran w).end) list
      → lines_in (number_in (map (λ w. w.q) list)) ends (map (λ w. w.q) list) verdicts ≡ outcome.lines
  lines-are ends e = (λ i. lines_in (numbers-are list i) ((e ∙ read (λ w. (ran w).end)) i) (read (λ w. w.q) i) (decides i))
      ∙ lines_by ran (number_at list) ds

  pub order-is : map (number_in (map (λ w. w.q) list)) (placed_tids verdicts) ≡ outcome.order
  order-is =
      let request : Judged NumberedWork → NumberedWork = λ d. d.request in
      let tids = placed_tids (map (λ d. d.verdict) ds) in
      (λ i. map (numbers-are list i) (placed_tids (decides i)))
      ∙ (λ i. map (λ tid. number_or (slice_get (sym same i) (tid - 1))) tids)
      ∙ (λ i. map (λ tid. number_or (slice_get-map request ds (tid - 1) i)) tids)
      ∙ sym (map-map (λ o. number_or (option_map request o)) (λ tid. slice_get ds (tid - 1)) tids)
      ∙ ap (map (λ o. number_or (option_map request o))) (placed_names (λ d. d.verdict) ds).each
      ∙ map-map (λ o. number_or (option_map request o)) Some (placed (λ d. d.verdict) ds)

  pub carried-is : waiting_among list verdicts ≡ outcome.carried
  carried-is = (λ i. waiting_among (sym same i) (decides i)) ∙ waiting_by ds

-- the same of what was settled of the list
pub settled-is : (tree : Request → Tree Key Cells End) (act : ℕ → RoutineCall → List Seen → Action) (rule : Rule) (start : Database)
    (list : List NumberedWork) (s : Settled) (asked : List NumberedWork) (ends : List End) (verdicts : List Verdict) → asked ≡ list
    → verdicts ≡ map (λ d. d.verdict) (judged_on tree act rule start list) → ends ≡ map (λ w. (ran_on tree act start w).end) list
    → s.lines ≡ lines_in (number_in (map (λ w. w.q) asked)) ends (map (λ w. w.q) asked) verdicts
    → s.order ≡ map (number_in (map (λ w. w.q) asked)) (placed_tids verdicts)
    → s.carried.items ≡ waiting_among asked verdicts → IsSettled tree act rule start list s
settled-is tree act rule start list s asked ends verdicts a v e lines order carried = record {
  lines = lines ∙ (λ i. lines_in (number_in (map (λ w. w.q) (a i))) ends (map (λ w. w.q) (a i)) verdicts)
      ∙ lines-are tree act rule start list verdicts v ends e;
  order = order ∙ (λ i. map (number_in (map (λ w. w.q) (a i))) (placed_tids verdicts)) ∙ order-is tree act rule start list verdicts v;
  carried = carried ∙ (λ i. waiting_among (a i) verdicts) ∙ carried-is tree act rule start list verdicts v;
}
