-- Each batch finishes the first request of its list, so what waits moves forward.
use Rattle.std.proofs.Common.{◌≡◌, ℕ, ◌+◌, ◌-◌, ◌<◌, ◌≤◌, List, [], ◌∷◌, map, length, Bool, true, false, Some, not, ◌⊎◌, refl, sym, ap, ◌∙◌, subst, inl, inr, arith}
use Rattle.std.specs.Prelude.{◌==◌, ◌≢◌, slice_get, slice_index_or, EachIndex, SomeIndex}
use Rattle.std.specs.List.{All, enumerate_from, list_any}
use Rattle.std.specs.Option.{option_map}
use Rattle.std.proofs.lemmas.Bool.{cases_lt, eq-eqb, eqb-true, false≢true}
use Rattle.std.proofs.lemmas.List.{get_or-map, get_or-take, get_or_append_left, length-append, length-map, length-take, nil_from_length}
use Rattle.std.proofs.lemmas.List.Elements.{All-append, All-filter, All-head, All-same, All-tail}
use Rattle.std.proofs.lemmas.List.Folds.{Any-from_list_any, list_any_at}
use Rattle.std.proofs.lemmas.List.FromFn.{get_or-enumerate_from, length-enumerate_from}
use Rattle.std.proofs.lemmas.Option.{get_or_from_slice_get, slice_get-get_or, slice_get-map, slice_get_within}
use Rattle.aria_base.specs.Orders.{key_cmp, Cells, Database}
use Rattle.aria_base.specs.declared.keys.Key.{Key}
use Rattle.aria_base.specs.declared.calls.Request.{Request}
use Rattle.proc_lang.specs.declared.ends.End.{End}
use Rattle.proc_lang.specs.Meaning.{is_done}
use Rattle.batch_rules.specs.declared.verdicts.Rule.{Rule}
use Rattle.batch_rules.specs.declared.verdicts.Verdict.TheVariants.{Finish}
use Rattle.batch_rules.specs.Trees.{Tree, end_of}
use Rattle.batch_rules.specs.Batches.{Ended, Entry, batch, carried, is_carried, on_start, touching}
use Rattle.batch_rules.specs.Laws.{EachOnce, Progress as BatchProgress}
use Rattle.batch_rules.proofs.Places.{each_once, progress as batch_progress}
use Rattle.batch_core.specs.declared.answers.Reply.TheVariants as reply
use Rattle.batch_core.specs.Progress.{HasEnded, MakesProgress, FinishesWithin}
use Rattle.batch_core.specs.Serial.{IsNumbered, is_named}
use Rattle.batch_core.specs.Steps.{State, Handed, numbered, list_of, line_of, reply_of, step, answer, run}
use Rattle.batch_core.proofs.Numbers.{rise-above, rise-below, rise-pairs}
use Rattle.batch_core.proofs.Serial.{numbered-rise, list-rises, serial_answer, keeps_numbers}

-- an enumeration from 1 tells each item's place
enumerated : {X : Type 0} (xs : List X) → All (λ p. slice_get xs (p.0 - 1) ≡ Some p.1) (enumerate_from 1 xs)
enumerated xs k d below =
    let within : k < length xs = subst (λ n. k < n) (length-enumerate_from 1 xs) below in
    let place : k ≡ 1 + k - 1 = omega arith in
    subst (λ p. slice_get xs (p.0 - 1) ≡ Some p.1) (sym (get_or-enumerate_from 1 xs k d within))
    (subst (λ n. slice_get xs n ≡ Some (slice_index_or xs k d.1)) place (slice_get-get_or xs k d.1 within))

module _ (tree : Request → Tree Key Cells End) (rule : Rule) (percent : ℕ) (start : Database) where
  abbrev entries : List Request → List (Entry Key Request End)
  entries list = (batch is_done tree rule percent start list).entries

  abbrev left : List Request → List Request
  left list = map (λ e. e.judged.request) (carried (entries list))

  moves_on : (first : Request) (rest : List Request) → BatchProgress (first ∷ rest) (end_of (tree first) start) (entries (first ∷ rest))
  moves_on first rest = batch_progress (on_start is_done tree start) (touching (on_start is_done tree start) key_cmp) rule first rest _

  each : (list : List Request) → EachOnce list (entries list)
  each list = each_once (on_start is_done tree start) (touching (on_start is_done tree start) key_cmp) rule list _

  first-is : (list : List Request) → slice_get (map (line_of (λ request. request) list) (entries list)) 0 ≡ option_map
      (λ request. record { q = request.q; reply = reply.Ended (end_of (tree request) start) }) (slice_get list 0)
  first-is [] = refl
  first-is (first ∷ rest) = ap (option_map (λ fate. record { q = first.q; reply = reply_of (first ∷ rest) fate })) (moves_on first rest).ends

  few : (list : List Request) → length (left list) ≤ length list - 1
  few [] = omega arith
  few (first ∷ rest) =
      let long = length-map (carried (entries (first ∷ rest))) (λ e. e.judged.request) in
      let fewer = (moves_on first rest).fewer in
      omega (arith, long, fewer)

  placed : (list : List Request) → All (λ e. slice_get list (e.judged.tid - 1) ≡ Some e.judged.request) (entries list)
  placed list k d below =
      let es = entries list in
      let P : ℕ × Request → Type 0 = λ p. slice_get list (p.0 - 1) ≡ Some p.1 in
      let pair : Entry Key Request End → ℕ × Request = λ e. (e.judged.tid, e.judged.request) in
      let all : All P (map pair es) = All-same P (map pair es) (enumerate_from 1 list) (each list).numbered (enumerated list) in
      subst P (get_or-map pair es k d (pair d) below) (all k (pair d) (subst (λ n. k < n) (sym (length-map es pair)) below))

  sooner-is : (list : List Request) → EachIndex (left list) (λ i. SomeIndex list (λ j. (i < j) × (slice_get (left list) i ≡ slice_get list j)))
  sooner-is [] = λ i below. absurd (omega arith)
  sooner-is (first ∷ rest) = λ i below.
      let list = first ∷ rest in
      let cs = carried (entries list) in
      let d : Entry Key Request End = record {
        judged = record { tid = 0; request = first; verdict = Finish false };
        fate =
            Ended (end_of (tree first) start);
      } in
      let within : i < length cs = subst (λ n. i < n) (length-map cs (λ e. e.judged.request)) below in
      let e = slice_index_or cs i d in
      let there : slice_get list (e.judged.tid - 1) ≡ Some e.judged.request =
      All-filter is_carried (λ e. slice_get list (e.judged.tid - 1) ≡ Some e.judged.request) (entries list) (placed list) i d within in
      let here : slice_get (left list) i ≡ Some e.judged.request = slice_get-map (λ e. e.judged.request) cs i
      ∙ ap (option_map (λ e. e.judged.request)) (slice_get-get_or cs i d within) in
      let sooner = (moves_on first rest).sooner i d within in
      (e.judged.tid - 1, slice_get_within list (e.judged.tid - 1) e.judged.request there, (omega (arith, sooner), here ∙ sym there))

module _ (tree : Request → Tree Key Cells End) where
  pub progress : (state : State) (handed : Handed) → 0 < length (list_of state handed) → MakesProgress tree state handed
  progress state handed some =
      let list = list_of state handed in record {
        first = first-is tree handed.rule handed.percent state.rows list;
        fewer = let short = few tree handed.rule handed.percent state.rows list in omega (arith, short, some);
        sooner = sooner-is tree handed.rule handed.percent state.rows list;
      }

  pub drains : (state : State) (batches : List Handed) → All (λ handed. handed.calls ≡ []) batches → length state.waiting ≤ length batches
      → (run tree state batches).waiting ≡ []
  drains state [] quiet enough = nil_from_length state.waiting (omega (arith, enough))
  drains state (handed ∷ rest) quiet enough =
      let no_calls : length (numbered state.requests handed.calls) ≡ 0 =
      ap (λ calls. length (numbered state.requests calls)) (All-head (λ handed. handed.calls ≡ []) handed rest quiet) in
      let long = length-append state.waiting (numbered state.requests handed.calls) in
      let short = few tree handed.rule handed.percent state.rows (list_of state handed) in
      drains (step tree state handed) rest (All-tail (λ handed. handed.calls ≡ []) handed rest quiet) (omega (arith, no_calls, long, short, enough))

  -- what does not wait never waits again, since new requests have new numbers
  stays_ended : (state : State) (rest : List Handed) (request : Request) → IsNumbered state → request.q ≤ state.requests → HasEnded state request
      → HasEnded (run tree state rest) request
  stays_ended state [] request h old ended = ended
  stays_ended state (handed ∷ rest) request h old ended =
      let P : Request → Type 0 = λ other. other.q ≢ request.q in
      let fresh : All P (numbered state.requests handed.calls) = λ k d below same.
      let above = rise-above (λ request. request.q) state.requests (numbered state.requests handed.calls) (state.requests + length handed.calls)
      (numbered-rise state.requests handed.calls) k d below in
      omega (arith, above, same, old) in
      let list = list_of state handed in
      let other : Request → Bool = λ request. not (is_named (answer tree state handed).order request) in
      stays_ended (step tree state handed) rest request (keeps_numbers tree state handed h) (omega arith)
      (All-same P (step tree state handed).waiting _ (serial_answer tree state handed h).rest
      (All-filter other P list (All-append P state.waiting (numbered state.requests handed.calls) ended fresh)))

  -- a request of the list has ended after the batch, or stands at a smaller place of what waits
  moves : (state : State) (handed : Handed) → IsNumbered state → (k : ℕ) (d : Request) → k < length (list_of state handed)
      → HasEnded (step tree state handed) (slice_index_or (list_of state handed) k d)
      ⊎ ((i : ℕ) × (x : Request) × (i < k) × (i < length (step tree state handed).waiting) × (slice_index_or (step tree state handed).waiting i x ≡ x)
      × (x.q ≡ (slice_index_or (list_of state handed) k d).q))
  moves state handed h k d below =
      let list = list_of state handed in
      let request = slice_index_or list k d in
      let waiting = (step tree state handed).waiting in
      let test : Request → Bool = λ other. other.q == request.q in
      let Goal = HasEnded (step tree state handed) request ⊎ ((i : ℕ) × (x : Request) × (i < k) × (i < length waiting) × (slice_index_or waiting i x ≡ x)
      × (x.q ≡ request.q)) in
      elim (list_any test waiting) as (λ b. list_any test waiting ≡ b → Goal) [
        | false ↦ λ e. inl (λ i x within same. false≢true (sym e ∙ list_any_at test waiting i x within (eq-eqb _ _ same)))
        | true ↦ λ e.
            let at = Any-from_list_any test waiting e in
            let i = at.0 in
            let x = at.1 in
            let same : x.q ≡ request.q = eqb-true x.q request.q at.4 in
            let before = (progress state handed (omega (arith, below))).sooner i at.2 in
            let j = before.0 in
            let there : slice_index_or list j d ≡ x = get_or_from_slice_get list j x d (sym before.2.1 ∙ slice_get-get_or waiting i x at.2 ∙ ap Some at.3) in
            let place : i < k = elim (cases_lt k j) [
              | inl beyond ↦
                  let less : request.q < (slice_index_or list j d).q =
                  rise-pairs (λ request. request.q) 0 list (state.requests + length handed.calls) (list-rises state handed h) k j d beyond before.1 in
                  let equal : (slice_index_or list j d).q ≡ request.q = ap (λ (x : Request). x.q) there ∙ same in
                  absurd (omega (arith, less, equal))
              | inr upto ↦ let earlier = before.2.0 in omega (arith, earlier, upto)
            ] in
            inr (i, x, place, at.2, at.3, same)
      ] refl

  within : (state : State) (handed : Handed) (rest : List Handed) → IsNumbered state → (k : ℕ) (d : Request) → k < length (list_of state handed)
      → k ≤ length rest
      → HasEnded (run tree state (handed ∷ rest)) (slice_index_or (list_of state handed) k d)
  within state handed [] h k d below early = elim (moves state handed h k d below) [
    | inl ended ↦ ended
    | inr at ↦ let place = at.2 in
        absurd (omega (arith, place, early))
  ]
  within state handed (handed_next ∷ rest) h k d below early =
      let list = list_of state handed in
      let request = slice_index_or list k d in
      let next = step tree state handed in
      let after = run tree next (handed_next ∷ rest) in
      let numbers = keeps_numbers tree state handed h in
      elim (moves state handed h k d below) [
        | inl ended ↦ stays_ended next (handed_next ∷ rest) request numbers
            (rise-below (λ request. request.q) 0 list (state.requests + length handed.calls) (list-rises state handed h) k d below) ended
        | inr at ↦
            let place = at.2 in
            let inside = at.3 in
            let new = numbered next.requests handed_next.calls in
            let long = length-append next.waiting new in
            let same : (slice_index_or (list_of next handed_next) at.0 at.1).q ≡ request.q =
            ap (λ (x : Request). x.q) (get_or_append_left next.waiting new at.1 at.0 inside ∙ at.4) ∙ at.5 in
            subst (λ q. All (λ waiting. waiting.q ≢ q) after.waiting) same
            (within next handed_next rest numbers at.0 at.1 (omega (arith, long, inside)) (omega (arith, place, early)))
      ]

  pub finishes_within : (state : State) (handed : Handed) (rest : List Handed) → IsNumbered state → FinishesWithin tree state handed rest
  finishes_within state handed rest h = λ k d below.
      let list = list_of state handed in
      let long = length-take (length rest + 1) list in
      let early : k < length rest + 1 = omega (arith, long, below) in
      subst (HasEnded (run tree state (handed ∷ rest))) (sym (get_or-take (length rest + 1) list k d early))
      (within state handed rest h k d (omega (arith, long, below)) (omega (arith, early)))
