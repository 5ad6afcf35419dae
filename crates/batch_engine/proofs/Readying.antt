-- An engine is ready again after a batch.
use Rattle.std.proofs.Common.{◌≡◌, refl, sym, ap, subst, ◌∙◌, ℕ, suc, ◌+◌, ◌<◌, ◌≤◌, List, [], ◌∷◌, map, length, Bool, true, false, cond, slice_index_or, arith, length-append}
use Rattle.std.specs.List.{All, filter}
use Rattle.std.proofs.lemmas.List.{length-map}
use Rattle.std.proofs.lemmas.List.Elements.{All-nil, All-cons, All-head, All-tail, All-append}
use Rattle.aria_base.specs.Orders.{key_cmp}
use Rattle.aria_base.specs.declared.keys.Key.{Key}
use Rattle.aria_base.specs.declared.calls.Call.{Call}
use Rattle.aria_base.specs.declared.calls.Request.{Request}
use Rattle.aria_base.specs.declared.limits.TheConstants.{GREATEST_NUMBER, MOST_REQUESTS}
use Rattle.batch_core.specs.Steps.{State, Handed, numbered, list_of, step, outcome}
use Rattle.batch_rules.specs.Batches.{Entry, is_carried, on_start, touching}
use Rattle.batch_rules.proofs.Fates.{requests-settled}
use Rattle.batch_core.proofs.Consistency.{stays_consistent}
use Rattle.batch_core.proofs.Serial.{keeps_numbers}
use Rattle.proc_lang.specs.declared.ends.End.{End}
use Rattle.proc_lang.specs.Meaning.{is_done}
use Rattle.proc_lang.specs.Catalogs.{Plan, IsCatalog, takes, run_of}
use Rattle.proc_sound.proofs.Runs.{catalog_stays_consistent_is}
use Rattle.batch_engine.specs.Engines.{IsReady}

pub length-numbered : (n : ℕ) (calls : List Call) → length (numbered n calls) ≡ length calls
length-numbered n [] = refl
length-numbered n (call ∷ calls) = ap suc (length-numbered (n + 1) calls)

pub length-list : (state : State) (handed : Handed) → length (list_of state handed) ≡ length state.waiting + length handed.calls
length-list state handed = length-append state.waiting (numbered state.requests handed.calls)
    ∙ ap (λ n. length state.waiting + n) (length-numbered state.requests handed.calls)

fit-numbered : (plan : Plan) (n : ℕ) (calls : List Call) → All (λ call. takes plan call ≡ true) calls
    → All (λ request. takes plan request.call ≡ true) (numbered n calls)
fit-numbered plan n [] a = All-nil (λ request. takes plan request.call ≡ true)
fit-numbered plan n (call ∷ calls) a = All-cons (λ request. takes plan request.call ≡ true) (record { q = n + 1; call = call }) (numbered (n + 1) calls)
    (All-head (λ call. takes plan call ≡ true) call calls a) (fit-numbered plan (n + 1) calls (All-tail (λ call. takes plan call ≡ true) call calls a))

-- what holds of a list's images holds of those that a filter keeps
All-kept : {X Y : Type 0} (P : Y → Type 0) (f : X → Y) (test : X → Bool) (xs : List X) → All P (map f xs) → All P (map f (filter test xs))
All-kept P f test [] a = All-nil P
All-kept P f test (x ∷ xs) a =
    let rest = All-kept P f test xs (All-tail P (f x) (map f xs) a) in
    elim (test x) as (λ b. All P (map f (cond b (x ∷ filter test xs) (filter test xs)))) [
      | true ↦ All-cons P (f x) (map f (filter test xs)) (All-head P (f x) (map f xs) a) rest
      | false ↦ rest
    ]

few-kept : {X : Type 0} (test : X → Bool) (xs : List X) → length (filter test xs) ≤ length xs
few-kept test [] = omega arith
few-kept test (x ∷ xs) = let rest = few-kept test xs in elim (test x) as (λ b. length (cond b (x ∷ filter test xs) (filter test xs)) ≤ suc (length xs))
    [ true ↦ omega (arith, rest) | false ↦ omega (arith, rest) ]

module _ (plan : Plan) (state : State) (handed : Handed) where
  abbrev next : State
  next = step (run_of plan) state handed

  abbrev list : List Request
  list = list_of state handed

  abbrev Fit : Request → Type 0
  Fit request = takes plan request.call ≡ true

  fit-list : All Fit state.waiting → All (λ call. takes plan call ≡ true) handed.calls → All Fit list
  fit-list old new = All-append Fit state.waiting (numbered state.requests handed.calls) old (fit-numbered plan state.requests handed.calls new)

  abbrev entries : List (Entry Key Request End)
  entries = (outcome (run_of plan) state handed).entries

  entries-list : map (λ e. e.judged.request) entries ≡ list
  entries-list = requests-settled (on_start is_done (run_of plan) state.rows) (touching (on_start is_done (run_of plan) state.rows) key_cmp) handed.rule list _

  pub fewer : length next.waiting ≤ length list
  fewer =
      let kept = few-kept is_carried entries in
      let all = sym (length-map entries (λ e. e.judged.request)) ∙ ap length entries-list in
      omega (arith, kept, all, length-map (filter is_carried entries) (λ e. e.judged.request))

  pub ready-after : IsCatalog plan → IsReady plan state.rows state.waiting state.batches state.requests → All (λ call. takes plan call ≡ true) handed.calls
      → length list ≤ MOST_REQUESTS → state.batches < GREATEST_NUMBER → state.requests + length handed.calls ≤ GREATEST_NUMBER
      → IsReady plan next.rows next.waiting next.batches next.requests
  ready-after whole h new few batches requests =
      let fit = fit-list h.fit new in
      record {
        consistent = stays_consistent plan.tables (run_of plan) state handed
            (λ k d below rows consistent. (catalog_stays_consistent_is plan (slice_index_or list k d) rows whole (fit k d below) consistent).after)
            h.consistent;
        fit = All-kept Fit (λ e. e.judged.request) is_carried entries (subst (All Fit) (sym entries-list) fit);
        numbered = keeps_numbers (run_of plan) state handed h.numbered;
        few = let less = fewer in omega (arith, less, few);
        batches_within = omega (arith, batches);
        requests_within = requests;
      }
