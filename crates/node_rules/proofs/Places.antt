-- The list of a batch by the places of its requests: TIDs, requests and verdicts side by side.
use Rattle.std.proofs.Common.{◌≡◌, ℕ, zero, suc, ◌+◌, ◌-◌, ◌≤◌, List, [], ◌∷◌, ◌++◌, map, length, take, Some, refl, sym, ap, ◌∙◌, subst, arith}
use Rattle.std.specs.Prelude.{slice_get}
use Rattle.std.specs.List.{All, enumerate_from, range_with_len}
use Rattle.std.proofs.lemmas.List.{append_assoc, length-append}
use Rattle.std.proofs.lemmas.List.Elements.{All-nil, All-cons}
use Rattle.batch_rules.specs.declared.verdicts.Rule.{Rule}
use Rattle.batch_rules.specs.declared.verdicts.Verdict.{Verdict}
use Rattle.batch_rules.specs.declared.verdicts.Verdict.TheVariants.{Finish, Wait}
use Rattle.batch_rules.specs.Verdicts.{Dependencies, verdict_on}
use Rattle.batch_rules.specs.Batches.{Carrier, Judged, judge, judged, settled, fate_after, lates_behind}
use Rattle.node_rules.specs.Nets.{tids}

module _ {O : Type 0} (on : Dependencies O) (rule : Rule) where
  pub tids-judged : (earlier list : List O) → map (λ d. d.tid) (judged on rule earlier list) ≡ range_with_len (length earlier + 1) (length list)
  tids-judged earlier [] = refl
  tids-judged earlier (o ∷ os) = ap (λ l. (length earlier + 1) ∷ l) (tids-judged (earlier ++ o ∷ []) os
      ∙ ap (λ n. range_with_len (n + 1) (length os)) (length-append earlier (o ∷ [])))

  pub requests-placed : (earlier list : List O) → map (λ d. (d.tid, d.request)) (judged on rule earlier list) ≡ enumerate_from (length earlier + 1) list
  requests-placed earlier [] = refl
  requests-placed earlier (o ∷ os) =
      ap (λ l. (length earlier + 1, o) ∷ l) (requests-placed (earlier ++ o ∷ []) os ∙ ap (λ n. enumerate_from (n + 1) os) (length-append earlier (o ∷ [])))

  -- a request of the list at its TID, with its verdict
  pub record Stands (list : List O) (d : Judged O) : Type 0 where
    pub low : 1 ≤ d.tid
    pub at : slice_get list (d.tid - 1) ≡ Some d.request
    pub verdict : d.verdict ≡ verdict_on on rule (take (d.tid - 1) list) d.request

  take_front : (us vs : List O) → take (length us) (us ++ vs) ≡ us
  take_front [] vs = refl
  take_front (u ∷ us) vs = ap (λ l. u ∷ l) (take_front us vs)

  get_front : (us : List O) (v : O) (vs : List O) → slice_get (us ++ v ∷ vs) (length us) ≡ Some v
  get_front [] v vs = refl
  get_front (u ∷ us) v vs = get_front us v vs

  stands_from : (earlier list : List O) → All (Stands (earlier ++ list)) (judged on rule earlier list)
  stands_from earlier [] = All-nil (Stands (earlier ++ []))
  stands_from earlier (o ∷ os) =
      let here : length earlier + 1 - 1 ≡ length earlier = omega arith in
      All-cons (Stands (earlier ++ o ∷ os)) (judge on rule earlier o) (judged on rule (earlier ++ o ∷ []) os)
      (record {
        low = omega arith;
        at = ap (slice_get (earlier ++ o ∷ os)) here ∙ get_front earlier o os;
        verdict = ap (λ l. verdict_on on rule l o) (sym (ap (λ n. take n (earlier ++ o ∷ os)) here ∙ take_front earlier (o ∷ os)));
      })
      (subst (λ l. All (Stands l) (judged on rule (earlier ++ o ∷ []) os)) (append_assoc earlier (o ∷ []) os) (stands_from (earlier ++ o ∷ []) os))

  pub all_stand : (list : List O) → All (Stands list) (judged on rule [] list)
  all_stand list = stands_from [] list

  pub list_tids : (list : List O) → tids list ≡ map (λ d. d.tid) (judged on rule [] list)
  list_tids list = sym (tids-judged [] list)

  pub list_requests : (list : List O) → enumerate_from 1 list ≡ map (λ d. (d.tid, d.request)) (judged on rule [] list)
  list_requests list = sym (requests-placed [] list)

none_behind : {K A : Type 0} (v : Verdict) → lates_behind {K = K} {A = A} v [] ≡ []
none_behind (Finish raw) = refl
none_behind (Wait cause) = refl

-- without a late fold
pub settled-map : {K V A O : Type 0} (by : Carrier K V A O) (ds : List (Judged O))
    → settled by ds [] ≡ map (λ d. record { judged = d; fate = fate_after by d.request d.verdict [] }) ds
settled-map by [] = refl
settled-map by (d ∷ ds) = ap (λ l. record { judged = d; fate = fate_after by d.request d.verdict [] } ∷ l) (ap (settled by ds) (none_behind d.verdict)
    ∙ settled-map by ds)

-- a function of the TIDs that is one of the requests, on the first of them
pub map_places : {X Y : Type 0} (f : ℕ → Y) (g : X → Y) (i : ℕ) (list : List X) → ((t : ℕ) (x : X) → i ≤ t → slice_get list (t - i) ≡ Some x → f t ≡ g x)
    → (n : ℕ) → map f (take n (range_with_len i (length list))) ≡ map g (take n list)
map_places f g i [] h zero = refl
map_places f g i [] h (suc n) = refl
map_places f g i (x ∷ xs) h zero = refl
map_places f g i (x ∷ xs) h (suc n) =
    let here : zero ≡ i - i = omega arith in
    let same = h i x (omega arith) (ap (slice_get (x ∷ xs)) (sym here)) in
    let rest = map_places f g (i + 1) xs (λ t y low e. let at : suc (t - (i + 1)) ≡ t - i = omega arith in
    h t y (omega arith) (ap (slice_get (x ∷ xs)) (sym at) ∙ e)) n in
    λ j. same j ∷ rest j
