-- A batch of nodes is a batch whose late fold never runs.
use Rattle.std.proofs.Common.{◌≡◌, ℕ, ◌*◌, ◌<◌, ◌≤◌, ⊎_elim, List, [], ◌∷◌, ◌++◌, map, length, Bool, true, false, cond, refl, sym, ap, ◌∙◌, Ordering, arith}
use Rattle.std.specs.Prelude.{slice_index_or, if◌then◌else◌, nat_lt, nat_le}
use Rattle.std.specs.List.{filter}
use Rattle.std.proofs.lemmas.Bool.{cases_lt, le-ltb, lt-leb, and_left, and_right}
use Rattle.std.proofs.lemmas.Simd.{map-map}
use Rattle.batch_rules.specs.declared.verdicts.Verdict.{Verdict}
use Rattle.batch_rules.specs.declared.verdicts.Verdict.TheVariants.{Finish, Wait}
use Rattle.batch_rules.specs.Verdicts.{waits}
use Rattle.batch_rules.specs.Batches.{Carrier, Judged, Entry, waiting, late_runs, late_results, late_rest, after_commit, settled, fate_after, is_carried}
use Rattle.batch_rules.specs.Batches.{carried}
use Rattle.batch_rules.proofs.Lists.{filter-map}
use Rattle.node_rules.specs.Nets.{Net}
use Rattle.node_rules.specs.Truths.{Between, carrier, judged_list}
use Rattle.node_rules.specs.Laws.{IsBatch}
use Rattle.node_rules.proofs.Places.{settled-map}

fewer : {X : Type 0} (p : X → Bool) (xs : List X) → length (filter p xs) ≤ length xs
fewer p [] = omega arith
fewer p (x ∷ xs) = let rest = fewer p xs in
    elim (p x) as (λ b. length (cond b (x ∷ filter p xs) (filter p xs)) ≤ length (x ∷ xs)) [ true ↦ omega arith | false ↦ omega arith ]

never : (percent all few : ℕ) → 100 < percent → few ≤ all → 0 < few → few * 100 < percent * all
never percent all few high le some = grind arith

-- a late fold that would take more than all never runs
pub no_late : {O : Type 0} (percent : ℕ) → 100 < percent → (ds : List (Judged O)) → late_runs percent ds ≡ false
no_late percent high ds =
    let few = length (waiting ds) in
    ⊎_elim
    (λ some. and_right (nat_lt 0 few) _
    (lt-leb (percent * length ds) (few * 100) (never percent (length ds) few high (fewer (λ d. waits d.verdict) ds) some)))
    (λ none. and_left _ (nat_le (percent * length ds) (few * 100)) (le-ltb 0 few none))
    (cases_lt 0 few)

wait_carried : {K V A O : Type 0} (by : Carrier K V A O) (d : Judged O) (v : Verdict)
    → waits v ≡ is_carried {K = K} {O = O} {A = A} (record { judged = d; fate = fate_after by d.request v [] })
wait_carried by d (Finish raw) = refl
wait_carried by d (Wait cause) = refl

module _ {K V Q A : Type 0} {R : K → K → Ordering} (net : Net R V Q A) where
  pub is_batch : (percent : ℕ) → 100 < percent → (new : List Q) (b : Between R V Q) → IsBatch net percent new b
  is_batch percent high new b =
      let by = carrier net b.rows in
      let ds = judged_list net b.rows (b.waiting ++ new) in
      let none = no_late percent high ds in
      let lates = late_results by net.is_done net.tree (after_commit by b.rows ds) ds in
      let entries : settled by ds [] ≡ settled by ds (if late_runs percent ds then lates else []) =
      ap (λ r. settled by ds (if r then lates else [])) (sym none) in
      record {
        rows = ap (λ r. if r then late_rest by net.is_done net.tree (after_commit by b.rows ds) ds else after_commit by b.rows ds) (sym none);
        waiting = sym (map-map (λ (e : Entry K Q A). e.judged.request)
            (λ (d : Judged Q). record { judged = d; fate = fate_after by d.request d.verdict [] }) (waiting ds))
            ∙ ap (map (λ (e : Entry K Q A). e.judged.request))
            (filter-map (λ (d : Judged Q). record { judged = d; fate = fate_after by d.request d.verdict [] }) (λ d. waits d.verdict) is_carried ds
            (λ k d lt. wait_carried by (slice_index_or ds k d) (slice_index_or ds k d).verdict))
            ∙ ap (λ es. map (λ (e : Entry K Q A). e.judged.request) (carried es)) (sym (settled-map by ds) ∙ entries);
        entries = entries;
      }
