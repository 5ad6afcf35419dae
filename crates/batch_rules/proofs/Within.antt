-- A run within its declared keys: it writes declared keys alone, and what stands at other keys does not matter to it.
use Rattle.std.proofs.Common.{◌≡◌, List, [], ◌∷◌, Bool, true, false, Some, None, Option, refl, sym, ap, ◌∙◌, Ordering}
use Rattle.std.specs.Prelude.{if◌then◌else◌, ◌||◌}
use Rattle.std.specs.Ordering.{eq_by_cmp}
use Rattle.std.specs.Cmp.{IsTotalOrder}
use Rattle.std.specs.FinMap as fin
use Rattle.std.specs.FinMap.{FinMap, IsAntisymmetric}
use Rattle.std.proofs.lemmas.Bool.{false≢true, false_from_ne_true}
use Rattle.batch_rules.specs.Trees.{Tree, Visit, Read, Write, trace_of, end_of}
use Rattle.batch_rules.specs.Touches.{Noted, nothing, noted, all_noted, is_among, keys_of, Declared, may_read, may_write, outside, writes_of, map_after, overwritten}
use Rattle.batch_rules.specs.Batches.{has_ended, fate_by, late_fate, late_map}
use Rattle.batch_rules.specs.Laws.{AgreeWithin, Confined}
use Rattle.batch_rules.specs.Waves.{late_rows}
use Rattle.batch_rules.proofs.Agree.{strays, outside-is}
use Rattle.batch_rules.proofs.Installs.{get-apart}
use Rattle.batch_rules.proofs.Maps.{same_key, is_among-with_write, map_after-is}

module _ {K V : Type 0} {R : K → K → Ordering} (o : IsTotalOrder R) (anti : IsAntisymmetric R) (declared : Declared K) where
  written : (visits : List (Visit K V)) (n : Noted K V) → outside R declared visits ≡ None
      → ((q : K) → is_among R (keys_of n.writes) q ≡ true → may_write R declared q ≡ true)
      → (q : K) → is_among R (keys_of (all_noted R n visits).writes) q ≡ true → may_write R declared q ≡ true
  written [] n inside h q e = h q e
  written (Read k ∷ visits) n inside h q e = elim (may_read R declared k) as (λ b. (if b then outside R declared visits else Some k) ≡ None
      → may_write R declared q ≡ true) [
        | true ↦ λ inside. written visits (noted R n (Read k)) inside h q e
        | false ↦ λ inside. cc
      ] inside
  written (Write k row ∷ visits) n inside h q e = elim (may_write R declared k) as (λ b. may_write R declared k ≡ b
      → (if b then outside R declared visits else Some k) ≡ None → may_write R declared q ≡ true) [
        | true ↦ λ may inside. written visits (noted R n (Write k row)) inside
            (λ p among. elim (eq_by_cmp R p k) as (λ b. eq_by_cmp R p k ≡ b → (b || is_among R (keys_of n.writes) p) ≡ true → may_write R declared p ≡ true) [
              | true ↦ λ same _. ap (may_write R declared) (same_key anti p k same) ∙ may
              | false ↦ λ other before. h p before
            ] refl (sym (is_among-with_write o anti n.writes k row p) ∙ among)) q e
        | false ↦ λ _ inside. cc
      ] refl inside

module _ {K V A : Type 0} {R : K → K → Ordering} (o : IsTotalOrder R) (anti : IsAntisymmetric R) (is_done : A → Bool) (declared : Declared K)
    (t : Tree K V A) where
  written_keys : (db : FinMap R V) → outside R declared (trace_of t db) ≡ None → (q : K) → is_among R (keys_of (writes_of is_done t db)) q ≡ true
      → may_write R declared q ≡ true
  written_keys db inside q =
      elim (is_done (end_of t db)) as (λ b. is_among R (keys_of (if b then (all_noted R nothing (trace_of t db)).writes else [])) q ≡ true
      → may_write R declared q ≡ true) [
        | true ↦ written o anti declared (trace_of t db) nothing inside (λ q e. cc) q
        | false ↦ λ e. cc
      ]

  pub confined : (db : FinMap R V) → Confined is_done t declared db
  confined db inside = record {
    keys = written_keys db inside;
    rest = λ q e. ap (λ m. fin.get m q) (map_after-is o anti is_done t db)
        ∙ get-apart o anti db (writes_of is_done t db) q (false_from_ne_true _ (λ among. false≢true (sym e ∙ written_keys db inside q among)));
  }

  pub late_map-is : (db : FinMap R V) → late_map is_done declared t db ≡ overwritten db (late_rows is_done declared t db)
  late_map-is db = elim (has_ended (late_fate declared t db)) as (λ b. (if b then map_after is_done t db else db) ≡ overwritten db
      (if b then writes_of is_done t db else [])) [
        | true ↦ map_after-is o anti is_done t db
        | false ↦ refl
      ]

  pub late_keys : (db : FinMap R V) (q : K) → is_among R (keys_of (late_rows is_done declared t db)) q ≡ true → may_write R declared q ≡ true
  late_keys db q e = elim (outside R declared (trace_of t db)) as (λ s. outside R declared (trace_of t db) ≡ s
      → is_among R (keys_of (if has_ended {K = K} (fate_by s (end_of t db)) then writes_of is_done t db else [])) q ≡ true → may_write R declared q ≡ true) [
        | None ↦ λ inside. written_keys db inside q
        | Some k ↦ λ _ e. cc
      ] refl e

  -- what stands at other keys than the declared ones matters to neither
  pub late_agree : (x y : FinMap R V) → AgreeWithin declared x y
      → (late_fate declared t x ≡ late_fate declared t y) × (late_rows is_done declared t x ≡ late_rows is_done declared t y)
  late_agree x y h =
      let Goal = λ (s : Option K). (fate_by s (end_of t x) ≡ fate_by s (end_of t y))
      × ((if has_ended {K = K} (fate_by s (end_of t x)) then writes_of is_done t x else []) ≡ (if has_ended {K = K}
      (fate_by s (end_of t y)) then writes_of is_done t y else [])) in
      let all : Goal (outside R declared (trace_of t x)) = elim (outside R declared (trace_of t x)) as (λ s. outside R declared (trace_of t x) ≡ s → Goal s) [
        | None ↦ λ inside. let run = outside-is o anti is_done t declared x y inside h in (ap (fate_by None) run.0.end, run.0.writes)
        | Some k ↦ λ _. (refl, refl)
      ] refl in
      rw (← strays o t declared x y h) all
