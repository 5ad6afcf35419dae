-- The runs of works that are taken tell their keys from their prefixes, and touch few of them.
use Rattle.std.proofs.Common.{ℕ, zero, suc, ◌≡◌, ◌<◌, ◌≤◌, List, [], ◌∷◌, map, length, slice_get, Bool, true, false, Some, None, Option, refl, subst, sym, ap, arith}
use Rattle.std.specs.Prelude.{nat_le, slice_index_or, take, IsSomeAnd}
use Rattle.std.specs.List.{All, list_all}
use Rattle.std.proofs.lemmas.Bool.{and_parts, leb-true, ne_eqb}
use Rattle.std.proofs.lemmas.Grind.{common_steps}
use Rattle.std.proofs.lemmas.List.Elements.{All-map}
use Rattle.aria_base.specs.Kinds.{part_kind}
use Rattle.aria_base.specs.Orders.{Database}
use Rattle.aria_base.specs.declared.keys.Part.{Part}
use Rattle.aria_base.specs.declared.limits.TheConstants.{FEWEST_PARTS, MOST_PARTS}
use Rattle.aria_base.specs.declared.schemas.Table.{Table}
use Rattle.proc_lang.specs.Catalogs.{Plan, IsCatalog, is_between, table_fits, run_of}
use Rattle.range_rules.specs.declared.routines.Action.{Action}
use Rattle.range_rules.specs.declared.routines.NumberedWork.{NumberedWork}
use Rattle.range_rules.specs.declared.routines.Prefix.{Prefix}
use Rattle.range_rules.specs.declared.routines.Ran.{Ran}
use Rattle.range_rules.specs.declared.routines.RoutineCall.{RoutineCall}
use Rattle.range_rules.specs.declared.routines.Seen.{Seen}
use Rattle.range_rules.specs.declared.routines.TheConstants.{MOST_ACTIONS}
use Rattle.range_rules.specs.Courses.{ran_on}
use Rattle.range_rules.specs.Scans.{key_at}
use Rattle.range_suits.specs.Laws.{IsWell}
use Rattle.range_suits.specs.Suits.{FitsPrefix, has_parts, is_whole}
use Rattle.range_marks.specs.Decisions.{TellsKeys, AreApart, touch_count}
use Rattle.range_runs.specs.Marks.{mark_of, whole_table}

-- a place behind a list has nothing
not_there : {X : Type 0} (xs : List X) (n : ℕ) → length xs ≤ n → slice_get xs n ≡ None
not_there [] n few = refl
not_there (x ∷ xs) zero few = absurd (omega (arith, few))
not_there (x ∷ xs) (suc n) few = not_there xs n (omega (arith, few))

-- what stands in a list passes the test that all of it passes
with_test : (test : Table → Bool) (P : Table → Type 0) (tables : List Table) (n : ℕ) → list_all test tables ≡ true → IsSomeAnd (slice_get tables n) P
    → IsSomeAnd (slice_get tables n) (λ table. P table × (test table ≡ true))
with_test test P [] n all some = absurd some
with_test test P (t ∷ ts) zero all some = (some, (and_parts (test t) (list_all test ts) all).0)
with_test test P (t ∷ ts) (suc n) all some = with_test test P ts n (and_parts (test t) (list_all test ts) all).1 some

few_parts : (table : Table) → table_fits table ≡ true → length table.key ≤ MOST_PARTS
few_parts table f =
    let parts : is_between FEWEST_PARTS MOST_PARTS (length table.key) ≡ true = grind (arith, common_steps, f) in
    leb-true (length table.key) MOST_PARTS
    (and_parts (nat_le FEWEST_PARTS (length table.key)) (nat_le (length table.key) MOST_PARTS) parts).1

abbrev Shorter : Prefix → Table → Type 0
Shorter p table = (length p.parts < length table.key) × (map part_kind p.parts ≡ take (length p.parts) table.key)

-- the key that stands for a prefix is not whole, and has fewer parts than a key may have
not_whole : (plan : Plan) → IsCatalog plan → (p : Prefix) → FitsPrefix plan.tables p
    → (is_whole plan.tables (mark_of p) ≡ false) × (length p.parts < MOST_PARTS)
not_whole plan catalog p fits =
    let both = at (slice_get plan.tables p.table) (with_test table_fits (Shorter p) plan.tables p.table catalog.tables_fit fits) in
    (whole_at p.parts both.0, both.1)
  where
    at : (table : Option Table) → IsSomeAnd table (λ table. Shorter p table × (table_fits table ≡ true))
        → (has_parts table (length p.parts) ≡ false) × (length p.parts < MOST_PARTS)
    at None some = absurd some
    at (Some table) some =
        let most = few_parts table some.1 in
        (ne_eqb (length table.key) (length p.parts) (λ e. omega (arith, some.0.0, e)), omega (arith, some.0.0, most))

    whole_at : (ps : List Part) → has_parts (slice_get plan.tables p.table) (length ps) ≡ false
        → is_whole plan.tables (key_at (whole_table p.table) p.table ps) ≡ false
    whole_at [] e = ap (λ table. has_parts table MOST_PARTS) (not_there plan.tables (whole_table p.table).table (omega (arith, catalog.few_tables)))
    whole_at (x ∷ xs) e = e

module _ (plan : Plan) (catalog : IsCatalog plan) (taken : RoutineCall → Bool) (act : ℕ → RoutineCall → List Seen → Action) (db : Database)
    (list : List NumberedWork)
    (well : All (λ w. IsWell plan taken act w db) list) (rans : List Ran) (are : rans ≡ map (ran_on (run_of plan) act db) list) where
  pub few-touched : All (λ ran. touch_count ran ≤ MOST_ACTIONS) rans
  few-touched = subst (All (λ ran. touch_count ran ≤ MOST_ACTIONS)) (sym are)
      (All-map (λ ran. touch_count ran ≤ MOST_ACTIONS) (ran_on (run_of plan) act db) list (λ k d below. (well k d below).few))

  tells : (w : NumberedWork) → IsWell plan taken act w db → TellsKeys (is_whole plan.tables) (ran_on (run_of plan) act db w)
  tells w h = record {
    reads = h.fits.reads;
    writes = h.fits.writes;
    scans = λ k d below. (not_whole plan catalog (slice_index_or (ran_on (run_of plan) act db w).scans k d) (h.fits.scans k d below)).0;
    short = λ k d below. (not_whole plan catalog (slice_index_or (ran_on (run_of plan) act db w).scans k d) (h.fits.scans k d below)).1;
  }

  pub are-apart : AreApart rans
  are-apart = record {
    whole = is_whole plan.tables;
    each = subst (All (TellsKeys (is_whole plan.tables))) (sym are)
        (All-map (TellsKeys (is_whole plan.tables)) (ran_on (run_of plan) act db) list (λ k d below. tells (slice_index_or list k d) (well k d below)));
  }
