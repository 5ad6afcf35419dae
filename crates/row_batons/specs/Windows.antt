-- Rows at the keys of slots.
use Rattle.std.specs.Prelude.{◌≡◌, ℕ, List, [], ◌∷◌, map, Option}
use Rattle.std.specs.declared.cmp.Ordering.{Ordering}
use Rattle.std.specs.FinMap as fin
use Rattle.std.specs.FinMap.{FinMap}
use mathlib.Core.Option as std_option
use mathlib.Core.Option.{none, some}
use lib.ListN.{get_elem?}
use Rattle.batch_rules.specs.Trees.{set_at}
use Rattle.row_batons.specs.Fallbacks.{row_at}

module _ {K V : Type 0} {R : K → K → Ordering} where
  abbrev pub set_row : FinMap R V → std_option.Option K → Option V → FinMap R V
  set_row db none row = db
  set_row db (some q) row = set_at db q row

  -- the database with the rows at the keys of these slots
  abbrev pub laid : FinMap R V → List K → List ℕ → List (Option V) → FinMap R V
  laid db keys [] rows = db
  laid db keys (k ∷ ks) [] = db
  laid db keys (k ∷ ks) (r ∷ rs) = laid (set_row db (get_elem? keys k) r) keys ks rs

  -- the rows at the keys of these slots
  abbrev pub rows_of : FinMap R V → List K → List ℕ → List (Option V)
  rows_of db keys ks = map (λ k. row_at db (get_elem? keys k)) ks

-- the rows are those of the keys of these slots, in their order
abbrev pub AreAt : {K V : Type 0} → List K → List ℕ → List (K × Option V) → Type 0
AreAt keys ks rows = map (λ w. some w.0) rows ≡ map (λ k. get_elem? keys k) ks

-- each key stands at one place
abbrev pub AreApart : {K : Type 0} → List K → Type 0
AreApart {K} keys = (j k : ℕ) (q : K) → get_elem? keys j ≡ some q → get_elem? keys k ≡ some q → j ≡ k

-- the rows at the keys
abbrev pub rows_in : {K V : Type 0} {R : K → K → Ordering} → FinMap R V → List K → List (Option V)
rows_in db keys = map (λ q. fin.get db q) keys

-- keys and rows, side by side
abbrev pub paired : {K V : Type 0} → List K → List (Option V) → List (K × Option V)
paired [] rows = []
paired (k ∷ ks) [] = []
paired (k ∷ ks) (r ∷ rs) = (k, r) ∷ paired ks rs
