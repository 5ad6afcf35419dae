-- Requests one after the other, each in place on what the ones before it left.
use Rattle.std.specs.Prelude.{List, [], ◌∷◌, Bool}
use Rattle.std.specs.declared.cmp.Ordering.{Ordering}
use Rattle.std.specs.FinMap.{FinMap}
use Rattle.batch_rules.specs.Trees.{Tree, end_of}
use Rattle.batch_rules.specs.Touches.{map_after}

module _ {K V Q A : Type 0} {R : K → K → Ordering} (is_done : A → Bool) (tree : Q → Tree K V A) where
  abbrev pub serial_ends : FinMap R V → List Q → List A
  serial_ends db [] = []
  serial_ends db (q ∷ qs) = end_of (tree q) db ∷ serial_ends (map_after is_done (tree q) db) qs

  abbrev pub serial_map : FinMap R V → List Q → FinMap R V
  serial_map db [] = db
  serial_map db (q ∷ qs) = serial_map (map_after is_done (tree q) db) qs
