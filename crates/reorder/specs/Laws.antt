-- What the TIDs of an order name in the batch's list.
use Rattle.std.specs.Prelude.{◌≡◌, ℕ, ◌-◌, List, map, Some}
use Rattle.std.specs.List.{slice_get}
use Rattle.batch_rules.specs.declared.verdicts.Verdict.{Verdict}
use Rattle.batch_rules.specs.Batches.{Entry, has_ended, placed, ordered}
use Rattle.reorder.specs.Orders.{placed_tids, ordered_tids}

-- at each of these places of the list, from 1, stands the item that is named
pub record Names {X : Type 0} (list : List X) (tids : List ℕ) (named : List X) : Type 0 where
  pub each : map (λ tid. slice_get list (tid - 1)) tids ≡ map Some named

-- of a list whose items tell a verdict the TIDs name the items as they are placed
abbrev pub PlacedNames : {X : Type 0} → (X → Verdict) → List X → Type 0
PlacedNames verdict_of list = Names list (placed_tids (map verdict_of list)) (placed verdict_of list)

-- of a batch's entries they name the printed order
abbrev pub OrderedNames : {K Q A : Type 0} → List (Entry K Q A) → Type 0
OrderedNames entries =
    Names entries (ordered_tids (map (λ e. e.judged.verdict) entries) (map (λ e. has_ended e.fate) entries)) (ordered entries)
