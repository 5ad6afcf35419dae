-- What is proved of a batch of works, as sentences over the definitions.
use Rattle.std.specs.Prelude.{ℕ, List}
use Rattle.std.specs.List.{All}
use Rattle.aria_base.specs.Orders.{Cells, Database}
use Rattle.aria_base.specs.Schemas.{IsConsistent}
use Rattle.aria_base.specs.declared.calls.Request.{Request}
use Rattle.aria_base.specs.declared.keys.Key.{Key}
use Rattle.aria_base.specs.declared.schemas.Table.{Table}
use Rattle.batch_rules.specs.declared.verdicts.Rule.{Rule}
use Rattle.batch_rules.specs.Trees.{Tree}
use Rattle.proc_lang.specs.declared.ends.End.{End}
use Rattle.range_rules.specs.declared.routines.Action.{Action}
use Rattle.range_rules.specs.declared.routines.NumberedWork.{NumberedWork}
use Rattle.range_rules.specs.declared.routines.RoutineCall.{RoutineCall}
use Rattle.range_rules.specs.declared.routines.Seen.{Seen}
use Rattle.range_rules.specs.Batches.{answer_of, batch_of}
use Rattle.range_rules.specs.Courses.{left_on}
use Rattle.range_rules.specs.Serials.{IsSerialAnswer, IsProgress}

module _ (tree : Request → Tree Key Cells End) (act : ℕ → RoutineCall → List Seen → Action) where
  -- the batch's answer, with the number that it is given, is serialised by its order
  abbrev pub IsSerialBatch : Rule → Database → List NumberedWork → ℕ → Type 0
  IsSerialBatch rule start list number =
      let b = batch_of tree act rule start list in IsSerialAnswer tree act start list (answer_of number b) b.rows b.carried

  abbrev pub MakesProgress : Rule → Database → List NumberedWork → ℕ → Type 0
  MakesProgress rule start list number =
      let b = batch_of tree act rule start list in IsProgress tree act start list (answer_of number b) b.carried

  module _ (schema : List Table) where
    -- on whatever consistent rows it runs, the work leaves consistent rows
    abbrev pub LeavesConsistent : NumberedWork → Type 0
    LeavesConsistent w = (db : Database) → IsConsistent schema db → IsConsistent schema (left_on tree act db w)

-- where each work of its list does, the batch leaves consistent rows behind such
abbrev pub StaysConsistent : List Table → (Request → Tree Key Cells End) → (ℕ → RoutineCall → List Seen → Action) → Rule → Database
    → List NumberedWork → Type 0
StaysConsistent schema tree act rule start list = All (LeavesConsistent tree act schema) list → IsConsistent schema start
    → IsConsistent schema (batch_of tree act rule start list).rows
