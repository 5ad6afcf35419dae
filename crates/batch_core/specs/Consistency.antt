-- A batch leaves consistent rows, where each run does.
use Rattle.std.specs.List.{All}
use Rattle.std.specs.Prelude.{List}
use Rattle.aria_base.specs.Orders.{Cells, Database}
use Rattle.aria_base.specs.Schemas.{IsConsistent}
use Rattle.aria_base.specs.declared.keys.Key.{Key}
use Rattle.aria_base.specs.declared.calls.Request.{Request}
use Rattle.aria_base.specs.declared.schemas.Table.{Table}
use Rattle.proc_lang.specs.declared.ends.End.{End}
use Rattle.proc_lang.specs.Meaning.{is_done}
use Rattle.batch_rules.specs.Trees.{Tree}
use Rattle.batch_rules.specs.Touches.{map_after}
use Rattle.batch_core.specs.Steps.{State, Handed, list_of, step}

module _ (schema : List Table) (tree : Request → Tree Key Cells End) where
  -- on whatever consistent rows it runs, the request leaves consistent rows
  abbrev pub LeavesConsistent : Request → Type 0
  LeavesConsistent request = (rows : Database) → IsConsistent schema rows → IsConsistent schema (map_after is_done (tree request) rows)

  -- where each request of its list does, the batch leaves consistent rows behind such
  abbrev pub StaysConsistent : State → Handed → Type 0
  StaysConsistent state handed = All LeavesConsistent (list_of state handed) → IsConsistent schema state.rows
      → IsConsistent schema (step tree state handed).rows
