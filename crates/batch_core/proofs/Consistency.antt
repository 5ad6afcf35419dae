-- A batch leaves consistent rows, where each run does.
use Rattle.std.proofs.Common.{List}
use Rattle.aria_base.specs.Orders.{Cells}
use Rattle.aria_base.specs.Schemas.{IsConsistent}
use Rattle.aria_base.specs.declared.keys.Key.{Key}
use Rattle.aria_base.specs.declared.calls.Request.{Request}
use Rattle.aria_base.specs.declared.schemas.Table.{Table}
use Rattle.aria_base.proofs.Orders.{key_cmp_total, key_cmp-IsAntisymmetric}
use Rattle.proc_lang.specs.declared.ends.End.{End}
use Rattle.proc_lang.specs.Meaning.{is_done}
use Rattle.batch_rules.specs.Trees.{Tree}
use Rattle.batch_rules.proofs.Keeping.{kept_by_batch}
use Rattle.batch_core.specs.Consistency.{StaysConsistent}
use Rattle.batch_core.specs.Steps.{State, Handed, list_of}

pub stays_consistent : (schema : List Table) (tree : Request → Tree Key Cells End) (state : State) (handed : Handed) → StaysConsistent schema tree state handed
stays_consistent schema tree state handed each before =
    kept_by_batch key_cmp_total key_cmp-IsAntisymmetric is_done tree (IsConsistent schema) handed.rule handed.percent state.rows
    (list_of state handed) each before
