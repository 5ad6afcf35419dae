use Rattle.std.proofs.Common.{◌≡◌, map, take}
use Rattle.proc_lang.specs.Syntax.{step_of}
use Rattle.proc_lang.proofs.statements.+copying.Given as goal

abbrev pub invariant-BlockDuplicate::duplicate-loop-item : goal.invariant-BlockDuplicate::duplicate-loop-item
invariant-BlockDuplicate::duplicate-loop-item l = map step_of l.copy.items ≡ map step_of (take l.item-index l.item-items)
