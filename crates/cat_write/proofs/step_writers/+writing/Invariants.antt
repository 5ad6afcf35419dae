use Rattle.std.proofs.Common.{◌≡◌, ◌+◌, ◌*◌, ◌++◌, map, drop}
use Rattle.serde_json.specs.View.{view}
use Rattle.proc_lang.specs.Steps.{step_size, steps_size}
use Rattle.proc_lang.specs.Syntax.{step_of, steps_of}
use Rattle.cat_forms.specs.Written.{steps_data}
use Rattle.cat_write.specs.Held.{steps_held}
use Rattle.cat_write.proofs.step_writers.+writing.Given as goal

abbrev pub decreases-write_stmt : goal.decreases-write_stmt
decreases-write_stmt l = 2 * step_size (step_of l.stmt.now)

abbrev pub decreases-write_if : goal.decreases-write_if
decreases-write_if l = 2 * (steps_size l.first.now + steps_size l.second.now) + 1

abbrev pub decreases-write_each : goal.decreases-write_each
decreases-write_each l = 2 * steps_size l.block.now + 1

abbrev pub decreases-write_block : goal.decreases-write_block
decreases-write_block l = 2 * steps_size l.block.now

-- what is written and what is left are all; it is all held where what is left is
abbrev pub invariant-write_block-loop-stmt : goal.invariant-write_block-loop-stmt
invariant-write_block-loop-stmt l = record {
  data_of : map view l.values.items ++ steps_data l.tables (steps_of (drop l.stmt-index l.stmt-items)) ≡ steps_data l.tables l.block;
  held : steps_held l.block ≡ steps_held (steps_of (drop l.stmt-index l.stmt-items));
}
