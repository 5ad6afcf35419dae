use Rattle.std.proofs.Common.{◌≡◌, map, take}
use Rattle.aria_base.specs.declared.values.Value.TheVariants as value
use Rattle.tpcc_load.proofs.rows.values.Given as goal

abbrev pub invariant-loop-column : goal.invariant-loop-column
invariant-loop-column l = l.values.items ≡ map value.Int (take l.column-index l.columns)
