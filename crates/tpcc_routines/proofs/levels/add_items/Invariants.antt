use Rattle.std.proofs.Common.{◌≡◌, drop}
use Rattle.tpcc_routines.specs.Routines.{with_items}
use Rattle.tpcc_routines.proofs.levels.add_items.Given as goal

abbrev pub invariant-loop-line : goal.invariant-loop-line
invariant-loop-line l = with_items l.items.keys (drop l.line-index l.lines) ≡ with_items l.initial.items.keys l.lines
