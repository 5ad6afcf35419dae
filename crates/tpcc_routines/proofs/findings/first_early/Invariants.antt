use Rattle.std.proofs.Common.{◌≡◌, drop, map}
use Rattle.std.specs.Map.Iter.{deref_pair}
use Rattle.tpcc_routines.specs.Sound.{lines_finding}
use Rattle.tpcc_routines.proofs.findings.first_early.Given as goal

abbrev pub invariant-loop-key : goal.invariant-loop-key
invariant-loop-key l = lines_finding l.tables (map deref_pair (drop l.key-index l.rows)) ≡ lines_finding l.tables (map deref_pair l.rows)
