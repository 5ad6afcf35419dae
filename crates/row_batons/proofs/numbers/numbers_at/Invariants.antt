use Rattle.std.proofs.Common.{◌≡◌, ◌++◌, map, drop}
use Rattle.dep_rules.specs.Sheets.{reads_at, writes_at}
use Rattle.row_batons.proofs.numbers.numbers_at.Given as goal

abbrev pub invariant-loop-tid : goal.invariant-loop-tid
invariant-loop-tid l =
    (l.reads ++ map (reads_at l.numbered) (drop l.tid-index l.tids) ≡ map (reads_at l.numbered) l.tids)
    × (l.writes ++ map (writes_at l.numbered) (drop l.tid-index l.tids) ≡ map (writes_at l.numbered) l.tids)
