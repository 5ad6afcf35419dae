use Rattle.std.proofs.Common.{◌≡◌, drop}
use Rattle.fallback_locks.specs.LastWaves.{highest, last_writer}
use Rattle.fallback_locks.proofs.levels.last_writer.Given as goal

abbrev pub invariant-loop-key : goal.invariant-loop-key
invariant-loop-key g l =
    highest (λ q. (g.T.Table.last l.table q).writer) l.most (drop l.key-index l.keys) ≡ last_writer (g.T.Table.last l.table) l.keys
