use Rattle.std.proofs.Common.{◌≡◌, max, drop}
use Rattle.fallback_locks.specs.LastWaves.{highest, last_toucher}
use Rattle.fallback_locks.proofs.levels.last_toucher.Given as goal

abbrev pub invariant-loop-key : goal.invariant-loop-key
invariant-loop-key g l =
    let last = g.T.Table.last l.table in
    highest (λ q. max (last q).reader (last q).writer) l.most (drop l.key-index l.keys) ≡ last_toucher last l.keys
