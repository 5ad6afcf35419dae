use Rattle.std.proofs.Common.{drop}
use Rattle.batch_rules.specs.Touches.{is_among}
use Rattle.fallback_locks.specs.LastWaves.{with_writer, AreSame, HasPlacesOf}
use Rattle.fallback_locks.proofs.levels.note_writes.Given as goal

abbrev pub invariant-loop-key : goal.invariant-loop-key
invariant-loop-key g l =
    let last = g.T.Table.last in
    let among = is_among g.T.Table.order in
    AreSame (λ q. with_writer l.wave (among (drop l.key-index l.keys) q) (last l.table q)) (λ q. with_writer l.wave (among l.keys q) (last l.fn.table q))
    × HasPlacesOf (g.T.Table.holds l.fn.table) (g.T.Table.holds l.table)
