use Rattle.std.proofs.Common.{◌≡◌, ◌++◌, map}
use Rattle.std.specs.Vec.Iter.{into_iter_items}
use Rattle.install_phase.specs.Dues.{shown}
use Rattle.install_phase.specs.Writes.{finished}
use Rattle.install_phase.proofs.makings.make_all.Given as goal

abbrev pub invariant-loop-shard : goal.invariant-loop-shard
invariant-loop-shard g l =
    (goal.iterator-loop-shard g).can_next l.shard-iterator ×
    (goal.iterator-loop-shard g).is_finite l.shard-iterator ×
    (l.made.items ++ map (finished (shown l.dues)) (into_iter_items l.shard-iterator)
    ≡ map (finished (shown l.dues)) (into_iter_items l.initial.shard-iterator))
