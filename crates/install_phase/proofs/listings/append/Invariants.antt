use Rattle.std.proofs.Common.{◌≡◌, ◌++◌, reverse, length}
use Rattle.install_phase.specs.Dues.{shown}
use Rattle.install_phase.specs.Writes.{at_shards}
use Rattle.install_phase.proofs.listings.append.Given as goal

abbrev pub invariant-loop-write : goal.invariant-loop-write
invariant-loop-write l = shown l.dues.items ++ at_shards l.shards (reverse l.rest) ≡ shown l.initial.dues.items ++ at_shards l.shards (reverse l.initial.rest)

abbrev pub decreases-loop-write : goal.decreases-loop-write
decreases-loop-write l = length l.rest
