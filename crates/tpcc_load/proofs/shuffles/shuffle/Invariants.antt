use Rattle.std.proofs.Common.{◌≡◌, ◌≤◌, ◌<◌, ◌^◌, length}
use Rattle.tpcc_load.specs.Heads as heads
use Rattle.tpcc_load.proofs.shuffles.shuffle.Given as goal

abbrev pub invariant-loop-last : goal.invariant-loop-last
invariant-loop-last l = (l.last ≤ length l.places.items) × (l.last < 2 ^ 31)
    × (length l.places.items ≡ l.count)
    × (heads.shuffled l.last l.places.items l.draws ≡ heads.shuffled l.initial.count l.initial.places.items l.initial.draws)

abbrev pub decreases-loop-last : goal.decreases-loop-last
decreases-loop-last l = l.last
