use Rattle.std.proofs.Common.{◌<◌, length}
use Rattle.std.specs.Ordering.{nat_cmp}
use Rattle.fallback_locks.specs.LastWaves.{last_at, HasPlacesOf, IsSoFar}
use Rattle.fallback_locks.specs.Numbers.{numbers_at}
use Rattle.fallback_locks.proofs.levels.waves_numbered.Given as goal

abbrev pub invariant-loop-tid : goal.invariant-loop-tid
invariant-loop-tid l = HasPlacesOf (λ q. q < l.numbered.keys) (λ q. q < length l.table.lasts.items)
    × IsSoFar nat_cmp (numbers_at l.numbered) (last_at l.table.lasts.items) l.tid-index l.waves.items l.tids
