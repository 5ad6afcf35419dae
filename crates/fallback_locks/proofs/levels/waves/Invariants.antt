use Rattle.aria_base.specs.Orders.{key_cmp}
use Rattle.proc_exec.specs.Limits.{touchable}
use Rattle.fallback_locks.specs.LastWaves.{last_in, IsSoFar}
use Rattle.fallback_locks.proofs.levels.waves.Given as goal

abbrev pub invariant-loop-one : goal.invariant-loop-one
invariant-loop-one l = IsSoFar key_cmp (λ w. touchable w.declared) (last_in l.table.lasts) l.one-index l.waves.items l.waiting
