use Rattle.std.proofs.Common.{◌≡◌}
use Rattle.proc_lang.specs.Catalogs.{run_of}
use Rattle.fallback_locks.specs.Reruns.{in_waves, wave_finds, so_far}
use Rattle.fallback_locks.proofs.reruns.rerun_in_waves.Given as goal

abbrev pub invariant-loop-group : goal.invariant-loop-group
invariant-loop-group g l = (l.tables ≡ wave_finds (run_of l.catalog) l.fn.tables (in_waves l.waiting) l.group-index)
    × (l.lates.items ≡ so_far (run_of l.catalog) (wave_finds (run_of l.catalog) l.fn.tables (in_waves l.waiting)) l.group-index (in_waves l.waiting))
