use Rattle.std.proofs.Common.{◌∙◌}
use Rattle.fallback_locks.proofs.Numbers.{waves_same, few_tids}
use Rattle.fallback_locks.proofs.reruns.rerun_numbered.Goals as goal

pub waves_numbered-requires-clause-few : goal.waves_numbered-requires-clause-few
waves_numbered-requires-clause-few g c =
    few_tids c.args.numbered.now c.args.tids.now c.args.waiting.now c.requires.numbered c.requires.waiting

pub rerun_in_waves-requires-clause-waves : goal.rerun_in_waves-requires-clause-waves
rerun_in_waves-requires-clause-waves g c κs lifetimes = c.deref.ensures.value ∙ c.in_ok-waves.ensures
    ∙ waves_same c.args.numbered.now c.args.tids.now c.args.waiting.now c.requires.numbered
