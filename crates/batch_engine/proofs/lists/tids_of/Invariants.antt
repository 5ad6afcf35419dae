use Rattle.std.proofs.Common.{◌≡◌, ◌+◌, ◌++◌, drop}
use Rattle.batch_engine.specs.Lists.{tids_among}
use Rattle.batch_engine.proofs.lists.tids_of.Given as goal

abbrev pub invariant-loop-verdict : goal.invariant-loop-verdict
invariant-loop-verdict l = (l.tid ≡ l.verdict-index + 1) × (l.tids.items ++ tids_among l.tid (drop l.verdict-index l.verdicts) ≡ tids_among 1 l.verdicts)
