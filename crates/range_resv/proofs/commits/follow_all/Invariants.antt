use Rattle.std.proofs.Common.{◌≡◌, drop}
use Rattle.range_runs.specs.Indexes.{followed_all}
use Rattle.range_resv.specs.Lists.{finishing_among}
use Rattle.range_resv.proofs.commits.follow_all.Given as goal

abbrev pub invariant-loop-one : goal.invariant-loop-one
invariant-loop-one l = followed_all l.index (finishing_among (drop l.one-index l.changes) l.rest)
    ≡ followed_all l.initial.index (finishing_among l.changes l.initial.rest)
