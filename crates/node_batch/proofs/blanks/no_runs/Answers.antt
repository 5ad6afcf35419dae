use Rattle.std.proofs.Common.{[]}
use Rattle.node_batch.specs.OwnRuns.{told_of}
use Rattle.node_batch.proofs.Blank.{one_more}
use Rattle.node_batch.proofs.blanks.no_runs.Goals as goal

pub loop-preserved : goal.loop-preserved
loop-preserved c = one_more told_of [] c.loop.runs.items c.push.new.self.items c.new.result c.loop.counter c.loop.invariant c.in_ok-push.ensures.items
    c.new.ensures
