use Rattle.std.proofs.Common.{ap}
use Rattle.node_rules.specs.Messages.{Marks}
use Rattle.node_batch.specs.Letters.{message_of}
use Rattle.node_batch.specs.Mails.{mail, part_at}
use Rattle.node_batch.proofs.Pushed.{pushed}
use Rattle.node_batch.proofs.mails.push_marks.Goals as goal

pub loop-node-preserved : goal.loop-node-preserved
loop-node-preserved c = pushed message_of
    (λ node. mail c.args.site c.args.tid node (Marks (part_at c.args.site.nodes node c.args.outcome.now))) c.args.out.now.items c.loop-node.out.items
    c.push.new.self.items _ c.loop-node.node
    c.loop-node.invariant c.in_ok-push.ensures.items (ap (λ part. mail c.args.site c.args.tid c.loop-node.node (Marks part)) c.in_ok-part.ensures)
