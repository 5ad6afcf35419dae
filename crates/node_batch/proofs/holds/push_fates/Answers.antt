use Rattle.std.proofs.Common.{refl}
use Rattle.node_rules.specs.Messages.{Fate}
use Rattle.node_batch.specs.Letters.{message_of}
use Rattle.node_batch.specs.Mails.{mail}
use Rattle.node_batch.proofs.Pushed.{pushed}
use Rattle.node_batch.proofs.holds.push_fates.Goals as goal

pub loop-node-preserved : goal.loop-node-preserved
loop-node-preserved c = pushed message_of
    (λ node. mail c.args.site c.args.tid node (Fate c.args.verdict)) c.args.out.now.items c.loop-node.out.items c.push.new.self.items _ c.loop-node.node
    c.loop-node.invariant c.in_ok-push.ensures.items refl
