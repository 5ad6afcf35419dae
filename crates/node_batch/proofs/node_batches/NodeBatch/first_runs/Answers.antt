use Rattle.std.proofs.Common.{◌∙◌, ap, ◌++◌, map}
use Rattle.node_batch.specs.Letters.{message_of}
use Rattle.node_batch.specs.Mails.{own_mails}
use Rattle.node_batch.specs.OwnRuns.{told_of}
use Rattle.node_batch.proofs.RunMails.{first_mails}
use Rattle.node_batch.proofs.node_batches.NodeBatch.first_runs.Goals as goal

pub returns : goal.returns
returns c = λ rule same desk shows. c.in_ok-push_own_runs.ensures
    ∙ (λ i. map message_of c.args.out.now.items ++ own_mails c.args.catalog.now c.args.self.now.site 0 (c.deref.ensures.value i)
    (map told_of (c.deref-2.ensures.value i)))
    ∙ ap (λ l. map message_of c.args.out.now.items ++ l) (first_mails c.args.catalog.now rule same desk c.args.self.now shows)
