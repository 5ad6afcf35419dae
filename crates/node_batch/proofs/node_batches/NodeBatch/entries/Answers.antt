use Rattle.std.proofs.Common.{◌∙◌, map}
use Rattle.node_batch.specs.Entries.{own_entries}
use Rattle.node_batch.specs.OwnRuns.{told_of}
use Rattle.node_batch.proofs.RunMails.{entries_end}
use Rattle.node_batch.proofs.node_batches.NodeBatch.entries.Goals as goal

pub returns : goal.returns
returns c = λ rule same desk shows. c.in_ok-entries.ensures
    ∙ (λ i. own_entries c.args.catalog.now c.args.self.now.site 0 (c.deref.ensures.value i) (c.deref-2.ensures.value i)
    (map told_of (c.deref-3.ensures.value i)))
    ∙ entries_end c.args.catalog.now rule same desk c.args.self.now shows
