use Rattle.node_batch.proofs.Kept.{tells}
use Rattle.node_batch.proofs.node_batches.NodeBatch.take_told.Goals as goal

pub returns-clause-shows : goal.returns-clause-shows
returns-clause-shows c = λ rule same desk m shows is_tid e.
    tells c.args.catalog.now rule same desk _ _ _ _ _ _ _ _ _ shows m c.args.tid c.requires.low c.requires.high is_tid c.args.key.now c.args.row.now e
    c.index_mut.result.now c.tell.new.self c.index.result.now c.index-2.result.now c.in_ok-within.within _ _
    c.index_mut.ensures.value c.in_ok-tell.ensures c.index.ensures c.in_ok-within.ensures c.index-2.ensures c.in_ok-push_run.ensures
