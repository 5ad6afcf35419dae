use Rattle.node_batch.proofs.Kept.{shows_ask, tells_row}
use Rattle.node_batch.proofs.node_batches.NodeBatch.take_ask.Goals as goal

pub returns : goal.returns
returns c = λ plan rule same desk m shows is_tid e. (
  shows_ask plan rule same desk _ _ _ _ _ _ _ _ _ shows m c.args.tid c.requires.low c.requires.high is_tid c.args.key.now e,
  tells_row plan rule same desk _ _ _ _ _ _ _ _ _ shows m c.args.tid c.requires.low c.requires.high is_tid c.args.key.now c.in_ok-key.key c.in_ok-row.row
      _ _ e c.in_ok-row.ensures c.in_ok-key.ensures c.in_ok-push.ensures.items,
)
