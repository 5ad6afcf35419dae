use Rattle.std.proofs.Common.{refl, arith}
use Rattle.node_batch.proofs.Kept.{shows_fate, many_fates}
use Rattle.node_batch.proofs.node_batches.NodeBatch.take_fate.Goals as goal

pub returns-clause-shows : goal.returns-clause-shows
returns-clause-shows c = λ plan rule same desk m shows is_tid e none.
    let many = many_fates plan rule same desk _ _ _ _ _ _ _ _ _ shows in
    let high = c.requires.high in
    shows_fate plan rule same desk _ _ _ _ _ _ _ _ _ shows m c.args.tid c.requires.low (omega arith) is_tid c.args.verdict e none _ _ refl refl
