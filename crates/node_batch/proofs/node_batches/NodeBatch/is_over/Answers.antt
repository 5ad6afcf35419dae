use Rattle.std.proofs.Common.{ap, ◌∙◌}
use Rattle.std.specs.Prelude.{nat_eq}
use Rattle.node_batch.proofs.Kept.{over_is}
use Rattle.node_batch.proofs.node_batches.NodeBatch.is_over.Goals as goal

pub returns : goal.returns
returns c = λ plan rule same desk shows. ap (nat_eq c.args.self.now.fated) (c.len.ensures ∙ c.args.self.now.fates.ok.0)
    ∙ over_is plan rule same desk _ _ _ _ _ _ _ _ _ shows
