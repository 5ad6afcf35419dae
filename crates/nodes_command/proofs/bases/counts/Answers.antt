use Rattle.nodes_command.proofs.States.{counts_now}
use Rattle.nodes_command.proofs.bases.counts.Goals as goal

pub returns : goal.returns
returns c = counts_now c.args.nodes.now c.requires c.ready.ensures c.batches.result c.requests.result c.waiting.result c.batches.ensures c.requests.ensures
    c.waiting.ensures
