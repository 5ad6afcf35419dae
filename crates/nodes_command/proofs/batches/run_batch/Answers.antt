use Rattle.std.proofs.Common.{◌∙◌}
use Rattle.nodes_command.proofs.States.{text_is}
use Rattle.nodes_command.proofs.batches.run_batch.Goals as goal

pub returns-clause-text : goal.returns-clause-text
returns-clause-text c =
    c.in_ok-text.ensures
    ∙ text_is c.args.nodes c.args.calls.items c.in_ok-next.next c.args.catalog.now c.args.each c.requires.plan c.in_ok-next.ensures
