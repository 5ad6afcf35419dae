use Rattle.std.proofs.Common.{◌∙◌, sym, ap}
use Rattle.run_commands.specs.Bases.{counts_of}
use Rattle.nodes_command.specs.Bases.{state_of}
use Rattle.nodes_command.specs.declared.bases.Base.{Base}
use Rattle.nodes_command.proofs.States.{done_runs}
use Rattle.nodes_command.proofs.bases.Base.counts.Goals as goal

pub counts-requires : goal.counts-requires
counts-requires c = done_runs c.requires.0 c.args.self.now c.in-Runs.nodes c.in-Runs.is c.requires.1

pub returns-in-Runs : goal.returns-in-Runs
returns-in-Runs c = c.counts.ensures ∙ ap (λ (b : Base). counts_of (state_of b)) (sym c.in-Runs.is)
