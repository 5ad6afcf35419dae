use Rattle.std.proofs.Common.{◌≤◌, ◌+◌, ◌-◌}
use Rattle.workloads.specs.Generators.{first_draws}
use Rattle.gen_command.specs.Pieces.{LeadsTo}
use Rattle.gen_command.proofs.Leads.{from}
use Rattle.gen_command.proofs.scripts.give_batches.Given as goal

abbrev pub invariant-loop-past : goal.invariant-loop-past
invariant-loop-past g l = record {
  sink : g.K.Sink.faults l.initial.out ≤ g.K.Sink.faults l.out;
  leads : LeadsTo (from l.generator l.amount.size (l.past + 1) (l.amount.batches - l.past) l.draws) (g.K.Sink.given l.out)
      (from l.generator l.amount.size 1 l.amount.batches (first_draws l.generator)) (g.K.Sink.given l.initial.out);
}
