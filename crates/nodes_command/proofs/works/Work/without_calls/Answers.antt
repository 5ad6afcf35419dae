use Rattle.std.proofs.Common.{refl}
use Rattle.nodes_command.specs.declared.works.Work.{Work}
use Rattle.nodes_command.proofs.Standing.{close_stands}
use Rattle.nodes_command.proofs.works.Work.without_calls.Goals as goal

pub invariant_of-result : goal.invariant_of-result
invariant_of-result c =
    let next : Work = record {
      calls = c.new.result;
      base = c.args.self.base;
      nodes = c.args.self.nodes;
      each = c.args.self.each;
      called = c.args.self.called;
    } in
    close_stands c.args.place c.args.self next refl c.requires refl c.new.ensures.items refl
