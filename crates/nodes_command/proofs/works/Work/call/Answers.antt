use Rattle.std.proofs.Common.{◌+◌, refl}
use Rattle.nodes_command.specs.declared.works.Work.{Work}
use Rattle.nodes_command.proofs.Standing.{call_stands}
use Rattle.nodes_command.proofs.works.Work.call.Goals as goal

pub invariant_of-result : goal.invariant_of-result
invariant_of-result c =
    let next : Work = record {
      calls = c.push.new.self;
      base = c.args.self.base;
      nodes = c.args.self.nodes;
      each = c.args.self.each;
      called = c.args.self.called + 1;
    } in
    call_stands c.args.place c.args.self next refl c.args.call c.requires refl c.in_ok-push.ensures.items refl
