use Rattle.std.proofs.Common.{refl}
use Rattle.nodes_command.specs.declared.works.Work.{Work}
use Rattle.nodes_command.proofs.Standing.{put_stands}
use Rattle.nodes_command.proofs.works.Work.put.Goals as goal

pub invariant_of-result : goal.invariant_of-result
invariant_of-result c =
    let next : Work = record {
      calls = c.args.self.calls;
      base = c.in_ok-put.field-0;
      nodes = c.args.self.nodes;
      each = c.args.self.each;
      called = c.args.self.called;
    } in
    put_stands c.args.place c.args.self next refl c.args.key c.args.row c.requires c.in_ok-put.ensures refl refl
