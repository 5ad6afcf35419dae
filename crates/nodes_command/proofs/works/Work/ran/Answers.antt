use Rattle.std.proofs.Common.{◌∙◌, refl}
use Rattle.nodes_command.specs.declared.bases.Base.TheVariants as base
use Rattle.nodes_command.specs.declared.works.Work.{Work}
use Rattle.nodes_command.proofs.Standing.{ran_is, ran_text}
use Rattle.nodes_command.proofs.works.Work.ran.Goals as goal

pub returns-clause-script : goal.returns-clause-script
returns-clause-script c =
    let next : Work = record {
      calls = c.new.result;
      base = base.Runs c.in_ok-next.next;
      nodes = c.args.self.nodes;
      each = c.args.self.each;
      called = c.args.self.called;
    } in
    ran_is c.args.place c.args.self next refl c.in-Ready.catalog c.in-Ready.is c.in_ok-begun.begun c.in_ok-next.next c.in_ok-begun.ensures
    c.in_ok-next.ensures.next refl c.new.ensures.items refl refl

pub returns-clause-text : goal.returns-clause-text
returns-clause-text c =
    let next : Work = record {
      calls = c.new.result;
      base = base.Runs c.in_ok-next.next;
      nodes = c.args.self.nodes;
      each = c.args.self.each;
      called = c.args.self.called;
    } in
    c.in_ok-next.ensures.text
    ∙ ran_text c.args.place c.args.self next refl c.in-Ready.catalog c.in-Ready.is c.in_ok-begun.begun c.in_ok-next.next c.in_ok-begun.ensures
    c.in_ok-next.ensures.next refl c.new.ensures.items refl
