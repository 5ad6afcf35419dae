use Rattle.std.proofs.Common.{refl, ap, List, []}
use Rattle.aria_base.specs.declared.calls.Call.{Call}
use Rattle.check_command.specs.Standing.{doing_of}
use Rattle.check_command.specs.declared.works.Work.{Work}
use Rattle.check_command.proofs.Standing.{kept_on, pushed}
use Rattle.check_command.proofs.works.Work.keep.Goals as goal

pub invariant_of-result : goal.invariant_of-result
invariant_of-result c =
    let next : Work = record {
      tables = c.args.self.tables;
      calls = c.new-2.result;
      script = c.push.new.self;
      ends = c.args.self.ends;
      requests = c.args.self.requests;
      report = c.args.self.report;
    } in
    kept_on (doing_of c.args.place c.args.self) (doing_of c.args.place next) c.args.number c.requires refl c.new-2.ensures.items
    (pushed _ c.args.self.script.items c.push.new.self.items (c.args.number, c.new.result) (c.args.number, []) c.in_ok-push.ensures.items
    (ap (λ (l : List Call). (c.args.number, l)) c.new.ensures.items)) refl
