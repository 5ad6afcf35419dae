use Rattle.std.proofs.Common.{rules, ◌≡◌, ◌∙◌, refl, ap, ℕ, ◌+◌, [], ◌∷◌, length}
use Rattle.std.proofs.lemmas.List.{length-append}
use Rattle.check_command.specs.Standing.{doing_of}
use Rattle.check_command.specs.declared.works.Work.{Work}
use Rattle.check_command.proofs.Standing.{pushed, ran_on}
use Rattle.check_command.proofs.works.Work.run.Goals as goal

pub invariant_of-result : goal.invariant_of-result
invariant_of-result c =
    let next : Work = record {
      tables = c.args.self.tables;
      calls = c.new.result;
      script = c.push-2.new.self;
      ends = c.push.new.self;
      requests = c.args.self.requests + c.len.result;
      report = c.args.self.report;
    } in
    let ends = c.args.self.ends.items in
    let counted : c.len-2.result ≡ length c.push.new.self.items = search rules in
    let number : c.len-2.result ≡ length ends + 1 = counted ∙ ap length c.in_ok-push.ensures.items ∙ length-append ends (c.args.place.lines ∷ []) in
    ran_on (doing_of c.args.place c.args.self) (doing_of c.args.place next) c.requires refl c.new.ensures.items
    (pushed _ c.args.self.script.items c.push-2.new.self.items (c.len-2.result, c.args.self.calls)
    (length ends + 1, c.args.self.calls.items) c.in_ok-push-2.ensures.items
    (ap (λ (n : ℕ). (n, c.args.self.calls.items)) number)) c.in_ok-push.ensures.items
