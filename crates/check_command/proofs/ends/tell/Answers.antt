use Rattle.std.proofs.Common.{rules, ◌≡◌, sym, subst, ℕ, List}
use Rattle.script_course.specs.Served.{Finishes}
use Rattle.serial_check.specs.declared.findings.Finding.{Finding}
use Rattle.check_command.specs.Checks.{out_of_finding}
use Rattle.check_command.specs.Texts.{fails_text}
use Rattle.check_command.proofs.ends.tell.Goals as goal

pub returns-in-Holds-clause-finishes : goal.returns-in-Holds-clause-finishes
returns-in-Holds-clause-finishes g c =
    subst (λ (f : Finding). Finishes (out_of_finding c.args.ends.now f) (g.K.Sink.given c.args.out.now) (g.K.Sink.given c.end_with.new.out) c.end_with.result)
    (sym c.in-Holds.is) c.end_with.ensures.finishes

pub returns-in-Ok-clause-finishes : goal.returns-in-Ok-clause-finishes
returns-in-Ok-clause-finishes g c =
    let old = g.K.Sink.given c.args.out.now in
    let new = g.K.Sink.given c.end_with-in-Ok.new.out in
    let text : c.deref.result.now ≡ fails_text c.in-Fails.line c.in-Fails.wanted c.in-Fails.found = search rules in
    subst (λ (f : Finding). Finishes (out_of_finding c.args.ends.now f) old new c.end_with-in-Ok.result) (sym c.in-Fails.is)
    (subst (λ (bytes : List ℕ). Finishes (record { bytes = bytes; status = 8 }) old new c.end_with-in-Ok.result) text c.end_with-in-Ok.ensures.finishes)
