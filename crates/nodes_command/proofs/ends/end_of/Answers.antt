use Rattle.std.proofs.Common.{rules, ◌≡◌, ◌∙◌, sym, ap, subst}
use Rattle.std.specs.Prelude.{Err}
use Rattle.script_places.specs.Places.{closing}
use Rattle.script_text.specs.Lines.{line_after}
use Rattle.answer_text.specs.Refusals.{refusal_text}
use Rattle.proc_lang.specs.Catalogs.{Plan}
use Rattle.script_course.specs.Courses.{Out}
use Rattle.script_course.specs.Served.{Finishes}
use Rattle.nodes_command.specs.Bases.{IsUnder}
use Rattle.nodes_command.specs.Scripts.{Among, on_end}
use Rattle.nodes_command.proofs.Ending.{closed_is, refused_finishes, refused_is}
use Rattle.nodes_command.proofs.Standing.{of_head_on, under_plan}
use Rattle.nodes_command.proofs.ends.end_of.Goals as goal

pub close-requires-in-Ok : goal.close-requires-in-Ok
close-requires-in-Ok g c =
    let place = c.script.inside.place in
    let base = c.script.inside.work.base in
    let q = c.in-Ok.place in
    subst (λ (plan : Plan). IsUnder plan base) (sym c.catalog_in-catalog.ensures)
    (under_plan q.head base (of_head_on place.head q.head base (c.closes.ensures place q c.in-Ok.ensures) c.script.invariant.holds.of_head))

pub returns-in-Ok-clause-finishes : goal.returns-in-Ok-clause-finishes
returns-in-Ok-clause-finishes g c =
    let place = c.script.inside.place in
    let work = c.script.inside.work in
    let is = closed_is place work c.args.drains c.in-Ok.place c.catalog_in-catalog.result c.saturating_add-line.result
    c.in-Ok.ensures c.catalog_in-catalog.ensures
    c.saturating_add-line.ensures
    ∙ ap (λ (s : Among). on_end c.args.drains s) c.script.view_is in
    subst (λ (o : Out). Finishes o (g.K.Sink.given c.args.out.now) (g.K.Sink.given c.close-in-Ok.new.out) c.close-in-Ok.result)
    is c.close-in-Ok.ensures.finishes

pub returns-clause-finishes : goal.returns-clause-finishes
returns-clause-finishes g c =
    let place = c.script.inside.place in
    let work = c.script.inside.work in
    let refusal = c.in-Err-Line.refusal in
    let said : closing place ≡ Err refusal.kind = search rules in
    let at : refusal.line ≡ line_after place.lines = search rules in
    let is = refused_is place work c.args.drains refusal said at
    ∙ ap (λ (s : Among). on_end c.args.drains s) c.script.view_is in
    let old = g.K.Sink.given c.args.out.now in
    let new = g.K.Sink.given c.refuse.new.out in
    subst (λ (o : Out). Finishes o old new c.refuse.result) is (refused_finishes (refusal_text refusal) old new c.refuse.result c.refuse.ensures.serves)
