use Rattle.std.proofs.Common.{◌∙◌, sym, ap, subst}
use Rattle.script_course.specs.Courses.{Course}
use Rattle.script_course.specs.Served.{Serves}
use Rattle.script_places.specs.Places.{plan_in}
use Rattle.nodes_command.specs.Scripts.{Among, on_line}
use Rattle.nodes_command.specs.Standing.{among_of}
use Rattle.nodes_command.proofs.Lined.{may_follow, moved_by, refused_by}
use Rattle.nodes_command.proofs.Standing.{under_plan}
use Rattle.nodes_command.proofs.scripts.NodesScript.serve.Goals as goal

pub counts-counts-requires : goal.counts-counts-requires
counts-counts-requires g c =
    let place = c.self.inside.place in
    (plan_in place.head, under_plan place.head c.self.inside.work.base c.self.invariant.holds.of_head)

pub with-requires : goal.with-requires
with-requires g c =
    may_follow c.self.inside.place c.self.inside.work c.counts-counts.result c.args.line.now c.counts-counts.ensures c.in-Ok.after c.in-Ok.deed
    c.self.invariant c.in-Ok.ensures

pub returns-in-Ok-clause-serves : goal.returns-in-Ok-clause-serves
returns-in-Ok-clause-serves g c =
    let place = c.self.inside.place in
    let work = c.self.inside.work in
    let line = c.args.line.now in
    let is = ap (λ (s : Among). on_line s line) (sym c.self.view_is)
    ∙ moved_by place work c.counts-counts.result line c.counts-counts.ensures c.in-Ok.after c.in-Ok.deed c.in-Ok.ensures in
    subst (λ (x : Course Among). Serves x (g.K.Sink.given c.args.out.now) (g.K.Sink.given c.with.new.out) c.with.result) (sym is) c.with.ensures.serves

pub returns-in-Err-clause-serves : goal.returns-in-Err-clause-serves
returns-in-Err-clause-serves g c =
    let place = c.self.inside.place in
    let work = c.self.inside.work in
    let line = c.args.line.now in
    subst (λ (s : Among). Serves (on_line s line) (g.K.Sink.given c.args.out.now) (g.K.Sink.given c.refuse_line.new.out) c.refuse_line.result) c.self.view_is
    (c.refuse_line.ensures.serves (on_line (among_of place work) line)
    (refused_by place work c.counts-counts.result line c.counts-counts.ensures c.in-Err.refused c.in-Err.ensures))
