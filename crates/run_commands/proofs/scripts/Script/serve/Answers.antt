use Rattle.std.proofs.Common.{rules, ◌≡◌, ◌∙◌, refl, sym, ap, subst, ◌∷◌, []}
use Rattle.std.specs.Prelude.{Ok, Err}
use Rattle.answer_text.specs.Refusals.{refusal_text}
use Rattle.script_course.specs.declared.stops.Stop.TheVariants as stop
use Rattle.script_places.specs.Places.{asked, plan_in}
use Rattle.script_text.specs.Lines.{line_after}
use Rattle.run_commands.specs.Bases.{store_in}
use Rattle.run_commands.specs.Keeps.{IsOpen, IsShort}
use Rattle.run_commands.specs.Onces.{Running, doing_result, done, on_line}
use Rattle.run_commands.specs.Passes.{Line}
use Rattle.run_commands.specs.Standing.{doing_of, running_of}
use Rattle.run_commands.specs.Turns.{HoldsScript, KeepsTurns}
use Rattle.run_commands.proofs.Asked.{line_is, may_follow, refused_by}
use Rattle.run_commands.proofs.Lengths.{short_deed}
use Rattle.run_commands.proofs.Lined.{ask_holds, ask_open, if_any, line_kept}
use Rattle.run_commands.proofs.Moved.{moved_to, refused_doing}
use Rattle.run_commands.proofs.Turns.{line_refused, none_kept}
use Rattle.run_commands.proofs.scripts.Script.serve.Goals as goal

pub with-requires-clause-may : goal.with-requires-clause-may
with-requires-clause-may g c κs within =
    may_follow c.self.inside.place c.self.inside.work c.counts-counts.result c.args.line.now c.counts-counts.ensures c.in-Ok.asked.0 c.in-Ok.asked.1
    c.self.invariant c.in-Ok.ensures

pub with-requires-clause-open : goal.with-requires-clause-open
with-requires-clause-open g c κs within =
    let disk = g.D.Disk.history c.args.disk.now in
    ask_open c.self.inside.place c.in-Ok.asked.0 c.self.inside.work c.self.invariant c.counts-counts.result c.counts-counts.ensures c.args.line.now
    c.in-Ok.asked.1 c.in-Ok.ensures disk
    (subst (λ (s : Running). IsOpen disk s) (sym c.self.view_is) c.requires.open)

pub with-requires-clause-short : goal.with-requires-clause-short
with-requires-clause-short g c κs within =
    if_any (store_in c.self.inside.work.base) (IsShort (plan_in c.in-Ok.asked.0.head) c.in-Ok.asked.1)
    (short_deed c.self.inside.place c.in-Ok.asked.0 c.counts-counts.result c.args.line.now c.in-Ok.asked.1 c.in-Ok.ensures c.requires.short)

pub returns-in-Ok-clause-serves : goal.returns-in-Ok-clause-serves
returns-in-Ok-clause-serves g c =
    let place = c.self.inside.place in
    let work = c.self.inside.work in
    let line = c.args.line.now in
    let same : on_line (doing_of place work) line ≡ on_line c.args.self.doing line = ap (λ (s : Running). on_line s.doing line) c.self.view_is in
    moved_to (on_line c.args.self.doing line) (done (doing_of c.in-Ok.asked.0 work) c.in-Ok.asked.1) (g.K.Sink.given c.args.out.now)
    (g.K.Sink.given c.with.new.out) (doing_result c.with.result)
    (sym same ∙ line_is place work c.counts-counts.result line c.counts-counts.ensures (Ok c.in-Ok.asked) c.in-Ok.ensures) c.with.ensures.serves

pub returns-in-Ok-clause-keeps : goal.returns-in-Ok-clause-keeps
returns-in-Ok-clause-keeps g c = λ first saved.
    let place = c.self.inside.place in
    let after = c.in-Ok.asked.0 in
    let work = c.self.inside.work in
    let counts = c.counts-counts.result in
    let line = c.args.line.now in
    let asks = c.in-Ok.asked.1 in
    let old = g.D.Disk.history c.args.disk.now in
    let new = g.D.Disk.history c.with.new.disk in
    let ga = g.K.Sink.given c.args.out.now in
    let gb = g.K.Sink.given c.with.new.out in
    let moves : on_line (doing_of place work) line ≡ done (doing_of after work) asks =
    line_is place work counts line c.counts-counts.ensures (Ok c.in-Ok.asked) c.in-Ok.ensures in
    let serves = moved_to (on_line (doing_of place work) line) (done (doing_of after work) asks) ga gb
    (doing_result c.with.result) moves c.with.ensures.serves in
    subst (λ (s : Running). HoldsScript first saved old s → KeepsTurns first saved (Line line ∷ []) s old new ga gb c.with.result) c.self.view_is (λ h.
    let held = ask_holds place after work c.self.invariant counts c.counts-counts.ensures line asks c.in-Ok.ensures first saved old h in
    line_kept place after work c.self.invariant counts c.counts-counts.ensures line asks c.in-Ok.ensures first saved old h new ga gb c.with.result serves
    (c.with.ensures.keeps saved.c saved.later (doing_of place work) line held.stands.holds refl moves)
    (c.with.ensures.stays first saved held (doing_of place work) refl refl)
    (c.with.ensures.held first saved held (doing_of place work) refl)
    (c.with.ensures.left first saved held (doing_of place work) line refl refl moves))

pub returns-in-Err-Memory-clause-keeps : goal.returns-in-Err-Memory-clause-keeps
returns-in-Err-Memory-clause-keeps g c = λ first saved h.
    none_kept first saved (Line c.args.line.now ∷ []) c.args.self (g.D.Disk.history c.args.disk.now) (g.K.Sink.given c.args.out.now) stop.NoMemory
    (λ e. absurd cc) h

pub returns-in-Err-Line-clause-keeps : goal.returns-in-Err-Line-clause-keeps
returns-in-Err-Line-clause-keeps g c = λ first saved.
    let place = c.self.inside.place in
    let work = c.self.inside.work in
    let disk = g.D.Disk.history c.args.disk.now in
    let ga = g.K.Sink.given c.args.out.now in
    let gb = g.K.Sink.given c.refuse.new.out in
    let refusal = c.in-Err-Line.refusal in
    let said : asked place c.counts-counts.result c.args.line.now ≡ Err refusal.kind = search rules in
    let at : refusal.line ≡ line_after place.lines = search rules in
    let is = refused_by place work c.counts-counts.result c.args.line.now c.counts-counts.ensures refusal said at in
    subst (λ (s : Running). HoldsScript first saved disk s → KeepsTurns first saved (Line c.args.line.now ∷ []) s disk disk ga gb c.refuse.result)
    c.self.view_is
    (λ h. line_refused first saved c.args.line.now (running_of place work) (refusal_text refusal) disk ga gb c.refuse.result is
    (refused_doing (refusal_text refusal) ga gb c.refuse.result c.refuse.ensures.serves) h)
