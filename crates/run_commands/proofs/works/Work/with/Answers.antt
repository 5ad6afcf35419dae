use Rattle.std.proofs.Common.{◌≡◌, ◌∙◌, sym, true, false, [], ◌∷◌}
use Rattle.aria_base.specs.Faults.{Rose}
use Rattle.std.specs.Prelude.{IsSomeAnd}
use Rattle.script_course.specs.Courses.{Goes}
use Rattle.run_commands.specs.Bases.{checkpoint_in, store_in}
use Rattle.run_commands.specs.Keeps.{held_of}
use Rattle.run_commands.specs.Onces.{behind_batch, doing_result, done, text_of}
use Rattle.run_commands.specs.Standing.{doing_of, running_of, runs_batch}
use Rattle.run_commands.proofs.Moved.{moved_to}
use Rattle.run_commands.proofs.Lined.{quiet_held, quiet_stays}
use Rattle.run_commands.proofs.Ran.{held_leaves_all}
use Rattle.run_commands.proofs.Stepped.{causes_more, quiet_keeps, quiet_opens, run_done, run_may, store_on}
use Rattle.run_commands.proofs.Turns.{left_still}
use Rattle.run_commands.specs.Passes.{Line}
use Rattle.run_commands.proofs.works.Work.with.Goals as goal
use Rattle.script_places.specs.Places.{plan_in}

pub run-requires-clause-may : goal.run-requires-clause-may
run-requires-clause-may g c κs within =
    let on : runs_batch c.args.deed ≡ true = sym c.runs_batch.ensures ∙ c.if-runs_batch.true in
    run_may c.args.place c.args.self c.args.deed on c.requires.may

pub returns-then-runs_batch-clause-serves : goal.returns-then-runs_batch-clause-serves
returns-then-runs_batch-clause-serves g c =
    let on : runs_batch c.args.deed ≡ true = sym c.runs_batch.ensures ∙ c.if-runs_batch.true in
    let d = doing_of c.args.place c.args.self in
    moved_to (done d c.args.deed) (Goes (text_of d) (behind_batch d)) (g.K.Sink.given c.args.out.now) (g.K.Sink.given c.run.new.out)
    (doing_result c.run.result) (run_done d c.args.deed on) c.run.ensures.serves

pub returns-then-runs_batch-clause-keeps : goal.returns-then-runs_batch-clause-keeps
returns-then-runs_batch-clause-keeps g c = λ ck later before line h same is.
    let on : runs_batch c.args.deed ≡ true = sym c.runs_batch.ensures ∙ c.if-runs_batch.true in
    c.run.ensures.keeps ck later before line h same (is ∙ run_done (doing_of c.args.place c.args.self) c.args.deed on)

pub returns-clause-open : goal.returns-clause-open
returns-clause-open g c =
    let off : runs_batch c.args.deed ≡ false = sym c.runs_batch.ensures ∙ c.if-runs_batch.false in
    quiet_opens (g.D.Disk.history c.args.disk.now) (doing_of c.args.place c.args.self) (store_in c.args.self.base)
    (checkpoint_in c.args.self.base) c.requires.open (g.K.Sink.given c.args.out.now) (g.K.Sink.given c.quietly.new.out)
    c.args.deed off c.requires.short c.quietly.result c.quietly.ensures.store c.quietly.ensures.serves

pub returns-clause-keeps : goal.returns-clause-keeps
returns-clause-keeps g c = λ ck later before line h same is.
    let off : runs_batch c.args.deed ≡ false = sym c.runs_batch.ensures ∙ c.if-runs_batch.false in
    let disk = g.D.Disk.history c.args.disk.now in
    let plan = plan_in c.args.place.head in
    let held = held_of (running_of c.args.place c.args.self) in
    quiet_keeps plan line before (doing_of c.args.place c.args.self) held c.args.deed off same is disk (g.K.Sink.given c.args.out.now)
    (g.K.Sink.given c.quietly.new.out)
    (doing_result c.quietly.result) c.quietly.ensures.serves (held_leaves_all disk plan held (store_in c.args.self.base) ck later h)

pub returns-clause-store : goal.returns-clause-store
returns-clause-store g c = store_on (store_in c.args.self.base) c.quietly.result c.quietly.ensures.store

pub returns-clause-cause : goal.returns-clause-cause
returns-clause-cause g c =
    let disk = g.D.Disk.history c.args.disk.now in
    causes_more (Rose (g.K.Sink.faults c.args.out.now) (g.K.Sink.faults c.quietly.new.out))
    (IsSomeAnd (store_in c.args.self.base) (λ _. Rose disk.faults disk.faults)) c.quietly.result c.quietly.ensures.cause

pub returns-clause-stays : goal.returns-clause-stays
returns-clause-stays g c = λ first saved h before same calls.
    let off : runs_batch c.args.deed ≡ false = sym c.runs_batch.ensures ∙ c.if-runs_batch.false in
    quiet_stays c.args.place c.args.self (g.K.Sink.given c.args.out.now) (g.K.Sink.given c.quietly.new.out) first saved
    (g.D.Disk.history c.args.disk.now) h c.args.deed off c.requires.may before same
    c.quietly.result c.quietly.ensures.store c.quietly.ensures.checkpoint c.quietly.ensures.serves

pub returns-clause-held : goal.returns-clause-held
returns-clause-held g c = λ first saved h before same.
    let off : runs_batch c.args.deed ≡ false = sym c.runs_batch.ensures ∙ c.if-runs_batch.false in
    quiet_held c.args.place c.args.self (g.K.Sink.given c.args.out.now) (g.K.Sink.given c.quietly.new.out) first saved
    (g.D.Disk.history c.args.disk.now) h c.args.deed off c.requires.may
    before same c.quietly.result c.quietly.ensures.store c.quietly.ensures.serves

pub returns-then-runs_batch-clause-left : goal.returns-then-runs_batch-clause-left
returns-then-runs_batch-clause-left g c = λ first saved h before line same calls is.
    let on : runs_batch c.args.deed ≡ true = sym c.runs_batch.ensures ∙ c.if-runs_batch.true in
    c.run.ensures.left first saved h before line same calls (is ∙ run_done (doing_of c.args.place c.args.self) c.args.deed on)

pub returns-clause-left : goal.returns-clause-left
returns-clause-left g c = λ first saved h before line same calls is.
    let script = running_of c.args.place c.args.self in
    left_still (checkpoint_in c.args.self.base) first (Line line ∷ []) before saved (g.D.Disk.history c.args.disk.now) (plan_in c.args.place.head)
    (held_of script) (store_in c.args.self.base) h
