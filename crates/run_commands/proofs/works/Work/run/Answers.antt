use Rattle.std.proofs.Common.{◌≡◌, ◌≤◌, refl, subst, ℕ, List, [], ◌∷◌}
use Rattle.std.proofs.KnownBytes.{Appends-nil}
use Rattle.std.specs.Prelude.{Err}
use Rattle.std.specs.Io.KnownBytes.{Appends}
use Rattle.script_course.specs.Courses.{Goes}
use Rattle.script_course.specs.Served.{Serves}
use Rattle.serving.specs.Lives.{IsNext, next_state, next_text, plan_of}
use Rattle.run_commands.specs.Onces.{behind_batch}
use Rattle.run_commands.specs.Bases.{checkpoint_in, store_in}
use Rattle.run_commands.specs.Keeps.{held_of}
use Rattle.run_commands.specs.Passes.{Line, held_then, on_turn}
use Rattle.run_commands.specs.Standing.{doing_of, running_of}
use Rattle.aria_store.specs.Stands.{added}
use Rattle.image_text.specs.Payloads.{Batch}
use Rattle.serving.specs.Stored.{Holds, HoldsTurned, IsLogging, next_due, next_store, stored_state}
use Rattle.serving.specs.declared.lives.Live.{Live}
use Rattle.slot_images.specs.Images.{Checkpoint}
use Rattle.run_commands.specs.declared.bases.Base.TheVariants as base
use Rattle.run_commands.specs.declared.works.Work.{Work}
use Rattle.run_commands.proofs.Deeds.{behind_is, text_is}
use Rattle.run_commands.proofs.Kept.{keeps_none}
use Rattle.run_commands.proofs.Lined.{ran_held, ran_left, ran_stays}
use Rattle.run_commands.proofs.Turns.{left_still}
use Rattle.run_commands.proofs.Ran.{as_after, as_either, begun_holds, held_leaves_all, may_log, open_behind, ran_cut, ran_told}
use Rattle.run_commands.proofs.Told.{cut_serves, if_told, told_all}
use Rattle.run_commands.proofs.works.Work.run.Goals as goal
use Rattle.script_places.specs.Places.{plan_in}

pub returns-in-Some-clause-serves : goal.returns-in-Some-clause-serves
returns-in-Some-clause-serves g c =
    let old = g.K.Sink.given c.args.out.now in
    let new = g.K.Sink.given c.serve_batch-next.new.out in
    let calls = c.args.self.calls.items in
    let next : Work = record { calls = c.new.result; base = base.Runs c.in-Some.live; replicas = c.args.self.replicas; each = c.args.self.each } in
    let told = told_all (next_text c.in-Ok.live calls) (IsNext c.in-Ok.live calls) old new c.serve_batch-next.result c.in-Some.live c.in-Some.is
    c.serve_batch-next.ensures.tells in (
      behind_is c.args.place c.args.self c.in-Ok.live c.in-Ok.ensures next c.in-Some.live told.1 c.new.ensures.items refl refl,
      subst (λ (text : List ℕ). Appends old new text) (text_is c.args.place c.args.self c.in-Ok.live c.in-Ok.ensures) told.0,
    )

pub returns-in-None-clause-serves : goal.returns-in-None-clause-serves
returns-in-None-clause-serves g c =
    let old = g.K.Sink.given c.args.out.now in
    let new = g.K.Sink.given c.serve_batch-next.new.out in
    let calls = c.args.self.calls.items in
    let next = behind_batch (doing_of c.args.place c.args.self) in
    subst (λ (text : List ℕ). Serves (Goes text next) old new (Err c.why_stopped.result)) (text_is c.args.place c.args.self c.in-Ok.live c.in-Ok.ensures)
    (cut_serves (next_text c.in-Ok.live calls) (IsNext c.in-Ok.live calls) old new next c.serve_batch-next.result c.why_stopped.result c.in-None.is
    c.serve_batch-next.ensures.tells c.why_stopped.ensures)

pub serve_batch-next-requires-clause-logs : goal.serve_batch-next-requires-clause-logs
serve_batch-next-requires-clause-logs g c κs within =
    may_log c.args.place c.args.self c.in-Ok.live c.in-Ok.ensures (g.D.Disk.history c.args.disk.now) c.requires.open

pub returns-in-Some-clause-open : goal.returns-in-Some-clause-open
returns-in-Some-clause-open g c =
    let calls = c.args.self.calls.items in
    let disk = g.D.Disk.history c.serve_batch-next.new.disk in
    let next : Work = record { calls = c.new.result; base = base.Runs c.in-Some.live; replicas = c.args.self.replicas; each = c.args.self.each } in
    open_behind disk c.args.place next c.in-Some.live refl c.new.ensures.items
    (if_told (next_text c.in-Ok.live calls) (IsNext c.in-Ok.live calls) (g.K.Sink.given c.args.out.now) (g.K.Sink.given c.serve_batch-next.new.out)
    (IsLogging disk)
    c.serve_batch-next.result c.in-Some.live c.in-Some.is c.serve_batch-next.ensures.tells c.serve_batch-next.ensures.logging)

pub returns-in-Some-clause-keeps : goal.returns-in-Some-clause-keeps
returns-in-Some-clause-keeps g c = λ ck later before line h same is.
    let old = g.D.Disk.history c.args.disk.now in
    let hl = begun_holds c.args.place c.args.self c.in-Ok.live c.in-Ok.ensures old ck later h in
    ran_told c.args.place c.args.self c.in-Ok.live c.in-Ok.ensures line before same is old (g.D.Disk.history c.serve_batch-next.new.disk)
    (g.K.Sink.given c.args.out.now)
    (g.K.Sink.given c.serve_batch-next.new.out) c.serve_batch-next.result c.serve_batch-next.ensures.tells
    (as_either c.args.place c.args.self c.in-Ok.live c.in-Ok.ensures (next_due c.in-Ok.live c.args.self.calls.items) ck later
    (added later c.in-Ok.live.config.rule c.in-Ok.live.config.fallback c.args.self.calls.items) old
    (g.D.Disk.history c.serve_batch-next.new.disk) (c.serve_batch-next.ensures.images ck later hl))
    (as_after c.args.place c.args.self c.in-Ok.live c.in-Ok.ensures (next_due c.in-Ok.live c.args.self.calls.items) ck later
    (added later c.in-Ok.live.config.rule c.in-Ok.live.config.fallback c.args.self.calls.items) _
    (g.D.Disk.history c.serve_batch-next.new.disk) (c.serve_batch-next.ensures.answered ck later hl)) c.in-Some.live c.in-Some.is

pub returns-in-None-clause-keeps : goal.returns-in-None-clause-keeps
returns-in-None-clause-keeps g c = λ ck later before line h same is.
    let old = g.D.Disk.history c.args.disk.now in
    let hl = begun_holds c.args.place c.args.self c.in-Ok.live c.in-Ok.ensures old ck later h in
    ran_cut c.args.place c.args.self c.in-Ok.live c.in-Ok.ensures line before same is old (g.D.Disk.history c.serve_batch-next.new.disk)
    (g.K.Sink.given c.args.out.now)
    (g.K.Sink.given c.serve_batch-next.new.out) c.serve_batch-next.result c.serve_batch-next.ensures.tells
    (as_either c.args.place c.args.self c.in-Ok.live c.in-Ok.ensures (next_due c.in-Ok.live c.args.self.calls.items) ck later
    (added later c.in-Ok.live.config.rule c.in-Ok.live.config.fallback c.args.self.calls.items) old
    (g.D.Disk.history c.serve_batch-next.new.disk) (c.serve_batch-next.ensures.images ck later hl))
    (as_after c.args.place c.args.self c.in-Ok.live c.in-Ok.ensures (next_due c.in-Ok.live c.args.self.calls.items) ck later
    (added later c.in-Ok.live.config.rule c.in-Ok.live.config.fallback c.args.self.calls.items) _
    (g.D.Disk.history c.serve_batch-next.new.disk) (c.serve_batch-next.ensures.answered ck later hl)) c.in-None.is

pub returns-in_default-clause-keeps : goal.returns-in_default-clause-keeps
returns-in_default-clause-keeps g c = λ ck later before line h same is.
    let disk = g.D.Disk.history c.args.disk.now in
    let plan = plan_in c.args.place.head in
    let held = held_of (running_of c.args.place c.args.self) in
    let now = g.K.Sink.given c.args.out.now in
    keeps_none on_turn held_then plan (Line line ∷ []) before held disk now (Appends-nil now)
    (held_leaves_all disk plan held (store_in c.args.self.base) ck later h)

pub returns-in-Some-clause-stays : goal.returns-in-Some-clause-stays
returns-in-Some-clause-stays g c = λ first saved h before same shut.
    let ga = g.K.Sink.given c.args.out.now in
    let gb = g.K.Sink.given c.serve_batch-next.new.out in
    let calls = c.args.self.calls.items in
    let live = c.in-Ok.live in
    let old = g.D.Disk.history c.args.disk.now in
    let new = g.D.Disk.history c.serve_batch-next.new.disk in
    let next : Work = record { calls = c.new.result; base = base.Runs c.in-Some.live; replicas = c.args.self.replicas; each = c.args.self.each } in
    let tells = c.serve_batch-next.ensures.tells in
    let r = c.serve_batch-next.result in
    let told = told_all (next_text live calls) (IsNext live calls) ga gb r c.in-Some.live c.in-Some.is tells in
    let kept = if_told (next_text live calls) (IsNext live calls) ga gb (λ (n : Live). n.store ≡ next_store live calls) r c.in-Some.live c.in-Some.is tells
    c.serve_batch-next.ensures.store in
    let turns = if_told (next_text live calls) (IsNext live calls) ga gb
    (λ (n : Live). (ck : Checkpoint) (later : List Batch) → Holds old (plan_of live) (stored_state live) live.store ck later
    → HoldsTurned (next_due live calls) new (plan_of live) (next_state live calls) n.store ck (added later live.config.rule live.config.fallback calls))
    r c.in-Some.live c.in-Some.is tells c.serve_batch-next.ensures.holds in
    ran_stays c.args.place c.args.self live c.in-Ok.ensures c.in-Some.live told.1 kept next refl first saved old new h turns before same shut

pub returns-in-Some-clause-held : goal.returns-in-Some-clause-held
returns-in-Some-clause-held g c = λ first saved h before same.
    let ga = g.K.Sink.given c.args.out.now in
    let gb = g.K.Sink.given c.serve_batch-next.new.out in
    let calls = c.args.self.calls.items in
    let live = c.in-Ok.live in
    let next : Work = record { calls = c.new.result; base = base.Runs c.in-Some.live; replicas = c.args.self.replicas; each = c.args.self.each } in
    let tells = c.serve_batch-next.ensures.tells in
    let r = c.serve_batch-next.result in
    let told = told_all (next_text live calls) (IsNext live calls) ga gb r c.in-Some.live c.in-Some.is tells in
    let kept = if_told (next_text live calls) (IsNext live calls) ga gb (λ (n : Live). n.store ≡ next_store live calls) r c.in-Some.live c.in-Some.is tells
    c.serve_batch-next.ensures.store in
    ran_held c.args.place c.args.self live c.in-Ok.ensures c.in-Some.live told.1 kept next refl before same

pub returns-in-Some-clause-disk : goal.returns-in-Some-clause-disk
returns-in-Some-clause-disk g c =
    let old = g.D.Disk.history c.args.disk.now in
    let new = g.D.Disk.history c.serve_batch-next.new.disk in
    let calls = c.args.self.calls.items in
    if_told (next_text c.in-Ok.live calls) (IsNext c.in-Ok.live calls) (g.K.Sink.given c.args.out.now) (g.K.Sink.given c.serve_batch-next.new.out)
    (λ (n : Live). old.faults ≤ new.faults)
    c.serve_batch-next.result c.in-Some.live c.in-Some.is c.serve_batch-next.ensures.tells c.serve_batch-next.ensures.disk

pub returns-in-Some-clause-left : goal.returns-in-Some-clause-left
returns-in-Some-clause-left g c = λ first saved h before line same shut is.
    let old = g.D.Disk.history c.args.disk.now in
    let hl = begun_holds c.args.place c.args.self c.in-Ok.live c.in-Ok.ensures old saved.c saved.later h.stands.holds in
    ran_left c.args.place c.args.self c.in-Ok.live c.in-Ok.ensures first saved old (g.D.Disk.history c.serve_batch-next.new.disk) h before line same shut is
    (c.serve_batch-next.ensures.images saved.c saved.later hl)

pub returns-in-None-clause-left : goal.returns-in-None-clause-left
returns-in-None-clause-left g c = λ first saved h before line same shut is.
    let old = g.D.Disk.history c.args.disk.now in
    let hl = begun_holds c.args.place c.args.self c.in-Ok.live c.in-Ok.ensures old saved.c saved.later h.stands.holds in
    ran_left c.args.place c.args.self c.in-Ok.live c.in-Ok.ensures first saved old (g.D.Disk.history c.serve_batch-next.new.disk) h before line same shut is
    (c.serve_batch-next.ensures.images saved.c saved.later hl)

pub returns-in_default-clause-left : goal.returns-in_default-clause-left
returns-in_default-clause-left g c = λ first saved h before line same shut is.
    left_still (checkpoint_in c.args.self.base) first (Line line ∷ []) before saved (g.D.Disk.history c.args.disk.now) (plan_in c.args.place.head)
    (held_of (running_of c.args.place c.args.self)) (store_in c.args.self.base) h
