use Rattle.std.proofs.Common.{◌≡◌, ◌∙◌, ap, subst, ℕ, List, true, false}
use Rattle.std.specs.Prelude.{Option, option_map}
use Rattle.std.specs.Io.KnownBytes.{Appends}
use Rattle.aria_base.specs.Streams.{AppendsFront}
use Rattle.aria_base.specs.declared.calls.Call.{Call}
use Rattle.disk_model.specs.Histories.{LeavesAll}
use Rattle.aria_base.specs.Faults.{Rose}
use Rattle.aria_store.specs.Stands.{Kept, added}
use Rattle.serving.specs.Deliveries.{IsUntold}
use Rattle.serving.specs.Lives.{IsNext, next_state, next_text, plan_of}
use Rattle.serving.specs.Stored.{Holds, ReopensOnWay, logged, next_batch, next_due, stored_state, with_logged}
use Rattle.serving.specs.declared.batches.Delivery.{Delivery}
use Rattle.serving.specs.declared.lives.Live.{Live}
use Rattle.script_course.proofs.Turns.{front_all}
use Rattle.serving.proofs.Served.{holds_after, holds_left, images_after, left_after, next_after, none_given, untold_tells, way_more}
use Rattle.serving.proofs.batches.serve_batch.Goals as goal

pub returns-in-Err-clause-tells : goal.returns-in-Err-clause-tells
returns-in-Err-clause-tells g c =
    untold_tells (next_text c.args.live c.args.new.items) (IsNext c.args.live c.args.new.items) (g.K.Sink.given c.args.out.now)
    (g.K.Sink.given c.args.out.now) _ _ c.in-Err.why c.in-Err.ensures.cause
    (none_given (g.K.Sink.given c.args.out.now) (next_text c.args.live c.args.new.items))

pub returns-in-Err-clause-images : goal.returns-in-Err-clause-images
returns-in-Err-clause-images g c k later h =
    (way_more (g.D.Disk.history c.args.disk.now) (g.D.Disk.history c.log_batch.new.disk) (next_due c.args.live c.args.new.items) k later
    (added later c.args.live.config.rule c.args.live.config.fallback c.args.new.items) (plan_of c.args.live) (stored_state c.args.live)
    (next_state c.args.live c.args.new.items)
    (subst (λ (l : List Call). LeavesAll (g.D.Disk.history c.args.disk.now) (g.D.Disk.history c.log_batch.new.disk)
    (ReopensOnWay false k later (added later c.args.live.config.rule c.args.live.config.fallback l) (plan_of c.args.live) (stored_state c.args.live)
    (next_state c.args.live l))) c.as_slice.ensures.value
    (c.log_batch.ensures.images k later h)))

pub returns-in-Err-tell_batch-clause-tells : goal.returns-in-Err-tell_batch-clause-tells
returns-in-Err-tell_batch-clause-tells g c =
    let log : c.log_batch.new.live ≡ logged c.args.live c.args.new.items = c.in_default.ensures.logged
    ∙ ap (λ (l : List Call). logged c.args.live l) c.as_slice.ensures.value in
    untold_tells (next_text c.args.live c.args.new.items) (IsNext c.args.live c.args.new.items) (g.K.Sink.given c.args.out.now)
    (g.K.Sink.given c.tell_batch.new.out) _ _ c.in-Err-tell_batch.why c.in-Err-tell_batch.ensures.cause
    (subst (λ (l : List ℕ). AppendsFront (g.K.Sink.given c.args.out.now) (g.K.Sink.given c.tell_batch.new.out) l)
    (ap (λ (l : Live). next_text l c.args.new.items) log) c.in-Err-tell_batch.ensures.front)

pub returns-in-Err-tell_batch-clause-images : goal.returns-in-Err-tell_batch-clause-images
returns-in-Err-tell_batch-clause-images g c k later h =
    (way_more (g.D.Disk.history c.args.disk.now) (g.D.Disk.history c.log_batch.new.disk) (next_due c.args.live c.args.new.items) k later
    (added later c.args.live.config.rule c.args.live.config.fallback c.args.new.items) (plan_of c.args.live) (stored_state c.args.live)
    (next_state c.args.live c.args.new.items)
    (subst (λ (l : List Call). LeavesAll (g.D.Disk.history c.args.disk.now) (g.D.Disk.history c.log_batch.new.disk)
    (ReopensOnWay false k later (added later c.args.live.config.rule c.args.live.config.fallback l) (plan_of c.args.live) (stored_state c.args.live)
    (next_state c.args.live l))) c.as_slice.ensures.value
    (c.log_batch.ensures.images k later h)))

pub returns-in-Err-tell_batch-clause-answered : goal.returns-in-Err-tell_batch-clause-answered
returns-in-Err-tell_batch-clause-answered g c k later h answered =
    let logs : Holds (g.D.Disk.history c.args.disk.now) (plan_of c.args.live) (stored_state c.args.live) c.args.live.store k later
    → Holds (g.D.Disk.history c.log_batch.new.disk) (plan_of c.args.live) (next_state c.args.live c.args.new.items) c.log_batch.new.live.store k
    (added later c.args.live.config.rule c.args.live.config.fallback c.args.new.items) =
    subst (λ (l : List Call). Holds (g.D.Disk.history c.args.disk.now) (plan_of c.args.live) (stored_state c.args.live) c.args.live.store k later
    → Holds (g.D.Disk.history c.log_batch.new.disk) (plan_of c.args.live) (next_state c.args.live l) c.log_batch.new.live.store k
    (added later c.args.live.config.rule c.args.live.config.fallback l))
    c.as_slice.ensures.value (c.in_default.ensures.holds k later) in
    holds_left (next_due c.args.live c.args.new.items) (g.D.Disk.history c.log_batch.new.disk) (plan_of c.args.live)
    (next_state c.args.live c.args.new.items) c.log_batch.new.live.store k
    (added later c.args.live.config.rule c.args.live.config.fallback c.args.new.items) (logs h)

pub returns-in-Ok-rotate_where_due-clause-tells : goal.returns-in-Ok-rotate_where_due-clause-tells
returns-in-Ok-rotate_where_due-clause-tells g c =
    let log : c.log_batch.new.live ≡ logged c.args.live c.args.new.items = c.in_default.ensures.logged
    ∙ ap (λ (l : List Call). logged c.args.live l) c.as_slice.ensures.value in (
      subst (λ (l : List ℕ). Appends (g.K.Sink.given c.args.out.now) (g.K.Sink.given c.tell_batch.new.out) l)
          (ap (λ (l : Live). next_text l c.args.new.items) log) c.in-Ok.ensures.told,
      next_after c.args.live c.log_batch.new.live c.in-Ok.next c.args.new.items log c.in-Ok.ensures.next c.in-Ok.ensures.store c.rotate_where_due.new.live
          c.in-Ok-rotate_where_due.ensures.turned,
    )

pub returns-in-Ok-rotate_where_due-clause-holds : goal.returns-in-Ok-rotate_where_due-clause-holds
returns-in-Ok-rotate_where_due-clause-holds g c k later h =
    let log : c.log_batch.new.live ≡ logged c.args.live c.args.new.items = c.in_default.ensures.logged
    ∙ ap (λ (l : List Call). logged c.args.live l) c.as_slice.ensures.value in
    let logs : Holds (g.D.Disk.history c.args.disk.now) (plan_of c.args.live) (stored_state c.args.live) c.args.live.store k later
    → Holds (g.D.Disk.history c.log_batch.new.disk) (plan_of c.args.live) (next_state c.args.live c.args.new.items) c.log_batch.new.live.store k
    (added later c.args.live.config.rule c.args.live.config.fallback c.args.new.items) =
    subst (λ (l : List Call). Holds (g.D.Disk.history c.args.disk.now) (plan_of c.args.live) (stored_state c.args.live) c.args.live.store k later
    → Holds (g.D.Disk.history c.log_batch.new.disk) (plan_of c.args.live) (next_state c.args.live l) c.log_batch.new.live.store k
    (added later c.args.live.config.rule c.args.live.config.fallback l))
    c.as_slice.ensures.value (c.in_default.ensures.holds k later) in
    holds_after c.args.live c.log_batch.new.live c.in-Ok.next c.args.new.items log c.in-Ok.ensures.next c.in-Ok.ensures.store c.rotate_where_due.new.live
    c.in-Ok-rotate_where_due.ensures.turned
    (g.D.Disk.history c.args.disk.now) (g.D.Disk.history c.log_batch.new.disk) (g.D.Disk.history c.rotate_where_due.new.disk) k later logs h
    (c.in-Ok-rotate_where_due.ensures.holds k (added later c.args.live.config.rule c.args.live.config.fallback c.args.new.items))

pub returns-in-Ok-rotate_where_due-clause-images : goal.returns-in-Ok-rotate_where_due-clause-images
returns-in-Ok-rotate_where_due-clause-images g c k later h =
    let log : c.log_batch.new.live ≡ logged c.args.live c.args.new.items = c.in_default.ensures.logged
    ∙ ap (λ (l : List Call). logged c.args.live l) c.as_slice.ensures.value in
    let logs : Holds (g.D.Disk.history c.args.disk.now) (plan_of c.args.live) (stored_state c.args.live) c.args.live.store k later
    → Holds (g.D.Disk.history c.log_batch.new.disk) (plan_of c.args.live) (next_state c.args.live c.args.new.items) c.log_batch.new.live.store k
    (added later c.args.live.config.rule c.args.live.config.fallback c.args.new.items) =
    subst (λ (l : List Call). Holds (g.D.Disk.history c.args.disk.now) (plan_of c.args.live) (stored_state c.args.live) c.args.live.store k later
    → Holds (g.D.Disk.history c.log_batch.new.disk) (plan_of c.args.live) (next_state c.args.live l) c.log_batch.new.live.store k
    (added later c.args.live.config.rule c.args.live.config.fallback l))
    c.as_slice.ensures.value (c.in_default.ensures.holds k later) in
    images_after c.args.live c.log_batch.new.live c.in-Ok.next c.args.new.items log c.in-Ok.ensures.next c.in-Ok.ensures.store
    (g.D.Disk.history c.args.disk.now) (g.D.Disk.history c.log_batch.new.disk) (g.D.Disk.history c.rotate_where_due.new.disk) k later logs
    (c.rotate_where_due.ensures.images k (added later c.args.live.config.rule c.args.live.config.fallback c.args.new.items)) h
    (way_more (g.D.Disk.history c.args.disk.now) (g.D.Disk.history c.log_batch.new.disk) (next_due c.args.live c.args.new.items) k later
    (added later c.args.live.config.rule c.args.live.config.fallback c.args.new.items) (plan_of c.args.live) (stored_state c.args.live)
    (next_state c.args.live c.args.new.items)
    (subst (λ (l : List Call). LeavesAll (g.D.Disk.history c.args.disk.now) (g.D.Disk.history c.log_batch.new.disk)
    (ReopensOnWay false k later (added later c.args.live.config.rule c.args.live.config.fallback l) (plan_of c.args.live) (stored_state c.args.live)
    (next_state c.args.live l))) c.as_slice.ensures.value
    (c.log_batch.ensures.images k later h)))

pub returns-in-Ok-rotate_where_due-clause-answered : goal.returns-in-Ok-rotate_where_due-clause-answered
returns-in-Ok-rotate_where_due-clause-answered g c k later h answered =
    let log : c.log_batch.new.live ≡ logged c.args.live c.args.new.items = c.in_default.ensures.logged
    ∙ ap (λ (l : List Call). logged c.args.live l) c.as_slice.ensures.value in
    let logs : Holds (g.D.Disk.history c.args.disk.now) (plan_of c.args.live) (stored_state c.args.live) c.args.live.store k later
    → Holds (g.D.Disk.history c.log_batch.new.disk) (plan_of c.args.live) (next_state c.args.live c.args.new.items) c.log_batch.new.live.store k
    (added later c.args.live.config.rule c.args.live.config.fallback c.args.new.items) =
    subst (λ (l : List Call). Holds (g.D.Disk.history c.args.disk.now) (plan_of c.args.live) (stored_state c.args.live) c.args.live.store k later
    → Holds (g.D.Disk.history c.log_batch.new.disk) (plan_of c.args.live) (next_state c.args.live l) c.log_batch.new.live.store k
    (added later c.args.live.config.rule c.args.live.config.fallback l))
    c.as_slice.ensures.value (c.in_default.ensures.holds k later) in
    left_after c.args.live c.log_batch.new.live c.in-Ok.next c.args.new.items log c.in-Ok.ensures.next c.in-Ok.ensures.store
    (g.D.Disk.history c.args.disk.now)
    (g.D.Disk.history c.log_batch.new.disk) (g.D.Disk.history c.rotate_where_due.new.disk) k later logs
    (c.rotate_where_due.ensures.images k (added later c.args.live.config.rule c.args.live.config.fallback c.args.new.items)) h

pub returns-in-Err-rotate_where_due-clause-tells : goal.returns-in-Err-rotate_where_due-clause-tells
returns-in-Err-rotate_where_due-clause-tells g c =
    let log : c.log_batch.new.live ≡ logged c.args.live c.args.new.items = c.in_default.ensures.logged
    ∙ ap (λ (l : List Call). logged c.args.live l) c.as_slice.ensures.value in
    untold_tells (next_text c.args.live c.args.new.items) (IsNext c.args.live c.args.new.items) (g.K.Sink.given c.args.out.now)
    (g.K.Sink.given c.tell_batch.new.out) _ _ c.in-Err-rotate_where_due.why c.in-Err-rotate_where_due.ensures.cause
    (front_all (g.K.Sink.given c.args.out.now) (g.K.Sink.given c.tell_batch.new.out) (next_text c.args.live c.args.new.items)
    (subst (λ (l : List ℕ). Appends (g.K.Sink.given c.args.out.now) (g.K.Sink.given c.tell_batch.new.out) l)
    (ap (λ (l : Live). next_text l c.args.new.items) log) c.in-Ok.ensures.told))

pub returns-in-Err-rotate_where_due-clause-images : goal.returns-in-Err-rotate_where_due-clause-images
returns-in-Err-rotate_where_due-clause-images g c k later h =
    let log : c.log_batch.new.live ≡ logged c.args.live c.args.new.items = c.in_default.ensures.logged
    ∙ ap (λ (l : List Call). logged c.args.live l) c.as_slice.ensures.value in
    let logs : Holds (g.D.Disk.history c.args.disk.now) (plan_of c.args.live) (stored_state c.args.live) c.args.live.store k later
    → Holds (g.D.Disk.history c.log_batch.new.disk) (plan_of c.args.live) (next_state c.args.live c.args.new.items) c.log_batch.new.live.store k
    (added later c.args.live.config.rule c.args.live.config.fallback c.args.new.items) =
    subst (λ (l : List Call). Holds (g.D.Disk.history c.args.disk.now) (plan_of c.args.live) (stored_state c.args.live) c.args.live.store k later
    → Holds (g.D.Disk.history c.log_batch.new.disk) (plan_of c.args.live) (next_state c.args.live l) c.log_batch.new.live.store k
    (added later c.args.live.config.rule c.args.live.config.fallback l))
    c.as_slice.ensures.value (c.in_default.ensures.holds k later) in
    images_after c.args.live c.log_batch.new.live c.in-Ok.next c.args.new.items log c.in-Ok.ensures.next c.in-Ok.ensures.store
    (g.D.Disk.history c.args.disk.now) (g.D.Disk.history c.log_batch.new.disk) (g.D.Disk.history c.rotate_where_due.new.disk) k later logs
    (c.rotate_where_due.ensures.images k (added later c.args.live.config.rule c.args.live.config.fallback c.args.new.items)) h
    (way_more (g.D.Disk.history c.args.disk.now) (g.D.Disk.history c.log_batch.new.disk) (next_due c.args.live c.args.new.items) k later
    (added later c.args.live.config.rule c.args.live.config.fallback c.args.new.items) (plan_of c.args.live) (stored_state c.args.live)
    (next_state c.args.live c.args.new.items)
    (subst (λ (l : List Call). LeavesAll (g.D.Disk.history c.args.disk.now) (g.D.Disk.history c.log_batch.new.disk)
    (ReopensOnWay false k later (added later c.args.live.config.rule c.args.live.config.fallback l) (plan_of c.args.live) (stored_state c.args.live)
    (next_state c.args.live l))) c.as_slice.ensures.value
    (c.log_batch.ensures.images k later h)))

pub returns-in-Err-rotate_where_due-clause-answered : goal.returns-in-Err-rotate_where_due-clause-answered
returns-in-Err-rotate_where_due-clause-answered g c k later h answered =
    let log : c.log_batch.new.live ≡ logged c.args.live c.args.new.items = c.in_default.ensures.logged
    ∙ ap (λ (l : List Call). logged c.args.live l) c.as_slice.ensures.value in
    let logs : Holds (g.D.Disk.history c.args.disk.now) (plan_of c.args.live) (stored_state c.args.live) c.args.live.store k later
    → Holds (g.D.Disk.history c.log_batch.new.disk) (plan_of c.args.live) (next_state c.args.live c.args.new.items) c.log_batch.new.live.store k
    (added later c.args.live.config.rule c.args.live.config.fallback c.args.new.items) =
    subst (λ (l : List Call). Holds (g.D.Disk.history c.args.disk.now) (plan_of c.args.live) (stored_state c.args.live) c.args.live.store k later
    → Holds (g.D.Disk.history c.log_batch.new.disk) (plan_of c.args.live) (next_state c.args.live l) c.log_batch.new.live.store k
    (added later c.args.live.config.rule c.args.live.config.fallback l))
    c.as_slice.ensures.value (c.in_default.ensures.holds k later) in
    left_after c.args.live c.log_batch.new.live c.in-Ok.next c.args.new.items log c.in-Ok.ensures.next c.in-Ok.ensures.store
    (g.D.Disk.history c.args.disk.now)
    (g.D.Disk.history c.log_batch.new.disk) (g.D.Disk.history c.rotate_where_due.new.disk) k later logs
    (c.rotate_where_due.ensures.images k (added later c.args.live.config.rule c.args.live.config.fallback c.args.new.items)) h

pub returns-in-Err-clause-storeless : goal.returns-in-Err-clause-storeless
returns-in-Err-clause-storeless g c none e = let no : false ≡ true = c.in-Err.ensures.storeless none in absurd cc

pub returns-in-Err-tell_batch-clause-storeless : goal.returns-in-Err-tell_batch-clause-storeless
returns-in-Err-tell_batch-clause-storeless g c none e = subst
    (λ (w : Delivery). IsUntold w (Rose (g.K.Sink.faults c.args.out.now) (g.K.Sink.faults c.tell_batch.new.out)) ⊥) e c.in-Err-tell_batch.ensures.cause

pub returns-in-Err-rotate_where_due-clause-storeless : goal.returns-in-Err-rotate_where_due-clause-storeless
returns-in-Err-rotate_where_due-clause-storeless g c none e =
    let no : false ≡ true = c.in-Err-rotate_where_due.ensures.storeless (c.in-Ok.ensures.store ∙ ap (λ (l : Live). l.store) c.in_default.ensures.logged
    ∙ ap (λ (s : Option Kept). option_map (with_logged (plan_of c.args.live) (next_batch c.args.live c.as_slice.result.now)) s) none) in
    absurd cc
