use Rattle.std.proofs.Common.{◌≡◌, ◌∙◌, sym, subst, ap, ◌≤◌}
use Rattle.disk_model.specs.Histories.{History, LeavesAll, MayLeave}
use Rattle.disk_model.proofs.Spans.{still_none}
use Rattle.aria_store.specs.Stands.{Stands, batches_in}
use Rattle.serving.specs.Lives.{plan_of, state_of}
use Rattle.serving.specs.Stored.{ReopensBy, is_stale}
use Rattle.slot_images.specs.Said.{checkpoint_in}
use Rattle.store_files.specs.Stores.{Rests, slot_in}
use Rattle.store_openings.specs.Openings.{LeavesUnwritten}
use Rattle.store_openings.specs.Runs.{IsNotKept, saved_by}
use Rattle.store_openings.specs.Saved.{HoldsSaved, renewed}
use Rattle.serving.specs.declared.lives.Live.{Live}
use Rattle.std.specs.Prelude.{IfOk}
use Rattle.store_openings.proofs.Fits.{ready_of, runnable}
use Rattle.store_openings.proofs.Keeping.{err_more, held_found, kept_unwritten, left_leaves, looked_leaves, not_kept_found, not_run_found, ok_both, ok_more, opened_from, run_leaves, store_of, unwritten_of}
use Rattle.store_openings.proofs.Savings.{renewed_saved, saved_on}
use Rattle.store_openings.proofs.openings.open_found.Goals as goal

pub rerun_found-requires-clause-ready : goal.rerun_found-requires-clause-ready
rerun_found-requires-clause-ready g c κs within = ready_of (slot_in c.args.store.files) (checkpoint_in c.args.found.image) c.requires.in_order

pub rerun_found-requires-clause-fit : goal.rerun_found-requires-clause-fit
rerun_found-requires-clause-fit g c κs within =
    runnable (checkpoint_in c.args.found.image) c.args.found.image.batches c.args.found.image.requests c.requires.later.0
    (batches_in c.args.found.later.items) c.requires.in_order.fallback c.requires.later.1

pub keep_store-requires-clause-store : goal.keep_store-requires-clause-store
keep_store-requires-clause-store g c =
    let same : g.D.Disk.history c.rerun_found.new.disk ≡ g.D.Disk.history c.args.disk.now = ap g.D.Disk.history c.in-Ok.ensures.untouched in
    store_of (g.D.Disk.history c.rerun_found.new.disk) c.args.store (checkpoint_in c.args.found.image) (batches_in c.args.found.later.items)
    (state_of c.in-Ok.live) c.in-Ok.ensures.found.state
    c.requires.in_order c.requires.known (subst (λ (h : History). Rests h c.args.store.files) (sym same) c.requires.rests) c.requires.open c.requires.empty

pub returns-in-Ok-clause-opened : goal.returns-in-Ok-clause-opened
returns-in-Ok-clause-opened g c =
    ok_more c.keep_store.result (λ next k. opened_from (g.D.Disk.history c.keep_store.new.disk) c.args.engines.now (checkpoint_in c.args.found.image)
    (batches_in c.args.found.later.items) c.in-Ok.live next
    c.in-Ok.ensures.found k) c.keep_store.ensures.kept

pub returns-in-Ok-clause-holds : goal.returns-in-Ok-clause-holds
returns-in-Ok-clause-holds g c =
    let mid = g.D.Disk.history c.rerun_found.new.disk in
    let new = g.D.Disk.history c.keep_store.new.disk in
    let image = checkpoint_in c.args.found.image in
    let later = batches_in c.args.found.later.items in
    let live = c.in-Ok.live in
    let found = c.in-Ok.ensures.found in
    let same : mid ≡ g.D.Disk.history c.args.disk.now = ap g.D.Disk.history c.in-Ok.ensures.untouched in
    let Own : Live → Type 0 = λ next. Stands mid c.args.store image later
    → HoldsSaved new (plan_of live) (state_of live) next.store (renewed (saved_by c.args.store image later)) in
    let own : IfOk c.keep_store.result Own = ok_both c.keep_store.result (λ next kept h stands.
    renewed_saved new (plan_of live) (state_of live) c.args.store image later next.store c.requires.known.head (sym found.plan) (sym found.state) kept
    (h image later (held_found mid c.args.store c.args.engines.now image later live found stands))) c.keep_store.ensures.store c.keep_store.ensures.holds in
    ok_both c.keep_store.result (λ next k h stands.
    saved_on new c.args.engines.now.checkpoint live next (renewed (saved_by c.args.store image later)) k
    (h (subst (λ (d : History). Stands d c.args.store image later) (sym same) stands))) c.keep_store.ensures.kept own

pub returns-in-Ok-clause-fresh : goal.returns-in-Ok-clause-fresh
returns-in-Ok-clause-fresh g c off =
    let old = g.D.Disk.history c.args.disk.now in
    let same : g.D.Disk.history c.keep_store.new.disk ≡ old =
    ap g.D.Disk.history (c.keep_store.ensures.untouched off) ∙ ap g.D.Disk.history c.in-Ok.ensures.untouched in
    subst (λ (d : History). LeavesAll old d (MayLeave old old.now)) (sym same) (looked_leaves old old (still_none old))

pub returns-in-Err-clause-fresh : goal.returns-in-Err-clause-fresh
returns-in-Err-clause-fresh g c off =
    looked_leaves (g.D.Disk.history c.args.disk.now) (g.D.Disk.history c.rerun_found.new.disk) c.rerun_found.ensures.still

pub returns-in-Ok-clause-images : goal.returns-in-Ok-clause-images
returns-in-Ok-clause-images g c stands =
    let old = g.D.Disk.history c.args.disk.now in
    let mid = g.D.Disk.history c.rerun_found.new.disk in
    let new = g.D.Disk.history c.keep_store.new.disk in
    let image = checkpoint_in c.args.found.image in
    let later = batches_in c.args.found.later.items in
    let same : mid ≡ old = ap g.D.Disk.history c.in-Ok.ensures.untouched in
    let all = c.keep_store.ensures.images image later
    (held_found mid c.args.store c.args.engines.now image later c.in-Ok.live c.in-Ok.ensures.found
    (subst (λ (d : History). Stands d c.args.store image later) (sym same) stands)) in
    run_leaves old new c.args.engines.now image later c.in-Ok.live (is_stale c.args.store) c.in-Ok.ensures.found
    (subst (λ (d : History). LeavesAll d new (ReopensBy (is_stale c.args.store) image later (plan_of c.in-Ok.live) (state_of c.in-Ok.live))) same all)

pub returns-in-Ok-clause-unwritten : goal.returns-in-Ok-clause-unwritten
returns-in-Ok-clause-unwritten g c =
    let new = g.D.Disk.history c.keep_store.new.disk in
    let same : g.D.Disk.history c.rerun_found.new.disk ≡ g.D.Disk.history c.args.disk.now = ap g.D.Disk.history c.in-Ok.ensures.untouched in
    err_more c.keep_store.result (λ why h. subst (λ (d : History). LeavesUnwritten d new why) same
    (kept_unwritten (g.D.Disk.history c.rerun_found.new.disk) new c.args.store why h)) c.keep_store.ensures.refused

pub returns-in-Ok-clause-disk : goal.returns-in-Ok-clause-disk
returns-in-Ok-clause-disk g c =
    let new = g.D.Disk.history c.keep_store.new.disk in
    let same : g.D.Disk.history c.rerun_found.new.disk ≡ g.D.Disk.history c.args.disk.now = ap g.D.Disk.history c.in-Ok.ensures.untouched in
    ok_more c.keep_store.result (λ next le. subst (λ (d : History). d.faults ≤ new.faults) same le) c.keep_store.ensures.disk

pub returns-in-Ok-clause-refused : goal.returns-in-Ok-clause-refused
returns-in-Ok-clause-refused g c =
    let old = g.D.Disk.history c.args.disk.now in
    let new = g.D.Disk.history c.keep_store.new.disk in
    let same : g.D.Disk.history c.rerun_found.new.disk ≡ old = ap g.D.Disk.history c.in-Ok.ensures.untouched in
    err_more c.keep_store.result (λ why h. not_kept_found old new c.args.store (checkpoint_in c.args.found.image) (batches_in c.args.found.later.items) why
    (subst (λ (d : History). IsNotKept d new c.args.store why) same h)) c.keep_store.ensures.refused

pub returns-in-Err-clause-images : goal.returns-in-Err-clause-images
returns-in-Err-clause-images g c stands =
    left_leaves (g.D.Disk.history c.args.disk.now) (g.D.Disk.history c.rerun_found.new.disk) (checkpoint_in c.args.found.image)
    (batches_in c.args.found.later.items) c.rerun_found.ensures.still

pub returns-in-Err-clause-unwritten : goal.returns-in-Err-clause-unwritten
returns-in-Err-clause-unwritten g c =
    unwritten_of (g.D.Disk.history c.args.disk.now) (g.D.Disk.history c.rerun_found.new.disk) c.in-Err.why
    (looked_leaves (g.D.Disk.history c.args.disk.now) (g.D.Disk.history c.rerun_found.new.disk) c.rerun_found.ensures.still)

pub returns-in-Err-clause-refused : goal.returns-in-Err-clause-refused
returns-in-Err-clause-refused g c =
    not_run_found (g.D.Disk.history c.args.disk.now) (g.D.Disk.history c.rerun_found.new.disk) c.args.store (checkpoint_in c.args.found.image)
    (batches_in c.args.found.later.items) c.in-Err.why
    c.in-Err.ensures.refused
