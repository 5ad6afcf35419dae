-- A database that gets its store.
use Rattle.std.proofs.Common.{◌≡◌, ◌⊎◌, inl, inr, sym, ◌∙◌, ap, subst, refl, ℕ, ◌≤◌, ◌==◌, ◌||◌, Bool, true, false, not, zero, suc, List, [], ◌∷◌, length, map, Option, None, Some, arith}
use Rattle.std.proofs.lemmas.Bool.{cases_eq}
use Rattle.std.proofs.lemmas.Bool.Decides.{nat_tests}
use Rattle.std.specs.Prelude.{IfErr, IfOk, IfSome, Result, Ok, Err}
use Rattle.aria_base.specs.Faults.{Rose}
use Rattle.aria_base.specs.Orders.{Cells}
use Rattle.aria_base.specs.declared.calls.Request.{Request}
use Rattle.aria_base.specs.declared.keys.Key.{Key}
use Rattle.aria_store.specs.Stands.{IsKnown, Kept, Stands, fallback_after, rule_after}
use Rattle.batch_core.specs.Steps.{State, run, step}
use Rattle.batch_rules.specs.Trees.{Tree}
use Rattle.checkpoint.specs.Damage.{IsSound}
use Rattle.checkpoint.specs.Heads.{fields_for}
use Rattle.checkpoint.specs.declared.heads.Head.{Head}
use Rattle.checkpoint.proofs.Showing.{clear}
use Rattle.disk_model.specs.Histories.{History, LeavesAll, MayLeave, Still, current}
use Rattle.disk_model.proofs.Spans.{leaves_more, leaves_still}
use Rattle.disk_model.specs.Files.{File}
use Rattle.input_log.specs.Layout.{Breaks, Ends, Log, log_of}
use Rattle.input_log.specs.declared.logs.Payload.{Payload}
use Rattle.image_text.specs.Payloads.{Batch}
use Rattle.proc_lang.specs.Catalogs.{Plan, run_of}
use Rattle.proc_lang.specs.declared.ends.End.{End}
use Rattle.serving.proofs.Storing.{batches_behind}
use Rattle.serving.specs.Deliveries.{IsUntold}
use Rattle.serving.specs.Lives.{IsRunnable, plan_of, state_of}
use Rattle.serving.specs.Stored.{IsHeld, IsLogging, MayRenew, ReopensBy, crowded, crowded_from, handed_in, is_stale, stale_by, state_at, state_behind, told_by, turned, turned_by}
use Rattle.serving.specs.declared.batches.Delivery.{Delivery}
use Rattle.serving.specs.declared.batches.Delivery.TheVariants as delivery
use Rattle.serving.specs.declared.lives.Live.{Live}
use Rattle.input_log.specs.declared.limits.TheConstants.{MOST_LOG}
use Rattle.slot_images.specs.Images.{Checkpoint}
use Rattle.slot_images.specs.Said.{IsInOrder}
use Rattle.store_files.specs.Stores.{Rests, slot_in}
use Rattle.store_openings.specs.Openings.{AreRunnable, LeavesUnwritten, log_in, offset_at, offset_in}
use Rattle.store_openings.specs.Refusals.{IsForDelivery, IsRotating}
use Rattle.store_openings.specs.Runs.{IsFoundAs, IsLook, IsNotFound, IsNotKept, IsNotRun, IsOpenedFrom, IsRerun, IsStoreOf, IsWithStore, LeftOrRun}
use Rattle.store_openings.specs.declared.engines.RunSettings.{RunSettings}
use Rattle.store_openings.specs.declared.refusals.NotOpened.{NotOpened}
use Rattle.store_openings.specs.declared.refusals.NotOpened.TheVariants as refused

-- ---- the store of what was found

-- a sound head has one of the two formats
format_by : (n : ℕ) → not (n == 1 || n == 2) ≡ false → (n ≡ 1) ⊎ (n ≡ 2)
format_by n e = elim (cases_eq n 1) [
  | inl one ↦ inl one
  | inr not_one ↦ elim (cases_eq n 2) [
    | inl two ↦ inr two
    | inr not_two ↦
        let a : n == 1 ≡ false = grind (arith, nat_tests, not_one) in
        let b : n == 2 ≡ false = grind (arith, nat_tests, not_two) in
        let no : true ≡ false = sym (ap (λ (x : Bool). not (x || n == 2)) a ∙ ap (λ (y : Bool). not (false || y)) b) ∙ e in
        absurd (cc no)
  ]
]

format_of : (slot : ℕ) (h : Head) → IsSound slot h → (h.format ≡ 1) ⊎ (h.format ≡ 2)
format_of slot h sound = format_by h.format (clear slot (fields_for h 0) sound).format

-- the settings behind batches are those of the last one
module _ (tree : Request → Tree Key Cells End) where
  rule_behind : (state : State) (later : List Batch) → (run tree state (map handed_in later)).rule ≡ rule_after state.rule later
  rule_behind state [] = refl
  rule_behind state (batch ∷ later) = rule_behind (step tree state (handed_in batch)) later

  percent_behind : (state : State) (later : List Batch) → (run tree state (map handed_in later)).percent ≡ fallback_after state.percent later
  percent_behind state [] = refl
  percent_behind state (batch ∷ later) = percent_behind (step tree state (handed_in batch)) later

settings_of : (store : Kept) (state : State) → store.rule ≡ state.rule → store.fallback ≡ state.percent → told_by (Some store) state ≡ state
settings_of store state r p = λ i. record {
  rule = r i;
  percent = p i;
  rows = state.rows;
  waiting = state.waiting;
  batches = state.batches;
  requests =
      state.requests;
}

pub store_of : (disk : History) (store : Kept) (c : Checkpoint) (later : List Batch) (state : State) → state ≡ state_behind c later
    → IsInOrder (slot_in store.files) c → IsKnown store c later → Rests disk store.files → store.files.closed ≡ None
    → (store.files.batches ≡ 0 → store.files.at ≡ 0) → IsStoreOf disk store state
store_of disk store c later state same order known rests shut empty =
    let ran = batches_behind (run_of c.plan) (state_at c) later in
    let here : state.batches ≡ (state_behind c later).batches = ap (λ (s : State). s.batches) same in
    let head : store.files.head.batches ≡ c.head.batches = ap (λ (h : Head). h.batches) known.head in
    record {
      open_yet = shut;
      rests = rests;
      format = subst (λ (h : Head). (h.format ≡ 1) ⊎ (h.format ≡ 2)) (sym known.head) (format_of (slot_in store.files) c.head order.sound);
      counted = omega (arith, ran, here, head, known.batches);
      empty = empty;
      settings = settings_of store state
          (known.rule ∙ sym (ap (λ (s : State). s.rule) same ∙ rule_behind (run_of c.plan) (state_at c) later))
          (known.fallback ∙ sym (ap (λ (s : State). s.percent) same ∙ percent_behind (run_of c.plan) (state_at c) later));
    }

-- ---- put in

filled : (batches at : ℕ) → (batches ≡ 0 → at ≡ 0) → (1 ≤ batches) ⊎ (at ≤ MOST_LOG)
filled zero at empty = let none = empty refl in inr (omega (arith, none))
filled (suc n) at empty = inl (omega arith)

pub may_renew : (disk : History) (store : Kept) (state : State) → IsStoreOf disk store state → MayRenew disk state.batches store
may_renew disk store state is =
    record { open_yet = is.open_yet; rests = is.rests; format = is.format; filled = filled store.files.batches store.files.at is.empty; counted = is.counted }

pub runnable_with : (live : Live) (store : Option Kept) (checkpoint : ℕ) → IsRunnable live → IsRunnable (record live { store = store; checkpoint = checkpoint })
runnable_with live store checkpoint r = record {
  few = r.few;
  batches_within = r.batches_within;
  requests_within = r.requests_within;
  percent = r.percent;
  workers = r.workers;
}

turned_settings : (due : Bool) (store : Kept) (state : State) → told_by (Some store) state ≡ state → told_by (Some (turned due state store)) state ≡ state
turned_settings true store state same = refl
turned_settings false store state same = same

module _ (live : Live) (store : Kept) (checkpoint : ℕ) where
  abbrev pub with_it : Live
  with_it = record live { store = Some store; checkpoint = checkpoint }

  abbrev pub renewed : Live
  renewed = record live { store = turned_by (stale_by (Some store)) (state_of live) (Some store); checkpoint = checkpoint }

  pub kept : (old new : History) → IsRunnable live → IsStoreOf old store (state_of live) → (next : Live) → next ≡ renewed → IsLogging new next
      → IsWithStore new checkpoint live next
  kept old new r is next same logging =
      subst (λ (l : Live). IsWithStore new checkpoint live l) (sym same) (record {
        plan = refl;
        state = refl;
        config = refl;
        each = refl;
        count = refl;
        checkpoint_is = refl;
        runnable = runnable_with live (turned_by (stale_by (Some store)) (state_of live) (Some store)) checkpoint r;
        logging = subst (λ (l : Live). IsLogging new l) same logging;
        stored = refl;
        settings = turned_settings (is_stale store) store (state_of live) is.settings;
      })

-- ---- what a rotation that was refused comes to

pub rotating_of : (why : Delivery) (rose : Type 0) → IsUntold why ⊥ rose → IsRotating why
rotating_of delivery.Told rose h = absurd h
rotating_of delivery.NoMemory rose h = tt
rotating_of delivery.NoWrite rose h = absurd h
rotating_of delivery.NoDisk rose h = tt

pub not_kept : (old new : History) (store : Kept) (why : Delivery) (end : NotOpened) → IsUntold why ⊥ (Rose old.faults new.faults) → IsForDelivery why end
    → IsNotKept old new store end
not_kept old new store delivery.Told end h is = absurd h
not_kept old new store delivery.NoMemory end h is = subst (λ (e : NotOpened). IsNotKept old new store e) (sym is) tt
not_kept old new store delivery.NoWrite end h is = absurd h
not_kept old new store delivery.NoDisk end h is = subst (λ (e : NotOpened). IsNotKept old new store e) (sym is) h

pub looked_leaves : (old new : History) → Still old new → LeavesAll old new (MayLeave old old.now)
looked_leaves old new still = leaves_still old new (MayLeave old old.now) still (λ images left. left)

pub kept_unwritten : (old new : History) (store : Kept) (why : NotOpened) → IsNotKept old new store why → LeavesUnwritten old new why
kept_unwritten old new store refused.NoStore h = absurd h
kept_unwritten old new store (refused.Damaged file at) h = absurd h
kept_unwritten old new store refused.NoDisk h = tt
kept_unwritten old new store refused.NoMemory h = tt

-- ---- the batches behind a checkpoint, run

pub fit_from : (start : Live) (c : Checkpoint) (later : List Batch) → plan_of start ≡ c.plan → state_of start ≡ state_at c
    → AreRunnable c.plan c.head.batches c.head.requests later → AreRunnable (plan_of start) (state_of start).batches (state_of start).requests later
fit_from start c later plan state fit =
    subst (λ (p : Plan). AreRunnable p (state_of start).batches (state_of start).requests later) (sym plan)
    (subst (λ (s : State). AreRunnable c.plan s.batches s.requests later) (sym state) fit)

pub found_as : (engines : RunSettings) (c : Checkpoint) (later : List Batch) (start live : Live) → plan_of start ≡ c.plan → state_of start ≡ state_at c
    → start.each ≡ engines.each → length start.replicas ≡ engines.replicas → start.config.workers ≡ engines.workers → IsRerun start later live
    → IsFoundAs engines c later live
found_as engines c later start live plan state each count workers r = record {
  roomy = sym (λ i. crowded_from (plan i) 0 (state i) later) ∙ r.roomy;
  plan = r.plan ∙ plan;
  state = r.state ∙ (λ i. run (run_of (plan i)) (state i) (map handed_in later));
  each = r.alike.each ∙ each;
  count = r.alike.count ∙ count;
  workers = r.alike.workers ∙ workers;
  runnable = r.runnable;
}

pub crowd_from : (start : Live) (c : Checkpoint) (later : List Batch) (place : ℕ) → plan_of start ≡ c.plan → state_of start ≡ state_at c
    → crowded_from (plan_of start) 0 (state_of start) later ≡ Some place → crowded c later ≡ Some place
crowd_from start c later place plan state e = sym (λ i. crowded_from (plan i) 0 (state i) later) ∙ e

pub look_run : (old new : History) (c : Checkpoint) (later : List Batch) (log place : ℕ) (why : NotOpened) → log ≡ log_in c → crowded c later ≡ Some place
    → IsLook old new log place why → IsNotRun old new c later why
look_run old new c later log place refused.NoStore is crowd h = absurd h
look_run old new c later log place (refused.Damaged file at) is crowd h =
    (place, crowd, h.0 ∙ is, subst (λ (n : ℕ). IfSome (current old n) (λ f. at ≡ offset_in (log_of f.seen) place)) is h.1)
look_run old new c later log place refused.NoDisk is crowd h = h
look_run old new c later log place refused.NoMemory is crowd h = tt

-- ---- a look at a log

pub look_at : (told : Option File) (payloads : List Payload) (end place at : ℕ) → at ≡ offset_at payloads place
    → IfSome told (λ f. log_of f.seen ≡ Ends payloads end)
    → IfSome told (λ f. at ≡ offset_in (log_of f.seen) place)
look_at None payloads end place at is log = tt
look_at (Some f) payloads end place at is log = is ∙ sym (ap (λ (l : Log). offset_in l place) log)

pub look_broken : (told : Option File) (place at : ℕ) → IfSome told (λ f. log_of f.seen ≡ Breaks at) → IfSome told (λ f. at ≡ offset_in (log_of f.seen) place)
look_broken None place at log = tt
look_broken (Some f) place at log = sym (ap (λ (l : Log). offset_in l place) log)

-- ---- results

pub ok_more : {X E : Type 0} {P Q : X → Type 0} (r : Result X E) → ((x : X) → P x → Q x) → IfOk r P → IfOk r Q
ok_more (Ok x) more h = more x h
ok_more (Err e) more h = tt

pub ok_both : {X E : Type 0} {P Q R : X → Type 0} (r : Result X E) → ((x : X) → P x → Q x → R x) → IfOk r P → IfOk r Q → IfOk r R
ok_both (Ok x) more h k = more x h k
ok_both (Err e) more h k = tt

pub err_more : {X E : Type 0} {P Q : E → Type 0} (r : Result X E) → ((e : E) → P e → Q e) → IfErr r P → IfErr r Q
err_more (Ok x) more h = tt
err_more (Err e) more h = more e h

-- ---- both

by_true : (c : Checkpoint) (later : List Batch) (plan : Plan) (state : State) (images : ℕ → List ℕ) (due : Bool) → ReopensBy due c later plan state images
    → ReopensBy true c later plan state images
by_true c later plan state images due (inl h) = inl h
by_true c later plan state images due (inr h) = inr (refl, h.1)

pub opened_from : (disk : History) (engines : RunSettings) (c : Checkpoint) (later : List Batch) (live next : Live) → IsFoundAs engines c later live
    → IsWithStore disk engines.checkpoint live next → IsOpenedFrom disk engines c later next
opened_from disk engines c later live next f k = record {
  found = record {
    roomy = f.roomy;
    plan = k.plan ∙ f.plan;
    state = k.state ∙ f.state;
    each = k.each ∙ f.each;
    count = k.count ∙ f.count;
    workers = ap (λ c. c.workers) k.config ∙ f.workers;
    runnable = k.runnable;
  };
  checkpoint = k.checkpoint_is;
  logging = k.logging;
  stored = k.stored;
  settings = k.settings;
}

pub held_found : (disk : History) (store : Kept) (engines : RunSettings) (c : Checkpoint) (later : List Batch) (live : Live) → IsFoundAs engines c later live
    → Stands disk store c later → IsHeld disk (plan_of live) (state_of live) store c later
held_found disk store engines c later live f stands = record { stands = stands; roomy = f.roomy; plan_is = sym f.plan; state_is = sym f.state }

pub run_leaves : (old new : History) (engines : RunSettings) (c : Checkpoint) (later : List Batch) (live : Live) (due : Bool) → IsFoundAs engines c later live
    → LeavesAll old new (ReopensBy due c later (plan_of live) (state_of live)) → LeavesAll old new (LeftOrRun old c later)
run_leaves old new engines c later live due f all =
    leaves_more old new (ReopensBy due c later (plan_of live) (state_of live)) (LeftOrRun old c later) all (λ images is. inr (
      f.roomy,
      subst (λ (plan : Plan). ReopensBy true c later plan (state_behind c later) images) f.plan
          (subst (λ (state : State). ReopensBy true c later (plan_of live) state images) f.state
          (by_true c later (plan_of live) (state_of live) images due is)),
    ))

pub left_leaves : (old new : History) (c : Checkpoint) (later : List Batch) → Still old new → LeavesAll old new (LeftOrRun old c later)
left_leaves old new c later still = leaves_still old new (LeftOrRun old c later) still (λ images left. inl left)

-- ---- refusals

pub unwritten_of : (old new : History) (why : NotOpened) → LeavesAll old new (MayLeave old old.now) → LeavesUnwritten old new why
unwritten_of old new refused.NoStore all = all
unwritten_of old new (refused.Damaged file at) all = all
unwritten_of old new refused.NoDisk all = tt
unwritten_of old new refused.NoMemory all = tt

pub not_run_found : (old new : History) (store : Kept) (c : Checkpoint) (later : List Batch) (why : NotOpened) → IsNotRun old new c later why
    → IsNotFound old new store c later why
not_run_found old new store c later refused.NoStore h = absurd h
not_run_found old new store c later (refused.Damaged file at) h = h
not_run_found old new store c later refused.NoDisk h = h
not_run_found old new store c later refused.NoMemory h = tt

pub not_kept_found : (old new : History) (store : Kept) (c : Checkpoint) (later : List Batch) (why : NotOpened) → IsNotKept old new store why
    → IsNotFound old new store c later why
not_kept_found old new store c later refused.NoStore h = absurd h
not_kept_found old new store c later (refused.Damaged file at) h = absurd h
not_kept_found old new store c later refused.NoDisk h = h
not_kept_found old new store c later refused.NoMemory h = tt
