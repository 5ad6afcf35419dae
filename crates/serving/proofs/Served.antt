-- A batch in the log, its answer, and the checkpoint behind it, put together.
use Rattle.std.proofs.Common.{◌≡◌, ◌∙◌, ◌⊎◌, inl, inr, sym, ap, subst, refl, ℕ, ◌+◌, ◌≤◌, ◌==◌, ◌||◌, nat_lt, List, [], length, Bool, true, false, Option, Some, None, IfSome, arith}
use Rattle.std.proofs.lemmas.Bool.Decides.{nat_tests}
use Rattle.std.specs.Prelude.{Result, Ok, Err, OnOk}
use Rattle.std.specs.List.{slice_get}
use Rattle.std.proofs.KnownBytes.{Appends-nil}
use Rattle.aria_base.specs.Streams.{AppendsFront}
use Rattle.aria_base.specs.declared.calls.Call.{Call}
use Rattle.batch_core.specs.Steps.{State}
use Rattle.batch_engine.specs.Engines.{Between, state_in}
use Rattle.disk_model.specs.Histories.{History, LeavesAll, MayLeave}
use Rattle.disk_model.proofs.Spans.{leaves_more, leaves_still, leaves_then, still_none}
use Rattle.image_text.specs.Payloads.{Batch}
use Rattle.proc_lang.specs.Catalogs.{Plan}
use Rattle.slot_images.specs.Images.{Checkpoint}
use Rattle.aria_store.specs.Reopens.{Reopens, Found}
use Rattle.aria_store.specs.Stands.{Kept, MayAdd, Stands, added}
use Rattle.serving.specs.Deliveries.{IsUntold, Tells}
use Rattle.serving.specs.Lives.{IsNext, MayServe, next_handed, next_state, plan_of, state_of}
use Rattle.input_log.specs.declared.limits.TheConstants.{MOST_LOG}
use Rattle.serving.specs.Stored.{GoesOn, HasTaken, Holds, HoldsTurned, IsHeld, IsLogging, MayRenew, MayTurn, ReopensBy, ReopensOnWay, due_by, is_due, is_stale, logged, next_due, stored_state, told_by, turned, turned_by}
use Rattle.serving.specs.declared.batches.Delivery.{Delivery}
use Rattle.serving.specs.declared.batches.Delivery.TheVariants as delivery
use Rattle.serving.specs.declared.lives.Live.{Live}
use Rattle.serving.proofs.Nexts.{plan_is, state_is}
use Rattle.serving.proofs.Storing.{held_left, log_held, log_leaves, may_add}

-- ---- the first engine stands for the database

-- what is said of it holds of the database
pub first_is : (live : Live) (first : Between) → slice_get live.replicas 0 ≡ Some first → (P : Plan → State → Type 0)
    → P first.plan (state_in live.config first) → P (plan_of live) (state_of live)
first_is live first e P p =
    subst (λ (plan : Plan). P plan (state_of live)) (sym (plan_is live.replicas first e))
    (subst (λ (state : State). P first.plan state) (sym (state_is live.config live.replicas first e)) p)

-- and what is said of the database holds of it
pub of_first : (live : Live) (first : Between) → slice_get live.replicas 0 ≡ Some first → (P : Plan → State → Type 0)
    → P (plan_of live) (state_of live) → P first.plan (state_in live.config first)
of_first live first e P p =
    subst (λ (plan : Plan). P plan (state_in live.config first)) (plan_is live.replicas first e)
    (subst (λ (state : State). P (plan_of live) state) (state_is live.config live.replicas first e) p)

-- ---- the database with its batch in the log is the same but for the store

next_logged : (live : Live) (calls : List Call) (next : Live) → IsNext (logged live calls) calls next → IsNext live calls next
next_logged live calls next h = record {
  engines = h.engines;
  count = h.count;
  plan = h.plan;
  state = h.state;
  config = h.config;
  each = h.each;
  checkpoint = h.checkpoint;
  runnable = h.runnable;
  serial = h.serial;
}

abbrev with_store : Live → Option Kept → Live
with_store live store = record live { store = store }

-- another store makes no other batch
next_with : (live : Live) (calls : List Call) (next : Live) (store : Option Kept) → IsNext live calls next → IsNext live calls (with_store next store)
next_with live calls next store h =
    let r = h.runnable in
    record {
      engines = h.engines;
      count = h.count;
      plan = h.plan;
      state = h.state;
      config = h.config;
      each = h.each;
      checkpoint = h.checkpoint;
      runnable = record { few = r.few; batches_within = r.batches_within; requests_within = r.requests_within; percent = r.percent; workers = r.workers };
      serial = h.serial;
    }

module _ (live mid next : Live) (calls : List Call) (log : mid ≡ logged live calls) (is : IsNext mid calls next) (same : next.store ≡ mid.store) where
  own : IsNext (logged live calls) calls next
  own = subst (λ (l : Live). IsNext l calls next) log is

  store_next : next.store ≡ (logged live calls).store
  store_next = same ∙ ap (λ (l : Live). l.store) log

  -- what holds of the logged database holds of the one behind the batch
  to_next : (P : Plan → State → Option Kept → Type 0) → P (plan_of live) (next_state live calls) mid.store → P (plan_of next) (state_of next) next.store
  to_next P p =
      subst (λ (store : Option Kept). P (plan_of next) (state_of next) store) (sym same)
      (subst (λ (state : State). P (plan_of next) state mid.store) (sym own.state)
      (subst (λ (plan : Plan). P plan (next_state live calls) mid.store) (sym own.plan) p))

  to_live : (P : Plan → State → Type 0) → P (plan_of next) (state_of next) → P (plan_of live) (next_state live calls)
  to_live P p = subst (λ (state : State). P (plan_of live) state) own.state (subst (λ (plan : Plan). P plan (state_of next)) own.plan p)

  due_next : due_by next.checkpoint (state_of next).batches next.store ≡ next_due live calls
  due_next = λ i. due_by (own.checkpoint i) (own.state i).batches (store_next i)

  module _ (after : Live) (turn : after ≡ record next {
    store =
        turned_by (due_by next.checkpoint (state_of next).batches next.store) (state_of next) next.store;
  }) where
    pub next_after : IsNext live calls after
    next_after = subst (λ (l : Live). IsNext live calls l) (sym turn)
        (next_with live calls next (turned_by (due_by next.checkpoint (state_of next).batches next.store) (state_of next) next.store)
        (next_logged live calls next own))

    module _ (old log_disk new : History) (c : Checkpoint) (later : List Batch)
        (logs : Holds old (plan_of live) (stored_state live) live.store c later
        → Holds log_disk (plan_of live) (next_state live calls) mid.store c (added later live.config.rule live.config.fallback calls))
        (h : Holds old (plan_of live) (stored_state live) live.store c later) where
      pub holds_after : (Holds log_disk (plan_of next) (state_of next) next.store c (added later live.config.rule live.config.fallback calls)
          → HoldsTurned (due_by next.checkpoint (state_of next).batches next.store) new (plan_of next) (state_of next) after.store c
          (added later live.config.rule live.config.fallback calls))
          → HoldsTurned (next_due live calls) new (plan_of live) (next_state live calls) after.store c (added later live.config.rule live.config.fallback calls)
      holds_after turns =
          subst (λ (due : Bool). HoldsTurned due new (plan_of live) (next_state live calls) after.store c
          (added later live.config.rule live.config.fallback calls)) due_next
          (to_live (λ plan state. HoldsTurned (due_by next.checkpoint (state_of next).batches next.store) new plan state after.store c
          (added later live.config.rule live.config.fallback calls))
          (turns (to_next (λ plan state store. Holds log_disk plan state store c (added later live.config.rule live.config.fallback calls)) (logs h))))

  -- ---- the images of both calls

  module _ (old log_disk new : History) (c : Checkpoint) (later : List Batch)
      (logs : Holds old (plan_of live) (stored_state live) live.store c later
      → Holds log_disk (plan_of live) (next_state live calls) mid.store c (added later live.config.rule live.config.fallback calls))
      (turns : Holds log_disk (plan_of next) (state_of next) next.store c (added later live.config.rule live.config.fallback calls)
      → LeavesAll log_disk new (ReopensBy (due_by next.checkpoint (state_of next).batches next.store) c
      (added later live.config.rule live.config.fallback calls) (plan_of next) (state_of next)))
      (h : Holds old (plan_of live) (stored_state live) live.store c later) where
    abbrev More : List Batch
    More = added later live.config.rule live.config.fallback calls

    turned_leaves : LeavesAll log_disk new (ReopensBy (next_due live calls) c More (plan_of live) (next_state live calls))
    turned_leaves =
        subst (λ (due : Bool). LeavesAll log_disk new (ReopensBy due c More (plan_of live) (next_state live calls))) due_next
        (to_live (λ plan state. LeavesAll log_disk new (ReopensBy (due_by next.checkpoint (state_of next).batches next.store) c More plan state))
        (turns (to_next (λ plan state store. Holds log_disk plan state store c More) (logs h))))

    pub images_after : LeavesAll old log_disk (ReopensOnWay (next_due live calls) c later More (plan_of live) (stored_state live) (next_state live calls))
        → LeavesAll old new (ReopensOnWay (next_due live calls) c later More (plan_of live) (stored_state live) (next_state live calls))
    images_after before =
        leaves_then old log_disk new (ReopensOnWay (next_due live calls) c later More (plan_of live) (stored_state live) (next_state live calls)) before
        (leaves_more log_disk new (ReopensBy (next_due live calls) c More (plan_of live) (next_state live calls))
        (ReopensOnWay (next_due live calls) c later More (plan_of live) (stored_state live) (next_state live calls)) turned_leaves
        (λ images is_after. inr is_after))

    pub left_after : (images : ℕ → List ℕ) → MayLeave new new.now images
        → ReopensBy (next_due live calls) c More (plan_of live) (next_state live calls) images
    left_after images left = turned_leaves.each new.now turned_leaves.later (omega arith) images left

-- ---- the batch in the log

module _ (live : Live) (calls : List Call) (may : MayServe live calls) (store : Kept) (is : live.store ≡ Some store) (catalog : Plan)
    (p : catalog ≡ plan_of live)
    (old : History) (c : Checkpoint) (later : List Batch) (h : Holds old (plan_of live) (stored_state live) live.store c later) where
  here : IsHeld old (plan_of live) (told_by (Some store) (state_of live)) store c later
  here = subst (λ (s : Option Kept). Holds old (plan_of live) (told_by s (state_of live)) s c later) is h

  may_here : MayAdd catalog (length calls) c later
  may_here = subst (λ (q : Plan). MayAdd q (length calls) c later) (sym p)
      (may_add old (plan_of live) (state_of live) store (next_handed live calls) c later here (omega (arith, may.room)) may.batches may.requests)

  pub logged_holds : (new : History) (now : Kept)
      → (Stands old store c later → MayAdd catalog (length calls) c later → Stands new now c (added later live.config.rule live.config.fallback calls))
      → IsHeld new (plan_of live) (next_state live calls) now c (added later live.config.rule live.config.fallback calls)
  logged_holds new now stands =
      log_held old (plan_of live) (state_of live) store (next_handed live calls) c later here may.room new now (stands here.stands may_here)

  pub logged_leaves : (due : Bool) (new : History)
      → (Stands old store c later → MayAdd catalog (length calls) c later
      → LeavesAll old new (λ images. Reopens images (Found c later) ⊎ Reopens images (Found c (added later live.config.rule live.config.fallback calls))))
      → LeavesAll old new (ReopensOnWay due c later (added later live.config.rule live.config.fallback calls) (plan_of live) (stored_state live)
      (next_state live calls))
  logged_leaves due new all =
      subst (λ (s : Option Kept). LeavesAll old new (ReopensOnWay due c later (added later live.config.rule live.config.fallback calls) (plan_of live)
      (told_by s (state_of live)) (next_state live calls))) (sym is)
      (log_leaves old (plan_of live) (state_of live) store (next_handed live calls) c later here may.room due new (all here.stands may_here))

-- a database with a store may log where its store goes on
pub open_store : (live : Live) (store : Kept) → live.store ≡ Some store → (disk : History) → IsLogging disk live → store.files.closed ≡ None
open_store live store is disk h =
    let goes : IfSome (Some store) (GoesOn disk (state_of live).batches) = subst (λ (s : Option Kept). IfSome s (GoesOn disk (state_of live).batches)) is h in
    goes.open_yet

-- what is held is what a stop now leaves
pub holds_left : (due : Bool) (disk : History) (plan : Plan) (state : State) (store : Option Kept) (c : Checkpoint) (later : List Batch)
    → Holds disk plan state store c later → (images : ℕ → List ℕ) → MayLeave disk disk.now images → ReopensBy due c later plan state images
holds_left due disk plan state None c later h = absurd h
holds_left due disk plan state (Some store) c later h = λ images left. inl (held_left disk plan state store c later h images left)

-- ---- when a store can take no batch as it is

not_stale : (format at : ℕ) → format ≡ 2 → at ≤ MOST_LOG → (format == 1 || nat_lt MOST_LOG at) ≡ false
not_stale format at two short =
    let a : (format == 1) ≡ false = grind (arith, nat_tests, two) in
    let b : nat_lt MOST_LOG at ≡ false = grind (arith, nat_tests, short) in
    ap (λ (x : Bool). x || nat_lt MOST_LOG at) a ∙ b

due_of : (format at batches : ℕ) → (format == 1 || nat_lt MOST_LOG at) ≡ true → (format ≡ 1) ⊎ (format ≡ 2) → (1 ≤ batches) ⊎ (at ≤ MOST_LOG)
    → (1 ≤ batches) ⊎ (format ≡ 1)
due_of format at batches on (inl one) filled = inr one
due_of format at batches on (inr two) (inl some) = inl some
due_of format at batches on (inr two) (inr short) = let no : false ≡ true = sym (not_stale format at two short) ∙ on in absurd (cc no)

none_of : (a b : Bool) → a || b ≡ false → (a ≡ false) × (b ≡ false)
none_of false b e = (refl, e)
none_of true b e = absurd (cc e)

fresh_of : (format at : ℕ) → (format == 1 || nat_lt MOST_LOG at) ≡ false → (format ≡ 1) ⊎ (format ≡ 2) → (format ≡ 2) × (at ≤ MOST_LOG)
fresh_of format at off (inl one) =
    let no : true ≡ false = sym (ap (λ (n : ℕ). n == 1) one) ∙ (none_of (format == 1) (nat_lt MOST_LOG at) off).0 in
    absurd (cc no)
fresh_of format at off (inr two) = (two, grind (arith, nat_tests, (none_of (format == 1) (nat_lt MOST_LOG at) off).1))

-- where none is due, so much the more
pub way_more : (old new : History) (due : Bool) (c : Checkpoint) (later more : List Batch) (plan : Plan) (before after : State)
    → LeavesAll old new (ReopensOnWay false c later more plan before after) → LeavesAll old new (ReopensOnWay due c later more plan before after)
way_more old new due c later more plan before after all =
    leaves_more old new (ReopensOnWay false c later more plan before after) (ReopensOnWay due c later more plan before after) all one
  where
    one : (images : ℕ → List ℕ) → ReopensOnWay false c later more plan before after images → ReopensOnWay due c later more plan before after images
    one images (inl h) = inl h
    one images (inr (inl h)) = inr (inl h)
    one images (inr (inr h)) = absurd (let no : false ≡ true = h.0 in cc)

-- ---- where no call is made, and where a checkpoint is laid

pub still_leaves : (due : Bool) (disk : History) (plan : Plan) (state : State) (store : Option Kept) (c : Checkpoint) (later : List Batch)
    → Holds disk plan state store c later
    → LeavesAll disk disk (ReopensBy due c later plan state)
still_leaves due disk plan state store c later h =
    leaves_still disk disk (ReopensBy due c later plan state) (still_none disk) (holds_left due disk plan state store c later h)

module _ (live : Live) (store : Kept) (is : live.store ≡ Some store) where
  own_renew : (disk : History) → IfSome live.store (MayRenew disk (state_of live).batches) → MayRenew disk (state_of live).batches store
  own_renew disk h = let own : IfSome (Some store) (MayRenew disk (state_of live).batches) =
      subst (λ (s : Option Kept). IfSome s (MayRenew disk (state_of live).batches)) is h in own

  -- where no checkpoint is due before the first batch, the store takes batches as it is
  pub fresh_goes_on : (disk : History) → is_stale store ≡ false → IfSome live.store (MayRenew disk (state_of live).batches)
      → GoesOn disk (state_of live).batches store
  fresh_goes_on disk off h =
      let own = own_renew disk h in
      let both = fresh_of store.files.head.format store.files.at off own.format in
      record { open_yet = own.open_yet; rests = own.rests; format = both.0; short = both.1; counted = own.counted }

module _ (live : Live) (first : Between) (e : slice_get live.replicas 0 ≡ Some first) (store : Kept) (is : live.store ≡ Some store) where
  pub due_here : (on : Bool) (number bytes : ℕ) → on ≡ is_due live.checkpoint number bytes → number ≡ first.batches → bytes ≡ store.files.at
      → due_by live.checkpoint (state_of live).batches live.store ≡ on
  due_here on number bytes told n b =
      let count : (state_of live).batches ≡ first.batches = ap (λ (s : State). s.batches) (state_is live.config live.replicas first e) in
      (λ i. due_by live.checkpoint (count i) (is i)) ∙ sym (told ∙ (λ i. is_due live.checkpoint (n i) (b i)))

  pub turned_holds : {T E : Type 0} (result : Result T E) (old new : History) (now : Kept) (due : Bool) → due ≡ true
      → OnOk result ((d : Checkpoint) × IsHeld new first.plan (state_in live.config first) now d [])
      → OnOk result ((c : Checkpoint) (later : List Batch) → Holds old (plan_of live) (state_of live) live.store c later
      → HoldsTurned due new (plan_of live) (state_of live) (Some now) c later)
  turned_holds (Ok done) old new now due on h = λ c later held.
      subst (λ (b : Bool). HoldsTurned b new (plan_of live) (state_of live) (Some now) c later) (sym on)
      (h.0, first_is live first e (λ plan state. IsHeld new plan state now h.0 []) h.1)
  turned_holds (Err why) old new now due on h = tt

  pub turned_is : {T E : Type 0} (result : Result T E) (now : Kept) (due : Bool) → due ≡ true
      → OnOk result (now ≡ turned true (state_in live.config first) store)
      → OnOk result (with_store live (Some now) ≡ with_store live (turned_by due (state_of live) live.store))
  turned_is (Ok done) now due on h =
      let same = state_is live.config live.replicas first e in
      ap (λ (s : Option Kept). with_store live s) (ap (λ (k : Kept). Some k) h ∙ sym (λ i. turned_by (on i) (same i) (is i)))
  turned_is (Err why) now due on h = tt

  pub turned_images : (due : Bool) → due ≡ true → (old new : History) (c : Checkpoint) (later : List Batch)
      → (IsHeld old first.plan (state_in live.config first) store c later
      → LeavesAll old new (ReopensBy true c later first.plan (state_in live.config first)))
      → Holds old (plan_of live) (state_of live) live.store c later → LeavesAll old new (ReopensBy due c later (plan_of live) (state_of live))
  turned_images due on old new c later all h =
      subst (λ (b : Bool). LeavesAll old new (ReopensBy b c later (plan_of live) (state_of live))) (sym on)
      (first_is live first e (λ plan state. LeavesAll old new (ReopensBy true c later plan state))
      (all (of_first live first e (λ plan state. IsHeld old plan state store c later)
      (subst (λ (s : Option Kept). Holds old (plan_of live) (state_of live) s c later) is h))))

  count : (state_of live).batches ≡ first.batches
  count = ap (λ (s : State). s.batches) (state_is live.config live.replicas first e)

  -- behind a batch the store may be rotated
  pub taken_turns : (disk : History) → IfSome live.store (HasTaken disk (state_of live).batches) → MayTurn disk first.batches store
  taken_turns disk h =
      let own : IfSome (Some store) (HasTaken disk (state_of live).batches) =
      subst (λ (s : Option Kept). IfSome s (HasTaken disk (state_of live).batches)) is h in
      record { open_yet = own.open_yet; rests = own.rests; due = inl own.some; counted = sym count ∙ own.counted }

  -- and before the first one where it is due then
  pub stale_turns : (disk : History) → is_stale store ≡ true → IfSome live.store (MayRenew disk (state_of live).batches) → MayTurn disk first.batches store
  stale_turns disk on h =
      let own = own_renew live store is disk h in
      record {
        open_yet = own.open_yet;
        rests = own.rests;
        due = due_of store.files.head.format store.files.at store.files.batches on own.format own.filled;
        counted = sym count ∙ own.counted;
      }

-- ---- where it is not told

module _ (text : List ℕ) (goes_on : Live → Type 0) (old new : Option (List ℕ)) where
  pub untold_tells : (S D : Type 0) (why : Delivery) → IsUntold why S D → AppendsFront old new text → Tells text goes_on old new (None, why)
  untold_tells S D delivery.Told h front = absurd h
  untold_tells S D delivery.NoMemory h front = front
  untold_tells S D delivery.NoWrite h front = front
  untold_tells S D delivery.NoDisk h front = front

-- nothing was given
pub none_given : (now : Option (List ℕ)) (text : List ℕ) → AppendsFront now now text
none_given now text = (0, Appends-nil now)
