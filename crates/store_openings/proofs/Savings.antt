-- What stands in a store behind a checkpoint that was due, and behind an opening.
use Rattle.std.proofs.Common.{◌≡◌, ◌∙◌, sym, ap, subst, refl, ℕ, ◌+◌, ◌%◌, ◌==◌, ◌||◌, nat_lt, Bool, true, false, List, [], Option, Some, None}
use Rattle.aria_store.specs.Reopens.{Damaged, Found, NoStore, Reopened}
use Rattle.aria_store.specs.Stands.{Kept, Stands}
use Rattle.batch_core.specs.Steps.{State}
use Rattle.checkpoint.specs.declared.heads.Head.{Head}
use Rattle.disk_model.specs.Histories.{EachImage, History, MayLeave, current}
use Rattle.disk_model.proofs.Spans.{from_each}
use Rattle.image_text.specs.Payloads.{Batch}
use Rattle.input_log.specs.Layout.{Ends, log_of}
use Rattle.input_log.specs.declared.limits.TheConstants.{MOST_LOG}
use Rattle.proc_lang.specs.Catalogs.{Plan}
use Rattle.serving.specs.Lives.{plan_of, state_of}
use Rattle.serving.specs.Stored.{HoldsTurned, IsHeld, is_stale, state_behind, turned}
use Rattle.serving.specs.declared.lives.Live.{Live}
use Rattle.slot_images.specs.Images.{Checkpoint}
use Rattle.store_files.specs.Stores.{next_head, slot_in}
use Rattle.store_openings.proofs.Readings.{log_low}
use Rattle.store_openings.specs.Openings.{log_in}
use Rattle.store_openings.specs.Runs.{IsWithStore, saved_by}
use Rattle.store_openings.specs.Saved.{HoldsSaved, Saved, end_of, is_full, laid, laid_where, renewed, saved_in}

-- ---- behind a checkpoint that was due

module _ (disk : History) (plan : Plan) (state : State) (saved : Saved) (was : Kept) (head : was.files.head ≡ saved.c.head)
    (bytes : was.files.at ≡ saved.bytes) (under : saved.c.plan ≡ plan) where
  abbrev Next : Kept
  Next = turned true state was

  -- the checkpoint that then stands is known
  laid_is : (d : Checkpoint) → IsHeld disk plan state Next d [] → d ≡ (laid saved state).c
  laid_is d h =
      let known : d.head ≡ next_head saved.c.head state.rule state.percent state.batches state.requests =
      sym h.stands.known.head ∙ ap (λ (x : Head). next_head x state.rule state.percent state.batches state.requests) head in
      λ i. record {
        head = known i;
        plan = (h.plan_is ∙ sym under) i;
        rows = ap (λ (s : State). s.rows) h.state_is i;
        held = ap (λ (s : State). s.waiting) h.state_is i;
      }

  some_turned : (due : Bool) → HoldsTurned due disk plan state (Some (turned due state was)) saved.c saved.later
      → HoldsSaved disk plan state (Some (turned due state was)) (laid_where due saved state)
  some_turned true h = record {
    holds = subst (λ (d : Checkpoint). IsHeld disk plan state Next d []) (laid_is h.0 h.1) h.1;
    bytes = refl;
  }
  some_turned false h = record { holds = h; bytes = bytes }

  -- where one was due it stands, and else what stood there
  pub turned_saved : (due : Bool) (store : Option Kept) → store ≡ Some (turned due state was)
      → HoldsTurned due disk plan state store saved.c saved.later → HoldsSaved disk plan state store (laid_where due saved state)
  turned_saved due store is h =
      subst (λ (s : Option Kept). HoldsSaved disk plan state s (laid_where due saved state)) (sym is)
      (some_turned due (subst (λ (s : Option Kept). HoldsTurned due disk plan state s saved.c saved.later) is h))

-- ---- behind an opening

-- by what the files read as
abbrev pub HoldsFound : History → Plan → State → Option Kept → (ℕ → List ℕ) → Reopened → Type 0
HoldsFound disk plan state store images NoStore = Unit {0}
HoldsFound disk plan state store images (Damaged file at) = Unit {0}
HoldsFound disk plan state store images (Found c later) = HoldsSaved disk plan state store (renewed (saved_in images c later))

-- where the next checkpoint is not due
abbrev pub IfFresh : (ℕ → List ℕ) → Reopened → Type 0 → Type 0
IfFresh images NoStore P = Unit {0}
IfFresh images (Damaged file at) P = Unit {0}
IfFresh images (Found c later) P = is_full (saved_in images c later) ≡ false → P

pub full_is : (store : Kept) (c : Checkpoint) (later : List Batch) → store.files.head ≡ c.head → is_stale store ≡ is_full (saved_by store c later)
full_is store c later head = ap (λ (h : Head). h.format == 1 || nat_lt MOST_LOG store.files.at) head

pub renewed_saved : (disk : History) (plan : Plan) (state : State) (store : Kept) (c : Checkpoint) (later : List Batch) (next : Option Kept)
    → store.files.head ≡ c.head → c.plan ≡ plan → state_behind c later ≡ state → next ≡ Some (turned (is_stale store) state store)
    → HoldsTurned (is_stale store) disk plan state next c later → HoldsSaved disk plan state next (renewed (saved_by store c later))
renewed_saved disk plan state store c later next head under is kept h =
    let saved = saved_by store c later in
    subst (λ (s : State). HoldsSaved disk plan state next (laid_where (is_full saved) saved s)) (sym is)
    (subst (λ (b : Bool). HoldsSaved disk plan state next (laid_where b saved state)) (full_is store c later head)
    (turned_saved disk plan state saved store head refl under (is_stale store) next kept h))

-- the database that goes on has the same catalogue and state
pub saved_on : (disk : History) (checkpoint : ℕ) (live next : Live) (saved : Saved) → IsWithStore disk checkpoint live next
    → HoldsSaved disk (plan_of live) (state_of live) next.store saved → HoldsSaved disk (plan_of next) (state_of next) next.store saved
saved_on disk checkpoint live next saved k h =
    subst (λ (p : Plan). HoldsSaved disk p (state_of next) next.store saved) (sym k.plan)
    (subst (λ (s : State). HoldsSaved disk (plan_of live) s next.store saved) (sym k.state) h)

-- by the bytes of the files
saved_is : (disk : History) (images : ℕ → List ℕ) → MayLeave disk disk.now images → (store : Kept) (c : Checkpoint) (later : List Batch)
    → Stands disk store c later → saved_in images c later ≡ saved_by store c later
saved_is disk images left store c later stands =
    let Log_is : List ℕ → Type 0 = λ image. log_of image ≡ Ends stands.payloads store.files.at in
    let file : 2 + slot_in store.files ≡ log_in c = ap (λ (h : Head). 2 + h.generation % 2) stands.known.head in
    let one : log_of (images (log_in c)) ≡ Ends stands.payloads store.files.at =
    from_each (current disk (log_in c)) Log_is (images (log_in c))
    (subst (λ (n : ℕ). EachImage (current disk n) Log_is) file stands.holds.records) (left (log_in c) (log_low c)) in
    λ i. record { c = c; later = later; bytes = end_of (one i) }

module _ (disk : History) (images : ℕ → List ℕ) (left : MayLeave disk disk.now images) (store : Kept) (c : Checkpoint) (later : List Batch)
    (stands : Stands disk store c later) (found : Reopened) (same : found ≡ Found c later) where
  -- what the files read as stands behind the opening, renewed where that is due
  pub by_files : (new : History) (plan : Plan) (state : State) (kept : Option Kept) → HoldsSaved new plan state kept (renewed (saved_by store c later))
      → HoldsFound new plan state kept images found
  by_files new plan state kept h =
      subst (λ (f : Reopened). HoldsFound new plan state kept images f) (sym same)
      (subst (λ (s : Saved). HoldsSaved new plan state kept (renewed s)) (sym (saved_is disk images left store c later stands)) h)

  -- where it is not due, the store is not stale
  pub fresh_is : IfFresh images found (is_stale store ≡ false)
  fresh_is = subst (λ (f : Reopened). IfFresh images f (is_stale store ≡ false)) (sym same) (λ off.
      full_is store c later stands.known.head ∙ sym (ap is_full (saved_is disk images left store c later stands)) ∙ off)
