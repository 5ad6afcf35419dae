-- A database with a store: what its disk holds of it, what four files reopen to, and when a rotation is due.
use Rattle.std.specs.Prelude.{◌≡◌, ◌⊎◌, ◌≤◌, ◌+◌, ◌%◌, ◌==◌, ◌&&◌, ◌||◌, nat_lt, ℕ, Bool, true, false, if◌then◌else◌}
use Rattle.std.specs.Prelude.{List, [], ◌∷◌, map, length, Option, None, Some, option_map, IfSome}
use Rattle.std.specs.List.{All}
use Rattle.aria_base.specs.declared.calls.Call.{Call}
use Rattle.aria_base.specs.declared.limits.TheConstants.{LONGEST_LINE, MOST_REQUESTS}
use Rattle.batch_core.specs.Steps.{State, Handed, run, step}
use Rattle.disk_model.specs.Histories.{History, MayLeave}
use Rattle.image_text.specs.Exactly.{line_of_call}
use Rattle.image_text.specs.Payloads.{Batch, payload_text}
use Rattle.proc_lang.specs.Catalogs.{Plan, run_of}
use Rattle.slot_images.specs.Images.{Checkpoint, checkpoint_of}
use Rattle.store_files.specs.Stores.{Rests, next_head}
use Rattle.aria_store.specs.Reopens.{Reopens, Found}
use Rattle.aria_store.specs.Stands.{Kept, Stands, new_store, with_batch}
use Rattle.serving.specs.Lives.{next_handed, next_state, plan_of, state_of}
use Rattle.serving.specs.declared.lives.Live.{Live}
use Rattle.input_log.specs.declared.limits.TheConstants.{MOST_LOG}

-- ---- what a store holds, as a state

-- the state that a checkpoint is
abbrev pub state_at : Checkpoint → State
state_at c = record {
  rule = c.head.rule;
  percent = c.head.fallback;
  rows = c.rows;
  waiting = c.held;
  batches = c.head.batches;
  requests = c.head.requests;
}

-- a batch of the log as it was handed in, and a batch as the log has it
abbrev pub handed_in : Batch → Handed
handed_in batch = record { rule = batch.rule; percent = batch.fallback; calls = batch.calls }

abbrev pub batch_of : Handed → Batch
batch_of handed = record { rule = handed.rule; fallback = handed.percent; calls = handed.calls }

-- the state after the batches that stand behind the checkpoint
abbrev pub state_behind : Checkpoint → List Batch → State
state_behind c later = run (run_of c.plan) (state_at c) (map handed_in later)

-- there is no room in a batch for these calls beside what waits
abbrev pub is_crowded : State → Batch → Bool
is_crowded state batch = nat_lt MOST_REQUESTS (length state.waiting + length batch.calls)

-- The place of the first batch that has no room, where each batch before it was run; none where all have room. The first of these
-- batches has that place, and finds this state.
abbrev pub crowded_from : Plan → ℕ → State → List Batch → Option ℕ
crowded_from plan place state [] = None
crowded_from plan place state (batch ∷ later) =
    if is_crowded state batch then Some place else crowded_from plan (place + 1) (step (run_of plan) state (handed_in batch)) later

-- behind a checkpoint
abbrev pub crowded : Checkpoint → List Batch → Option ℕ
crowded c later = crowded_from c.plan 0 (state_at c) later

-- these bytes of the four files are the text of this state under this catalogue, and each batch behind the checkpoint has room
pub record ReopensTo (plan : Plan) (state : State) (images : ℕ → List ℕ) : Type 0 where
  pub c : Checkpoint
  pub later : List Batch
  pub reopens : Reopens images (Found c later)
  pub roomy : crowded c later ≡ None
  pub plan_is : c.plan ≡ plan
  pub state_is : state_behind c later ≡ state

-- they are just this checkpoint with these batches behind it
pub record ReopensAs (c : Checkpoint) (later : List Batch) (plan : Plan) (state : State) (images : ℕ → List ℕ) : Type 0 where
  pub reopens : Reopens images (Found c later)
  pub roomy : crowded c later ≡ None
  pub plan_is : c.plan ≡ plan
  pub state_is : state_behind c later ≡ state

-- the next checkpoint behind this one: that of this state
abbrev pub laid_behind : Checkpoint → State → Checkpoint
laid_behind c state =
    checkpoint_of (next_head c.head state.rule state.percent state.batches state.requests) (c.plan, state.rows, state.waiting)

-- that, or where one is due the next checkpoint of the state with no batches behind it
abbrev pub ReopensBy : Bool → Checkpoint → List Batch → Plan → State → (ℕ → List ℕ) → Type 0
ReopensBy due c later plan state images =
    ReopensAs c later plan state images ⊎ ((due ≡ true) × ReopensAs (laid_behind c state) [] plan state images)

-- This checkpoint with these batches behind it, which all have room, stands on the disk, and is this state under this catalogue.
pub record IsHeld (disk : History) (plan : Plan) (state : State) (store : Kept) (c : Checkpoint) (later : List Batch) : Type 0 where
  pub stands : Stands disk store c later
  pub roomy : crowded c later ≡ None
  pub plan_is : c.plan ≡ plan
  pub state_is : state_behind c later ≡ state

-- where there is a store; without one nothing is held
abbrev pub Holds : History → Plan → State → Option Kept → Checkpoint → List Batch → Type 0
Holds disk plan state None c later = ⊥
Holds disk plan state (Some store) c later = IsHeld disk plan state store c later

-- ---- a database with a store

-- a state with the settings that the store tells
abbrev pub told_by : Option Kept → State → State
told_by None state = state
told_by (Some store) state = record state { rule = store.rule; percent = store.fallback }

-- The state that the database stands for: that of its engines. The settings of its next batch are in no store until it is run.
abbrev pub stored_state : Live → State
stored_state live = told_by live.store (state_of live)

-- The store may take a batch: it is not closed, its disk is at rest, its log is not too long, and it has so many batches.
pub record GoesOn (disk : History) (batches : ℕ) (store : Kept) : Type 0 where
  pub open_yet : store.files.closed ≡ None
  pub rests : Rests disk store.files
  pub format : store.files.head.format ≡ 2
  pub short : store.files.at ≤ MOST_LOG
  pub counted : batches ≡ store.files.head.batches + store.files.batches

-- The store has just taken a batch, and has so many: it may be rotated, and where its log is not too long it may take the next one.
pub record HasTaken (disk : History) (batches : ℕ) (store : Kept) : Type 0 where
  pub open_yet : store.files.closed ≡ None
  pub rests : Rests disk store.files
  pub format : store.files.head.format ≡ 2
  pub some : 1 ≤ store.files.batches
  pub counted : batches ≡ store.files.head.batches + store.files.batches

-- The store may be rotated, and has so many batches: it is not closed, its disk is at rest, and a batch stands in its log or it has
-- format 1.
pub record MayTurn (disk : History) (batches : ℕ) (store : Kept) : Type 0 where
  pub open_yet : store.files.closed ≡ None
  pub rests : Rests disk store.files
  pub due : (1 ≤ store.files.batches) ⊎ (store.files.head.format ≡ 1)
  pub counted : batches ≡ store.files.head.batches + store.files.batches

-- The store was just opened, and has so many batches: it has one of the two formats, and a log that is too long has a batch.
pub record MayRenew (disk : History) (batches : ℕ) (store : Kept) : Type 0 where
  pub open_yet : store.files.closed ≡ None
  pub rests : Rests disk store.files
  pub format : (store.files.head.format ≡ 1) ⊎ (store.files.head.format ≡ 2)
  pub filled : (1 ≤ store.files.batches) ⊎ (store.files.at ≤ MOST_LOG)
  pub counted : batches ≡ store.files.head.batches + store.files.batches

-- where there is a store, it may take a batch
abbrev pub IsLogging : History → Live → Type 0
IsLogging disk live = IfSome live.store (GoesOn disk (state_of live).batches)

-- each call's line has no more bytes than a line of a script
abbrev pub HasLines : Plan → List Call → Type 0
HasLines plan calls = All (λ call. length (line_of_call plan call) ≤ LONGEST_LINE) calls

-- where there is a store, a batch of these calls may be added to it
pub record MayLog (live : Live) (calls : List Call) (disk : History) : Type 0 where
  pub logging : IsLogging disk live
  pub lines : IfSome live.store (λ _. HasLines (plan_of live) calls)

-- ---- what a batch does to the store

-- the batch of these calls as the log gets it
abbrev pub next_batch : Live → List Call → Batch
next_batch live calls = batch_of (next_handed live calls)

-- a store with one batch more
abbrev pub with_logged : Plan → Batch → Kept → Kept
with_logged plan batch store = with_batch store (length (payload_text plan batch)) batch.rule batch.fallback

-- the database with its next batch in the log, not run yet
abbrev pub logged : Live → List Call → Live
logged live calls = record live { store = option_map (with_logged (plan_of live) (next_batch live calls)) live.store }

-- Behind the batch with this number a rotation is due, where the log has so many bytes: each so many batches, if ever, and where the
-- log is too long.
abbrev pub is_due : ℕ → ℕ → ℕ → Bool
is_due checkpoint number bytes = (nat_lt 0 checkpoint && number % checkpoint == 0) || nat_lt MOST_LOG bytes

-- Before the next batch one is due where the store has format 1, and where its log is too long.
abbrev pub is_stale : Kept → Bool
is_stale store = store.files.head.format == 1 || nat_lt MOST_LOG store.files.at

-- where there is a store
abbrev pub stale_by : Option Kept → Bool
stale_by None = false
stale_by (Some store) = is_stale store

abbrev pub due_by : ℕ → ℕ → Option Kept → Bool
due_by checkpoint number None = false
due_by checkpoint number (Some store) = is_due checkpoint number store.files.at

-- a store behind its batch: the next checkpoint of this state with an empty log, where that is due
abbrev pub turned : Bool → State → Kept → Kept
turned true state store = new_store (next_head store.files.head state.rule state.percent state.batches state.requests)
turned false state store = store

abbrev pub turned_by : Bool → State → Option Kept → Option Kept
turned_by due state store = option_map (turned due state) store

-- whether a rotation is due behind the next batch, and the store then
abbrev pub next_due : Live → List Call → Bool
next_due live calls = due_by live.checkpoint (next_state live calls).batches (logged live calls).store

abbrev pub next_store : Live → List Call → Option Kept
next_store live calls = turned_by (next_due live calls) (next_state live calls) (logged live calls).store

-- What the disk holds of a state where a rotation was due: some checkpoint of it with no batches behind. Where it was not, this
-- checkpoint with these batches.
abbrev pub HoldsTurned : Bool → History → Plan → State → Option Kept → Checkpoint → List Batch → Type 0
HoldsTurned true disk plan state store c later = (d : Checkpoint) × Holds disk plan state store d []
HoldsTurned false disk plan state store c later = Holds disk plan state store c later

-- these four files are the checkpoint with its batches from before, or with those of the state after; or, where one is due, the next
-- checkpoint of that state
abbrev pub ReopensOnWay : Bool → Checkpoint → List Batch → List Batch → Plan → State → State → (ℕ → List ℕ) → Type 0
ReopensOnWay due c later more plan before after images = ReopensAs c later plan before images ⊎ ReopensBy due c more plan after images

-- these four files are the text of the state before, or of the one after
abbrev pub ReopensToEither : Plan → State → State → (ℕ → List ℕ) → Type 0
ReopensToEither plan before after images = ReopensTo plan before images ⊎ ReopensTo plan after images

-- every image that a stop now may leave is the text of this state
abbrev pub LeavesState : History → Plan → State → Type 0
LeavesState disk plan state = (images : ℕ → List ℕ) → MayLeave disk disk.now images → ReopensTo plan state images
