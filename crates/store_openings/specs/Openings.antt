-- What a store comes to when it is opened: the batches behind its checkpoint are run, and one that has no room is damage.
use Rattle.std.specs.Prelude.{◌≡◌, ℕ, ◌+◌, ◌%◌, ◌<◌, ◌≤◌, true, List, [], ◌∷◌, length, Option, None, Some, ⊤}
use Rattle.std.specs.List.{All, slice_get}
use Rattle.std.specs.Option.{IsSomeAnd}
use Rattle.aria_base.specs.declared.limits.TheConstants.{MOST_PERCENT}
use Rattle.aria_store.specs.Records.{IsWithin}
use Rattle.aria_store.specs.Reopens.{Reopened, NoStore, Damaged, Found}
use Rattle.disk_model.specs.Histories.{History, MayLeave, LeavesAll, current}
use Rattle.image_text.specs.Payloads.{Batch}
use Rattle.input_log.specs.Layout.{Log, Ends, Breaks, log_of}
use Rattle.input_log.specs.declared.logs.Payload.{Payload}
use Rattle.proc_lang.specs.Catalogs.{Plan, takes}
use Rattle.serving.specs.Lives.{plan_of, state_of}
use Rattle.serving.specs.Stored.{ReopensBy, crowded, state_behind}
use Rattle.serving.specs.declared.lives.Live.{Live}
use Rattle.slot_images.specs.Images.{Checkpoint}
use Rattle.store_openings.specs.declared.refusals.NotOpened.{NotOpened}
use Rattle.store_openings.specs.declared.refusals.NotOpened.TheVariants as refusal

-- the disk tells its four files, and a read of each gives these bytes
abbrev pub ReadsAs : History → (ℕ → List ℕ) → Type 0
ReadsAs disk images = (file : ℕ) → file < 4 → IsSomeAnd (current disk file) (λ f. f.seen ≡ images file)

-- ---- the batches behind a checkpoint

-- A batch may be run behind so many batches and requests, where it has room: its calls are of this catalogue, and no number passes the
-- greatest.
pub record MayFollow (plan : Plan) (batches requests : ℕ) (batch : Batch) : Type 0 where
  pub fit : All (λ call. takes plan call ≡ true) batch.calls
  pub fallback : batch.fallback ≤ MOST_PERCENT
  pub within : IsWithin batches requests (length batch.calls)

-- each of these may, one behind the other
abbrev pub AreRunnable : Plan → ℕ → ℕ → List Batch → Type 0
AreRunnable plan batches requests [] = ⊤
AreRunnable plan batches requests (batch ∷ later) =
    MayFollow plan batches requests batch × AreRunnable plan (batches + 1) (requests + length batch.calls) later

-- ---- its log

-- the file of a checkpoint's log
abbrev pub log_in : Checkpoint → ℕ
log_in c = 2 + c.head.generation % 2

abbrev pub offset_or : Option Payload → ℕ
offset_or None = 0
offset_or (Some payload) = payload.at

-- the offset of the record at that place
abbrev pub offset_at : List Payload → ℕ → ℕ
offset_at payloads place = offset_or (slice_get payloads place)

-- in a log; one that breaks has no records, and is damaged where it breaks
abbrev pub offset_in : Log → ℕ → ℕ
offset_in (Ends payloads end) place = offset_at payloads place
offset_in (Breaks at) place = at

-- ---- what is opened

-- where that batch has no room, its record is damaged
abbrev pub opened_at : (ℕ → List ℕ) → Checkpoint → List Batch → Option ℕ → Reopened
opened_at images c later None = Found c later
opened_at images c later (Some place) = Damaged (log_in c) (offset_in (log_of (images (log_in c))) place)

-- what four files with these bytes are opened as, where they read as that
abbrev pub opened : (ℕ → List ℕ) → Reopened → Reopened
opened images NoStore = NoStore
opened images (Damaged file at) = Damaged file at
opened images (Found c later) = opened_at images c later (crowded c later)

-- the database is what was opened
abbrev pub IsOpenedAs : Reopened → Live → Type 0
IsOpenedAs NoStore live = ⊥
IsOpenedAs (Damaged file at) live = ⊥
IsOpenedAs (Found c later) live = (plan_of live ≡ c.plan) × (state_of live ≡ state_behind c later)

-- these four files are just what was opened, or the next checkpoint behind it
abbrev pub ReopensToOpened : Reopened → (ℕ → List ℕ) → Type 0
ReopensToOpened NoStore images = ⊥
ReopensToOpened (Damaged file at) images = ⊥
ReopensToOpened (Found c later) images = ReopensBy true c later c.plan (state_behind c later) images

-- ---- refusals

-- no store and damage are told exactly of those
abbrev pub IsRefusalOf : Reopened → NotOpened → Type 0
IsRefusalOf found refusal.NoStore = found ≡ NoStore
IsRefusalOf found (refusal.Damaged file at) = found ≡ Damaged file at
IsRefusalOf found refusal.NoDisk = ⊤
IsRefusalOf found refusal.NoMemory = ⊤

-- where these are told, nothing was written: every image at every moment is one from before
abbrev pub LeavesUnwritten : History → History → NotOpened → Type 0
LeavesUnwritten old new refusal.NoStore = LeavesAll old new (MayLeave old old.now)
LeavesUnwritten old new (refusal.Damaged file at) = LeavesAll old new (MayLeave old old.now)
LeavesUnwritten old new refusal.NoDisk = ⊤
LeavesUnwritten old new refusal.NoMemory = ⊤

-- a fault of the disk is told only where there was one
abbrev pub IsFaultOf : Type 0 → NotOpened → Type 0
IsFaultOf rose refusal.NoStore = ⊤
IsFaultOf rose (refusal.Damaged file at) = ⊤
IsFaultOf rose refusal.NoDisk = rose
IsFaultOf rose refusal.NoMemory = ⊤
