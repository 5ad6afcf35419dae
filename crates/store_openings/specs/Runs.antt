-- The steps by which a store is opened.
use Rattle.std.specs.Prelude.{◌≡◌, ◌⊎◌, ℕ, ◌+◌, IsSome, List, length, map, true, None, Some, IfSome, ⊤}
use Rattle.aria_base.specs.Faults.{Rose}
use Rattle.aria_store.specs.Stands.{Kept}
use Rattle.batch_core.specs.Steps.{State, step, run}
use Rattle.batch_rules.specs.declared.verdicts.Rule.{Rule}
use Rattle.dep_rules.specs.declared.configs.Config.{Config}
use Rattle.disk_model.specs.Histories.{History, MayLeave, current}
use Rattle.image_text.specs.Payloads.{Batch}
use Rattle.input_log.specs.Layout.{log_of}
use Rattle.proc_lang.specs.Catalogs.{Plan, run_of}
use Rattle.serving.specs.Lives.{IsRunnable, plan_of, state_of}
use Rattle.serving.specs.Stored.{IsLogging, ReopensBy, crowded, crowded_from, handed_in, state_behind, stored_state, told_by}
use Rattle.serving.specs.declared.lives.Live.{Live}
use Rattle.slot_images.specs.Images.{Checkpoint}
use Rattle.store_files.specs.Stores.{Rests}
use Rattle.store_openings.specs.Openings.{log_in, offset_in}
use Rattle.store_openings.specs.Saved.{Saved}
use Rattle.store_openings.specs.declared.engines.RunSettings.{RunSettings}
use Rattle.store_openings.specs.declared.refusals.NotOpened.{NotOpened}
use Rattle.store_openings.specs.declared.refusals.NotOpened.TheVariants as refusal
use Rattle.store_openings.specs.declared.steps.Halt.{Halt}
use Rattle.store_openings.specs.declared.steps.Halt.TheVariants as halt

-- these settings with this rule and this percentage
abbrev pub settings_with : Config → Rule → ℕ → Config
settings_with config rule percent = record config { rule = rule; fallback = percent }

-- ---- batches, run one after the other

-- how a database is run, which no batch changes
pub record IsRunAs (before after : Live) : Type 0 where
  pub store : after.store ≡ before.store
  pub each : after.each ≡ before.each
  pub checkpoint : after.checkpoint ≡ before.checkpoint
  pub count : length after.replicas ≡ length before.replicas
  pub workers : after.config.workers ≡ before.config.workers

-- the database behind a batch that was run by its own settings
pub record IsStepped (before : Live) (batch : Batch) (after : Live) : Type 0 where
  pub plan : plan_of after ≡ plan_of before
  pub state : state_of after ≡ step (run_of (plan_of before)) (state_of before) (handed_in batch)
  pub alike : IsRunAs before after
  pub runnable : IsRunnable after

-- behind these batches, which all had room
pub record IsRerun (before : Live) (later : List Batch) (after : Live) : Type 0 where
  pub roomy : crowded_from (plan_of before) 0 (state_of before) later ≡ None
  pub plan : plan_of after ≡ plan_of before
  pub state : state_of after ≡ run (run_of (plan_of before)) (state_of before) (map handed_in later)
  pub alike : IsRunAs before after
  pub runnable : IsRunnable after

-- why they were not all run: there was no memory, or the batch at that place is the first that has no room
abbrev pub IsHalt : Plan → State → List Batch → Halt → Type 0
IsHalt plan state later halt.NoMemory = ⊤
IsHalt plan state later (halt.Crowded place) = crowded_from plan 0 state later ≡ Some place

-- ---- the database of what was found

-- it is that of the checkpoint and the batches behind it, which all had room, and is run in this way
pub record IsFoundAs (engines : RunSettings) (c : Checkpoint) (later : List Batch) (live : Live) : Type 0 where
  pub roomy : crowded c later ≡ None
  pub plan : plan_of live ≡ c.plan
  pub state : state_of live ≡ state_behind c later
  pub each : live.each ≡ engines.each
  pub count : length live.replicas ≡ engines.replicas
  pub workers : live.config.workers ≡ engines.workers
  pub runnable : IsRunnable live

-- What a look at a log for the offset of a record tells: that of the record at that place, in that file.
abbrev pub IsLook : History → History → ℕ → ℕ → NotOpened → Type 0
IsLook old new log place refusal.NoStore = ⊥
IsLook old new log place (refusal.Damaged file at) = (file ≡ log) × IfSome (current old log) (λ f. at ≡ offset_in (log_of f.seen) place)
IsLook old new log place refusal.NoDisk = Rose old.faults new.faults
IsLook old new log place refusal.NoMemory = ⊤

-- the record of the first batch that has no room
abbrev pub IsCrowdAt : History → Checkpoint → List Batch → ℕ → ℕ → Type 0
IsCrowdAt disk c later file at =
    (place : ℕ) × (crowded c later ≡ Some place) × (file ≡ log_in c)
    × IfSome (current disk (log_in c)) (λ f. at ≡ offset_in (log_of f.seen) place)

abbrev pub IsNotRun : History → History → Checkpoint → List Batch → NotOpened → Type 0
IsNotRun old new c later refusal.NoStore = ⊥
IsNotRun old new c later (refusal.Damaged file at) = IsCrowdAt old c later file at
IsNotRun old new c later refusal.NoDisk = Rose old.faults new.faults
IsNotRun old new c later refusal.NoMemory = ⊤

-- ---- its store

-- The store is that of a state: it is not closed and at rest, has one of the two formats and so many batches, and tells the settings;
-- without batches its log is empty.
pub record IsStoreOf (disk : History) (store : Kept) (state : State) : Type 0 where
  pub open_yet : store.files.closed ≡ None
  pub rests : Rests disk store.files
  pub format : (store.files.head.format ≡ 1) ⊎ (store.files.head.format ≡ 2)
  pub counted : state.batches ≡ store.files.head.batches + store.files.batches
  pub empty : store.files.batches ≡ 0 → store.files.at ≡ 0
  pub settings : told_by (Some store) state ≡ state

-- what is known of a store that was attached
abbrev pub saved_by : Kept → Checkpoint → List Batch → Saved
saved_by store c later = record { c = c; later = later; bytes = store.files.at }

-- the same database with a store, which may take a batch and holds its state
pub record IsWithStore (disk : History) (checkpoint : ℕ) (before after : Live) : Type 0 where
  pub plan : plan_of after ≡ plan_of before
  pub state : state_of after ≡ state_of before
  pub config : after.config ≡ before.config
  pub each : after.each ≡ before.each
  pub count : length after.replicas ≡ length before.replicas
  pub checkpoint_is : after.checkpoint ≡ checkpoint
  pub runnable : IsRunnable after
  pub logging : IsLogging disk after
  pub stored : IsSome after.store
  pub settings : stored_state after ≡ state_of after

abbrev pub IsNotKept : History → History → Kept → NotOpened → Type 0
IsNotKept old new store refusal.NoStore = ⊥
IsNotKept old new store (refusal.Damaged file at) = ⊥
IsNotKept old new store refusal.NoDisk = Rose old.faults new.faults
IsNotKept old new store refusal.NoMemory = ⊤

-- ---- both

-- what was found, with its store
pub record IsOpenedFrom (disk : History) (engines : RunSettings) (c : Checkpoint) (later : List Batch) (live : Live) : Type 0 where
  pub found : IsFoundAs engines c later live
  pub checkpoint : live.checkpoint ≡ engines.checkpoint
  pub logging : IsLogging disk live
  pub stored : IsSome live.store
  pub settings : stored_state live ≡ state_of live

-- these four files are just that, all batches having room, or the next checkpoint behind it
abbrev pub ReopensRun : Checkpoint → List Batch → (ℕ → List ℕ) → Type 0
ReopensRun c later images = (crowded c later ≡ None) × ReopensBy true c later c.plan (state_behind c later) images

abbrev pub LeftOrRun : History → Checkpoint → List Batch → (ℕ → List ℕ) → Type 0
LeftOrRun old c later images = MayLeave old old.now images ⊎ ReopensRun c later images

abbrev pub IsNotFound : History → History → Kept → Checkpoint → List Batch → NotOpened → Type 0
IsNotFound old new store c later refusal.NoStore = ⊥
IsNotFound old new store c later (refusal.Damaged file at) = IsCrowdAt old c later file at
IsNotFound old new store c later refusal.NoDisk = Rose old.faults new.faults
IsNotFound old new store c later refusal.NoMemory = ⊤
