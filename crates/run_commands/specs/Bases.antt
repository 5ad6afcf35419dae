-- A database before its first batch, and from then on, as a state.
use Rattle.std.specs.Prelude.{◌≡◌, ◌≤◌, ℕ, Bool, length, Option, None, Result, Ok, Err}
use Rattle.std.specs.FinMap as fin
use Rattle.aria_base.specs.Orders.{Cells}
use Rattle.aria_base.specs.Schemas.{IsConsistent}
use Rattle.aria_store.specs.Stands.{Kept}
use Rattle.aria_base.specs.declared.keys.Key.{Key}
use Rattle.aria_base.specs.declared.limits.TheConstants.{MOST_PERCENT, MOST_WORKERS}
use Rattle.batch_core.specs.Steps.{State}
use Rattle.batch_rules.specs.declared.verdicts.Rule.{Rule}
use Rattle.dep_rules.specs.declared.configs.Config.{Config}
use Rattle.proc_lang.specs.Catalogs.{Plan}
use Rattle.script_course.specs.declared.stops.Stop.{Stop}
use Rattle.script_places.specs.Places.{plan_in}
use Rattle.script_places.specs.declared.heads.ScriptCatalog.{ScriptCatalog}
use Rattle.script_places.specs.declared.places.Counts.{Counts}
use Rattle.serving.specs.Lives.{IsRunnable, blank, plan_of, state_of}
use Rattle.serving.specs.declared.lives.Live.{Live}
use Rattle.store_openings.specs.Runs.{settings_with}
use Rattle.run_commands.specs.declared.bases.Base.{Base}
use Rattle.run_commands.specs.declared.bases.Base.TheVariants as base

abbrev pub state_in : Base → State
state_in (base.Rows tables config) = record (blank config) { rows = tables }
state_in (base.Runs live) = state_of live

-- its store; before the first batch there is none
abbrev pub store_in : Base → Option Kept
store_in (base.Rows tables config) = None
store_in (base.Runs live) = live.store

-- behind how many batches each it lays a checkpoint
abbrev pub checkpoint_in : Base → ℕ
checkpoint_in (base.Rows tables config) = 0
checkpoint_in (base.Runs live) = live.checkpoint

-- what decides about the end of a batch
abbrev pub counts_of : State → Counts
counts_of state = record { batches = state.batches; requests = state.requests; waiting = length state.waiting }

-- ---- what is done to it

abbrev pub put_in : Base → Key → Cells → Base
put_in (base.Rows tables config) key row = base.Rows (fin.insert tables key row) config
put_in (base.Runs live) key row = base.Runs live

abbrev pub set_in : Base → Rule → ℕ → Base
set_in (base.Rows tables config) rule percent = base.Rows tables (settings_with config rule percent)
set_in (base.Runs live) rule percent = base.Runs (record live { config = settings_with live.config rule percent })

-- a result by the state that goes on
abbrev pub base_result : Result Base Stop → Result State Stop
base_result (Ok b) = Ok (state_in b)
base_result (Err why) = Err why

-- ---- what is true of it

-- the settings are within their bounds
pub record IsSettled (config : Config) : Type 0 where
  pub percent : config.fallback ≤ MOST_PERCENT
  pub workers : (1 ≤ config.workers) × (config.workers ≤ MOST_WORKERS)

abbrev pub IsBounded : Base → Type 0
IsBounded (base.Rows tables config) = IsSettled config
IsBounded (base.Runs live) = IsRunnable live

-- what the rows hold is of this catalogue
abbrev pub IsUnder : Plan → Base → Type 0
IsUnder plan (base.Rows tables config) = IsConsistent plan.tables tables
IsUnder plan (base.Runs live) = plan_of live ≡ plan

-- no batch was run
abbrev pub IsHead : Base → Type 0
IsHead (base.Rows tables config) = Unit {0}
IsHead (base.Runs live) = ⊥

-- there is no row yet
abbrev pub IsBlank : Base → Type 0
IsBlank (base.Rows tables config) = tables ≡ fin.empty
IsBlank (base.Runs live) = ⊥

-- it runs by the catalogue of the head
abbrev pub IsNamed : ScriptCatalog → Base → Type 0
IsNamed h (base.Rows tables config) = Unit {0}
IsNamed h (base.Runs live) = plan_of live ≡ plan_in h

-- the listings are those that were asked for
abbrev pub IsListed : Bool → Base → Type 0
IsListed each (base.Rows tables config) = Unit {0}
IsListed each (base.Runs live) = live.each ≡ each

-- the same database, ready for batches
pub record IsBegun (h : ScriptCatalog) (b : Base) (each : Bool) (live : Live) : Type 0 where
  pub plan : plan_of live ≡ plan_in h
  pub state : state_of live ≡ state_in b
  pub listed : live.each ≡ each
  pub store : live.store ≡ store_in b
  pub checkpoint : live.checkpoint ≡ checkpoint_in b
  pub runnable : IsRunnable live
