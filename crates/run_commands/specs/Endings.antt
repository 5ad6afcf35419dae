-- The end of a script over a store.
use Rattle.std.specs.Prelude.{◌≡◌, ◌++◌, ℕ, Bool, if◌then◌else◌, List, [], ◌∷◌, length, replicate}
use Rattle.batch_core.specs.Steps.{State}
use Rattle.disk_model.specs.Histories.{History}
use Rattle.proc_lang.specs.Catalogs.{Plan}
use Rattle.serving.specs.Lives.{plan_of}
use Rattle.serving.specs.Stored.{stored_state, told_by}
use Rattle.serving.specs.declared.lives.Live.{Live}
use Rattle.store_openings.specs.Saved.{Saved}
use Rattle.run_commands.specs.Bases.{checkpoint_in, state_in, store_in}
use Rattle.run_commands.specs.Keeps.{HoldsState}
use Rattle.run_commands.specs.Onces.{Doing}
use Rattle.run_commands.specs.Passes.{Drain, Listed, Turn}
use Rattle.run_commands.specs.declared.bases.Base.{Base}
use Rattle.script_places.specs.Places.{plan_in}

-- a script behind the end of its input: its catalogue, whether each answer has a listing, the number of its last line, its
-- state, and no open call
pub record IsEnd (plan : Plan) (each : Bool) (line : ℕ) (state : State) (d : Doing) : Type 0 where
  pub plan_is : plan_in d.place.head ≡ plan
  pub each_is : d.each ≡ each
  pub line_is : d.place.lines ≡ line
  pub state_is : d.state ≡ state
  pub calls_none : d.calls ≡ []

-- As many batches without new calls as requests wait are enough.
abbrev pub drains_of : State → List Turn
drains_of state = replicate (length state.waiting) Drain

-- what a script does behind the end of its input
abbrev pub closing_turns : Bool → State → List Turn
closing_turns drain state = replicate (if drain then length state.waiting else 0) Drain ++ Listed ∷ []

-- what a disk holds of a database that runs, by its checkpoints
abbrev pub HoldsLive : ℕ → Saved → History → Live → Type 0
HoldsLive first saved disk live = HoldsState first saved live.checkpoint disk (plan_of live) (stored_state live) live.store

-- the state that a store holds of a database, and what a disk holds of it under a catalogue
abbrev pub held_in : Base → State
held_in b = told_by (store_in b) (state_in b)

abbrev pub HoldsBase : ℕ → Saved → History → Plan → Base → Type 0
HoldsBase first saved disk plan b = HoldsState first saved (checkpoint_in b) disk plan (held_in b) (store_in b)
