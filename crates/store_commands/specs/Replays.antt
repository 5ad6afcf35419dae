-- The command `replay`: what it prints, by what the four files read as.
use Rattle.std.specs.Prelude.{ℕ, ◌+◌, if◌then◌else◌, Bool, List, [], ◌∷◌, Option, Result, Err, ⊤}
use Rattle.aria_store.specs.Reopens.{Damaged, Found, NoStore, Reopened}
use Rattle.batch_core.specs.Steps.{State, step}
use Rattle.command_words.specs.declared.settings.Replay.{Replay}
use Rattle.image_text.specs.Payloads.{Batch}
use Rattle.input_log.specs.Layout.{log_of}
use Rattle.proc_lang.specs.Catalogs.{Plan, run_of}
use Rattle.run_commands.specs.Onces.{listed}
use Rattle.run_commands.specs.Outs.{is_each}
use Rattle.run_commands.specs.Resumes.{damaged_out, none_out}
use Rattle.script_course.specs.Causes.{IsCause}
use Rattle.script_course.specs.Courses.{Out, out_behind}
use Rattle.script_course.specs.Served.{Finishes}
use Rattle.script_course.specs.declared.stops.Stop.{Stop}
use Rattle.script_course.specs.declared.stops.Stop.TheVariants as stop
use Rattle.serving.specs.Lives.{batch_text, plan_of, state_of}
use Rattle.serving.specs.Stored.{handed_in, is_crowded, state_at}
use Rattle.serving.specs.declared.lives.Live.{Live}
use Rattle.store_openings.specs.Openings.{log_in, offset_in}
use Rattle.store_commands.specs.declared.steps.Halt.{Halt}
use Rattle.store_commands.specs.declared.steps.Halt.TheVariants as halt

-- ---- refusals

-- the record at a place of a log, whose file has these bytes, is damaged
abbrev pub crowded_out : ℕ → List ℕ → ℕ → Out
crowded_out log bytes place = damaged_out log (offset_in (log_of bytes) place)

-- ---- the batches behind a checkpoint

-- Each batch is run by its own settings, and printed, up to the first that has no room: what that one comes to goes by its place. Behind
-- the last one the rows are listed, where not each answer had its listing. The first of these batches has that place, and finds this
-- state.
abbrev pub replayed : Plan → Bool → (ℕ → Out) → ℕ → State → List Batch → Out
replayed plan each crowd place state [] = listed plan each state
replayed plan each crowd place state (batch ∷ later) =
    if is_crowded state batch then crowd place
    else out_behind (batch_text plan each state (handed_in batch))
    (replayed plan each crowd (place + 1) (step (run_of plan) state (handed_in batch)) later)

-- ---- the command

-- all that is printed, and the status, where the files have these bytes and read as that
abbrev pub out_of : Replay → (ℕ → List ℕ) → Reopened → Out
out_of settings images NoStore = none_out
out_of settings images (Damaged file at) = damaged_out file at
out_of settings images (Found c later) =
    replayed c.plan (is_each settings.listing) (crowded_out (log_in c) (images (log_in c))) 0 (state_at c) later

-- ---- steps

-- a stop that prints no line of its own, and not by the source
abbrev pub IsCut : Stop → Type 0
IsCut stop.Refused = ⊥
IsCut stop.NoRead = ⊥
IsCut stop.NoMemory = ⊤
IsCut stop.NoWrite = ⊤
IsCut stop.NoDisk = ⊤

-- to print this from now on is to print all of a replay from the start on, whatever a record without room comes to
abbrev pub LeadsTo : Live → List Batch → Option (List ℕ) → ((ℕ → Out) → Out) → Option (List ℕ) → Type 0
LeadsTo start all old rest now =
    (crowd : ℕ → Out) (new : Option (List ℕ)) (result : Result ℕ Stop) → Finishes (rest crowd) now new result
    → Finishes (replayed (plan_of start) start.each crowd 0 (state_of start) all) old new result

-- all batches had room: the listing is left
pub record IsAnswered (start : Live) (all : List Batch) (old new : Option (List ℕ)) (live : Live) : Type 0 where
  pub leads : LeadsTo start all old (λ crowd. listed (plan_of live) live.each (state_of live)) new

-- why not all batches were answered
abbrev pub IsHalt : Live → List Batch → Option (List ℕ) → Option (List ℕ) → Halt → Type 0
IsHalt start all old new (halt.Stopped why) =
    IsCut why × ((crowd : ℕ → Out) → Finishes (replayed (plan_of start) start.each crowd 0 (state_of start) all) old new (Err why))
IsHalt start all old new (halt.Crowded place) = LeadsTo start all old (λ crowd. crowd place) new

-- a stop has its cause; that a record has no room needs none
abbrev pub IsHaltCause : Type 0 → Halt → Type 0
IsHaltCause sink (halt.Stopped why) = IsCause why sink ⊥
IsHaltCause sink (halt.Crowded place) = ⊤
