-- The command `run`: what it prints, and what it leaves of the disk, by what the four files read as before.
use Rattle.std.specs.Prelude.{◌≡◌, ◌≢◌, ◌⊎◌, ℕ, Bool, List, [], ◌∷◌, Option, Some, option_map, Result, Err}
use Rattle.std.specs.Io.KnownBytes.{Appends}
use Rattle.answer_text.specs.Notices.{at_text, damaged_text, refused_text}
use Rattle.answer_text.specs.declared.notices.NotDone.TheVariants as refused
use Rattle.aria_store.specs.Reopens.{Reopened, Reopens, NoStore, Damaged, Found}
use Rattle.batch_core.specs.Steps.{State}
use Rattle.command_words.specs.declared.settings.Run.{Run}
use Rattle.disk_model.specs.Histories.{History, LeavesAll, MayLeave}
use Rattle.image_text.specs.Payloads.{Batch}
use Rattle.proc_lang.specs.Catalogs.{Plan}
use Rattle.script_course.specs.Courses.{Course, Out, behind, out_behind, told, whole}
use Rattle.script_course.specs.Served.{Completes, Finishes, IsToldOf}
use Rattle.script_course.specs.declared.statuses.TheConstants.{STORE_REFUSED}
use Rattle.script_course.specs.declared.stops.Stop.{Stop}
use Rattle.script_course.specs.declared.stops.Stop.TheVariants as stop
use Rattle.script_places.specs.Places.{start_with}
use Rattle.script_places.specs.declared.places.Mode.TheVariants as mode
use Rattle.serving.specs.Lives.{plan_of, state_of}
use Rattle.serving.specs.Stored.{state_behind}
use Rattle.serving.specs.declared.lives.Live.{Live}
use Rattle.slot_images.specs.Images.{Checkpoint}
use Rattle.store_openings.specs.Saved.{Saved, renewed, saved_in}
use Rattle.store_openings.specs.declared.refusals.NotOpened.{NotOpened}
use Rattle.store_openings.specs.declared.refusals.NotOpened.TheVariants as not_opened
use Rattle.run_commands.specs.Keeps.{LeavesLaid, ReopensAsGiven, ReopensToPassed}
use Rattle.run_commands.specs.Onces.{Doing, Running, on_end, on_line}
use Rattle.run_commands.specs.Outs.{is_each, no_line, text_turns}
use Rattle.run_commands.specs.Passes.{At, PassesTurns, Turn, held_behind}
use Rattle.run_commands.specs.Saves.{IsLeft, saved_behind}

-- ---- a store that cannot be opened

abbrev pub none_out : Out
none_out = record { bytes = refused_text refused.NoStore; status = STORE_REFUSED }

abbrev pub damaged_out : ℕ → ℕ → Out
damaged_out file at = record { bytes = damaged_text file at; status = STORE_REFUSED }

-- its line is given, where it is the disk or memory nothing
abbrev pub RefusesStore : NotOpened → Option (List ℕ) → Option (List ℕ) → Result ℕ Stop → Type 0
RefusesStore not_opened.NoStore old new result = Finishes none_out old new result
RefusesStore (not_opened.Damaged file at) old new result = Finishes (damaged_out file at) old new result
RefusesStore not_opened.NoDisk old new result = (result ≡ Err stop.NoDisk) × (new ≡ old)
RefusesStore not_opened.NoMemory old new result = (result ≡ Err stop.NoMemory) × (new ≡ old)

-- ---- what is printed

-- a script over the database of a store, before its first line
abbrev pub resumed : Bool → Plan → State → Doing
resumed each plan state = record { place = start_with mode.Run plan; calls = []; state = state; each = each }

-- over this one
abbrev pub over : Live → Doing
over live = resumed live.each (plan_of live) (state_of live)

-- with its store
abbrev pub running_over : Live → Running
running_over live = record { doing = over live; store = live.store; checkpoint = live.checkpoint }

abbrev pub start_over : Run → Checkpoint → List Batch → Doing
start_over settings c later = resumed (is_each settings.listing) c.plan (state_behind c later)

-- what is told of a text as far as it goes: first of all, how many batches were run before
abbrev pub told_from : Doing → List ℕ → Course Doing
told_from d text = behind (at_text d.state.batches) (told on_line no_line d text)

-- all that is printed of a whole text
abbrev pub out_from : Bool → Doing → List ℕ → Out
out_from drain d text = out_behind (at_text d.state.batches) (whole on_line (on_end drain) no_line d text)

-- Where no store can be opened, the text is not read.
abbrev pub out_over : Run → Reopened → Option (List ℕ) → Option Out
out_over settings NoStore left = Some none_out
out_over settings (Damaged file at) left = Some (damaged_out file at)
out_over settings (Found c later) left = option_map (out_from settings.drain (start_over settings c later)) left

abbrev pub IsToldOver : Run → Reopened → Option (List ℕ) → Option (List ℕ) → Option (List ℕ) → Option (List ℕ) → Type 0
IsToldOver settings NoStore left rest old new = ⊥
IsToldOver settings (Damaged file at) left rest old new = ⊥
IsToldOver settings (Found c later) left rest old new = IsToldOf (told_from (start_over settings c later)) left rest old new

abbrev pub CompletesOver : Run → Reopened → Option (List ℕ) → Option (List ℕ) → Option (List ℕ) → Option (List ℕ) → Result ℕ Stop → Type 0
CompletesOver settings NoStore left rest old new result = Finishes none_out old new result × (result ≢ Err stop.NoRead)
CompletesOver settings (Damaged file at) left rest old new result =
    Finishes (damaged_out file at) old new result × (result ≢ Err stop.NoRead)
CompletesOver settings (Found c later) left rest old new result =
    Completes (told_from (start_over settings c later)) (out_from settings.drain (start_over settings c later)) left rest old new result

-- ---- what the disk holds meanwhile

-- all that a script does over a store
abbrev pub turns_over : Bool → Doing → List ℕ → List Turn
turns_over drain d text = At ∷ text_turns drain d text

-- the states that its store holds in turn, and what was given then
abbrev pub PassesOver : Bool → Doing → List ℕ → State → List ℕ → Type 0
PassesOver drain d text t given = PassesTurns (turns_over drain d text) d d.state t given

-- the state that its store holds at the end
abbrev pub held_over_all : Bool → Doing → List ℕ → State
held_over_all drain d text = held_behind (turns_over drain d text) d d.state

-- A stop at any moment leaves one of these states, or files that one before could have left. A stop now leaves one with what was
-- given; only where nothing was given, it may also be files from before.
pub record Outlives (passes : State → List ℕ → Type 0) (plan : Plan) (old new : History)
    (given_old given_new : Option (List ℕ)) : Type 0 where
  pub images : LeavesAll old new (λ images. MayLeave old old.now images ⊎ ReopensToPassed passes plan images)
  pub exit : (images : ℕ → List ℕ) → MayLeave new new.now images
      → ReopensAsGiven passes plan given_old given_new images ⊎ (MayLeave old old.now images × Appends given_old given_new [])

-- Where no store can be opened, every image is one from before.
abbrev pub LeavesOver : Run → Reopened → List ℕ → History → History → Option (List ℕ) → Option (List ℕ) → Type 0
LeavesOver settings NoStore text old new given_old given_new = LeavesAll old new (MayLeave old old.now)
LeavesOver settings (Damaged file at) text old new given_old given_new = LeavesAll old new (MayLeave old old.now)
LeavesOver settings (Found c later) text old new given_old given_new =
    Outlives (PassesOver settings.drain (start_over settings c later) text) c.plan old new given_old given_new

-- what stands before the script's first line: the next checkpoint, where the store takes no batch as it is
abbrev pub saved_first : (ℕ → List ℕ) → Checkpoint → List Batch → Saved
saved_first images c later = renewed (saved_in images c later)

-- what stands behind all that it does
abbrev pub saved_over_all : Run → (ℕ → List ℕ) → Checkpoint → List Batch → List ℕ → Saved
saved_over_all settings images c later text =
    saved_behind settings.checkpoint (turns_over settings.drain (start_over settings c later) text) (start_over settings c later)
    (saved_first images c later)

-- A script that was read to its end or to a refused line: exactly the batches that were answered. The checkpoint that stands is the one
-- that stood there, or the last one that was due, and just the batches behind it are in its log.
abbrev pub HoldsOver : Run → (ℕ → List ℕ) → Reopened → List ℕ → History → Type 0
HoldsOver settings images NoStore text disk = Unit {0}
HoldsOver settings images (Damaged file at) text disk = Unit {0}
HoldsOver settings images (Found c later) text disk =
    LeavesLaid (state_behind c later).batches (saved_over_all settings images c later text) settings.checkpoint disk c.plan
    (held_over_all settings.drain (start_over settings c later) text)

-- Just what stands behind some first ones of all that the script does; or that, with the batch at work in the log.
abbrev pub IsLeftOver : Run → (ℕ → List ℕ) → Checkpoint → List Batch → List ℕ → (ℕ → List ℕ) → Type 0
IsLeftOver settings files c later text images =
    IsLeft settings.checkpoint (turns_over settings.drain (start_over settings c later) text) (start_over settings c later) (saved_first files c later) images

-- A stop at any moment leaves files that one before could have left, or just what was found there, or what is left over. A stop now leaves
-- the last, where anything was given: so the next checkpoint, where the store took no batch as it was, is laid before that.
pub record LeavesJust (settings : Run) (files : ℕ → List ℕ) (c : Checkpoint) (later : List Batch) (text : List ℕ) (old new : History)
    (given_old given_new : Option (List ℕ)) : Type 0 where
  pub images : LeavesAll old new (λ images. MayLeave old old.now images ⊎ Reopens images (Found c later) ⊎ IsLeftOver settings files c later text images)
  pub exit : (images : ℕ → List ℕ) → MayLeave new new.now images
      → IsLeftOver settings files c later text images ⊎ Appends given_old given_new []

abbrev pub StandsOver : Run → (ℕ → List ℕ) → Reopened → List ℕ → History → History → Option (List ℕ) → Option (List ℕ) → Type 0
StandsOver settings files NoStore text old new given_old given_new = Unit {0}
StandsOver settings files (Damaged file at) text old new given_old given_new = Unit {0}
StandsOver settings files (Found c later) text old new given_old given_new = LeavesJust settings files c later text old new given_old given_new
