-- A store's life from its head on, and one run in memory of the head and the script.
use Rattle.std.specs.Prelude.{◌≡◌, ◌≢◌, ◌≤◌, ◌++◌, ℕ, false, true, List, [], length, Option, Some, option_map}
use Rattle.answer_text.specs.Notices.{at_text}
use Rattle.aria_base.specs.Orders.{Database}
use Rattle.aria_store.specs.Reopens.{Reopened, Reopens}
use Rattle.batch_core.specs.Steps.{State}
use Rattle.command_words.specs.declared.settings.Init.{Init}
use Rattle.command_words.specs.declared.settings.Once.{Once}
use Rattle.command_words.specs.declared.settings.Run.{Run}
use Rattle.disk_model.specs.Histories.{History, MayLeave}
use Rattle.proc_lang.specs.Catalogs.{Plan}
use Rattle.script_course.specs.Courses.{Goes, out_behind, told_whole}
use Rattle.script_course.specs.declared.statuses.TheConstants.{DONE}
use Rattle.script_text.specs.Lines.{scan}
use Rattle.serving.specs.Lives.{no_plan}
use Rattle.serving.specs.Stored.{ReopensTo, state_at}
use Rattle.store_openings.specs.Openings.{opened}
use Rattle.run_commands.specs.Onces.{Doing, on_line}
use Rattle.run_commands.specs.Outs.{is_each, no_line, out_of, start_of}
use Rattle.run_commands.specs.Passes.{turns_whole}
use Rattle.run_commands.specs.Resumes.{held_over_all, out_from, out_over, resumed, start_over}
use Rattle.script_course.specs.declared.readings.TheConstants.{MOST_BYTES}
use Rattle.resume_laws.specs.Resumptions.{AreStopped, answers, answers_of, later_than, run_from}
use Rattle.store_commands.specs.Drafts.{said_by}
use Rattle.store_commands.specs.Inits.{IsMadeOf, first_checkpoint}
use Rattle.store_laws.specs.Texts.{EndsLine, is_script}

-- ---- what is put together

-- Settings of `init`, of `run` and of `once`: the same rule and fallback for the first batch, the same listings, and what waits is
-- drained in both or in neither. Workers, replicas and checkpoints are any.
pub record AreAlike (made : Init) (settings : Run) (whole : Once) : Type 0 where
  pub rules : made.rule ≡ whole.rule
  pub fallbacks : made.fallback ≡ whole.fallback
  pub listings : settings.listing ≡ whole.listing
  pub drains : settings.drain ≡ whole.drain

-- `init` reads the head to its end, as this catalogue and these rows, and `once` reads head and script to their end, as one text
pub record AreRight (whole : Once) (head script : List ℕ) (values : Plan × Database) : Type 0 where
  pub ends : EndsLine head
  pub said : said_by head ≡ Some values
  pub batches : is_script script ≡ true
  pub done : (out_of whole (head ++ script)).status ≡ DONE

-- the state of a new store
abbrev pub new_state : Init → Plan × Database → State
new_state made values = state_at (first_checkpoint made values)

-- the answers of a text that is run in memory, each with the number of its batch
abbrev pub answers_in : Once → List ℕ → List (ℕ × List ℕ)
answers_in whole text = answers (turns_whole (scan no_line text)) (start_of whole)

-- a text that is run in memory is right to its last line, and leaves this
abbrev pub Leaves : Once → List ℕ → Doing → Type 0
Leaves whole text last = (printed : List ℕ) × (told_whole on_line no_line (start_of whole) text ≡ Goes printed last)

-- What a store holds of a state: all but the settings, which are in no store before a batch that is run by them.
pub record HoldsAs (held state : State) : Type 0 where
  pub rows : held.rows ≡ state.rows
  pub waiting : held.waiting ≡ state.waiting
  pub batches : held.batches ≡ state.batches
  pub requests : held.requests ≡ state.requests

-- ---- one run over the store

-- Both end in one state, which the store then holds where nothing is drained, and print the same answer for each batch. What is
-- printed over the store is that it begins behind batch 0, and then all that is printed in memory; its status is that of memory as well.
pub record IsOneRun (made : Init) (settings : Run) (whole : Once) (head script : List ℕ) (values : Plan × Database) : Type 0 where
  pub last : Doing
  pub end : Doing
  pub printed : List ℕ
  pub leaves : Leaves whole (head ++ script) last
  pub runs : run_from (is_each settings.listing) values.0 script (new_state made values) ≡ Goes printed end
  pub state : end.state ≡ last.state
  pub held : HoldsAs (held_over_all false (start_over settings (first_checkpoint made values) []) script) last.state
  pub answered : answers_of (is_each settings.listing) values.0 script (new_state made values) ≡ answers_in whole (head ++ script)
  pub out : out_from settings.drain (start_over settings (first_checkpoint made values) []) script
      ≡ out_behind (at_text 0) (out_of whole (head ++ script))

abbrev pub ScriptIsOneRun : Type 0
ScriptIsOneRun =
    (made : Init) (settings : Run) (whole : Once) → AreAlike made settings whole
    → (head script : List ℕ) (values : Plan × Database) → AreRight whole head script values
    → IsOneRun made settings whole head script values

-- So it is by the files: whatever of them a stop behind that `init` leaves.
abbrev pub FilesAreOneRun : Type 0
FilesAreOneRun =
    (made : Init) (settings : Run) (whole : Once) → AreAlike made settings whole
    → (head script : List ℕ) (values : Plan × Database) → AreRight whole head script values
    → (disk : History) → IsMadeOf made values disk → (images : ℕ → List ℕ) → MayLeave disk disk.now images
    → (found : Reopened) → Reopens images found
    → out_over settings (opened images found) (Some script) ≡ Some (out_behind (at_text 0) (out_of whole (head ++ script)))

-- A head whose catalogue has a table or a procedure, and a script that `run` reads to its end over the store of that head; as one text
-- both have no more bytes than a text may have.
pub record IsRun (made : Init) (settings : Run) (head script : List ℕ) (values : Plan × Database) : Type 0 where
  pub ends : EndsLine head
  pub said : said_by head ≡ Some values
  pub named : values.0 ≢ no_plan
  pub few : length (head ++ script) ≤ MOST_BYTES
  pub done : (out_from settings.drain (start_over settings (first_checkpoint made values) []) script).status ≡ DONE

-- So no more is asked of a script that was run: `once` reads it to its end behind the head.
abbrev pub RunIsRight : Type 0
RunIsRight =
    (made : Init) (settings : Run) (whole : Once) → AreAlike made settings whole
    → (head script : List ℕ) (values : Plan × Database) → IsRun made settings head script values → AreRight whole head script values

-- ---- runs that are stopped

-- The last run ends in the state in which the one in memory ends, and its store then holds it. It prints the answers of just the
-- batches that its store lacks, each as it is printed in memory.
pub record EndsAsOneRun (settings : Run) (whole : Once) (head script : List ℕ) (values : Plan × Database) (second : State) : Type 0 where
  pub last : Doing
  pub end : Doing
  pub printed : List ℕ
  pub leaves : Leaves whole (head ++ script) last
  pub runs : run_from (is_each settings.listing) values.0 script second ≡ Goes printed end
  pub state : end.state ≡ last.state
  pub held : HoldsAs (held_over_all false (resumed (is_each settings.listing) values.0 second) script) last.state
  pub answered : answers_of (is_each settings.listing) values.0 script second
      ≡ later_than second.batches (answers_in whole (head ++ script))

abbrev pub StoppedRunsAreOneRun : Type 0
StoppedRunsAreOneRun =
    (made : Init) (settings : Run) (whole : Once) → AreAlike made settings whole
    → (head script : List ℕ) (values : Plan × Database) → AreRight whole head script values
    → (between : List State) (second : State)
    → AreStopped (is_each settings.listing) values.0 script (new_state made values) between second
    → EndsAsOneRun settings whole head script values second

-- ---- by the files again

-- Whatever files a stop leaves that reopen to a state, `run` opens them and prints what its script comes to over that state.
abbrev pub LeftRunsOn : Type 0
LeftRunsOn =
    (plan : Plan) (state : State) (images : ℕ → List ℕ) → ReopensTo plan state images → (found : Reopened) → Reopens images found
    → (settings : Run) (left : Option (List ℕ))
    → out_over settings (opened images found) left
    ≡ option_map (out_from settings.drain (resumed (is_each settings.listing) plan state)) left
