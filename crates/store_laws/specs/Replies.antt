-- What `replay` prints of a store beside what `run` printed, answer by answer.
use Rattle.std.specs.Prelude.{◌≡◌, ◌⊎◌, ℕ, ◌+◌, Bool, List, [], ◌∷◌, ◌++◌, None}
use Rattle.aria_store.specs.Reopens.{Found, Reopened, Reopens}
use Rattle.batch_core.specs.Steps.{State, step}
use Rattle.command_words.specs.declared.settings.Replay.{Replay}
use Rattle.command_words.specs.declared.settings.Run.{Run}
use Rattle.disk_model.specs.Histories.{History, MayLeave}
use Rattle.image_text.specs.Payloads.{Batch}
use Rattle.proc_lang.specs.Catalogs.{Plan, run_of}
use Rattle.script_course.specs.Courses.{Goes, out_behind}
use Rattle.script_places.specs.Places.{plan_in}
use Rattle.serving.specs.Lives.{batch_text}
use Rattle.serving.specs.Stored.{batch_of, crowded, handed_in, state_at, state_behind}
use Rattle.slot_images.specs.Images.{Checkpoint}
use Rattle.run_commands.specs.Onces.{Doing, listed, text_of}
use Rattle.run_commands.specs.Onces as onces
use Rattle.run_commands.specs.Outs.{is_each}
use Rattle.run_commands.specs.Passes.{Turn, on_turn, over}
use Rattle.run_commands.specs.Resumes.{HoldsOver, IsLeftOver, held_over_all, saved_first, saved_over_all, start_over, turns_over}
use Rattle.run_commands.specs.Saves.{saved_behind}
use Rattle.store_openings.specs.Saved.{Saved}
use Rattle.resume_laws.specs.Resumptions.{answers, later_than}
use Rattle.store_commands.specs.Replays.{out_of}
use Rattle.store_laws.specs.OneRuns.{HoldsAs}

-- ---- answers of a log

-- the answers of batches behind a state, each with the number of its batch
abbrev pub replies : Plan → Bool → State → List Batch → List (ℕ × List ℕ)
replies plan each state [] = []
replies plan each state (batch ∷ later) =
    (state.batches + 1, batch_text plan each state (handed_in batch)) ∷ replies plan each (step (run_of plan) state (handed_in batch)) later

-- of the batches behind a checkpoint
abbrev pub replies_behind : Bool → Checkpoint → List Batch → List (ℕ × List ℕ)
replies_behind each c later = replies c.plan each (state_at c) later

-- as one text
abbrev pub joined : List (ℕ × List ℕ) → List ℕ
joined [] = []
joined (answer ∷ answered) = answer.1 ++ joined answered

-- What `replay` prints is the answers of the batches behind the checkpoint, one after the other, and then the listing, where not each
-- answer had one.
abbrev pub ReplayAnswers : Type 0
ReplayAnswers =
    (settings : Replay) (images : ℕ → List ℕ) (c : Checkpoint) (later : List Batch) → crowded c later ≡ None
    → out_of settings images (Found c later)
    ≡ out_behind (joined (replies_behind (is_each settings.listing) c later)) (listed c.plan (is_each settings.listing) (state_behind c later))

-- ---- and those of a run

-- A script stands over a store that has these batches behind this checkpoint, but for settings that no batch followed.
pub record StandsOver (c : Checkpoint) (before : List Batch) (d : Doing) : Type 0 where
  pub plan_is : plan_in d.place.head ≡ c.plan
  pub holds : HoldsAs (state_behind c before) d.state

-- The answer of a batch that stands behind others is what `run` prints where that batch ends in its script, over the store as it was
-- before that batch.
abbrev pub RunWouldPrint : Type 0
RunWouldPrint =
    (c : Checkpoint) (before : List Batch) (d : Doing) → StandsOver c before d
    → replies_behind d.each c (before ++ batch_of (onces.handed_in d) ∷ [])
    ≡ replies_behind d.each c before ++ (d.state.batches + 1, text_of d) ∷ []

-- the answers that a run prints, those of drained batches included
abbrev pub run_answers : Run → Checkpoint → List Batch → List ℕ → List (ℕ × List ℕ)
run_answers settings c later text =
    answers (turns_over settings.drain (start_over settings c later) text) (start_over settings c later)

-- what stands behind these turns of a run
abbrev pub saved_by_turns : Run → (ℕ → List ℕ) → Checkpoint → List Batch → List Turn → Saved
saved_by_turns settings images c later front =
    saved_behind settings.checkpoint front (start_over settings c later) (saved_first images c later)

-- Behind any first turns of a run, all of them or fewer, the batches behind the checkpoint that then stands have, byte for byte, the
-- answers that they had before the run, and those that these turns printed.
abbrev pub RunIsReplayed : Type 0
RunIsReplayed =
    (settings : Run) (images : ℕ → List ℕ) (c : Checkpoint) (later : List Batch) (text : List ℕ) (front rest : List Turn)
    → turns_over settings.drain (start_over settings c later) text ≡ front ++ rest
    → replies_behind (is_each settings.listing) (saved_by_turns settings images c later front).c (saved_by_turns settings images c later front).later
    ≡ later_than (saved_by_turns settings images c later front).c.head.batches
    (replies_behind (is_each settings.listing) c later ++ answers front (start_over settings c later))

-- ---- by the files

-- So it is by the files. Whatever a stop leaves behind a run that was read to its end or to a refused line, `replay` prints of it just
-- those answers, and then the listing of what the run left.
abbrev pub ReplayPrintsRun : Type 0
ReplayPrintsRun =
    (settings : Run) (again : Replay) → again.listing ≡ settings.listing
    → (images : ℕ → List ℕ) (c : Checkpoint) (later : List Batch) (text : List ℕ) (disk : History)
    → HoldsOver settings images (Found c later) text disk
    → (left : ℕ → List ℕ) → MayLeave disk disk.now left → (found : Reopened) → Reopens left found
    → out_of again left found
    ≡ out_behind (joined (later_than (saved_over_all settings images c later text).c.head.batches
    (replies_behind (is_each settings.listing) c later ++ run_answers settings c later text)))
    (listed c.plan (is_each settings.listing) (held_over_all settings.drain (start_over settings c later) text))

-- ---- a run that was stopped

-- what `replay` prints: these answers, and then the listing of this state
abbrev pub Prints : Replay → Run → (ℕ → List ℕ) → Reopened → Plan → List (ℕ × List ℕ) → State → Type 0
Prints again settings images found plan answered state =
    out_of again images found ≡ out_behind (joined answered) (listed plan (is_each settings.listing) state)

-- the answers from before and those that these turns printed, as far as they are behind the checkpoint that then stands
abbrev pub answers_behind : Run → (ℕ → List ℕ) → Checkpoint → List Batch → List Turn → List (ℕ × List ℕ)
answers_behind settings files c later front =
    later_than (saved_by_turns settings files c later front).c.head.batches
    (replies_behind (is_each settings.listing) c later ++ answers front (start_over settings c later))

-- Between two turns `replay` prints just these. Where a batch is at work, it prints the answer of that one as well, which the run was about
-- to print, or had printed in part.
pub record PrintsStopped (settings : Run) (again : Replay) (files : ℕ → List ℕ) (c : Checkpoint) (later : List Batch) (text : List ℕ)
    (images : ℕ → List ℕ) (found : Reopened) : Type 0 where
  pub front : List Turn
  pub rest : List Turn
  pub are : turns_over settings.drain (start_over settings c later) text ≡ front ++ rest
  pub state : State
  pub prints : Prints again settings images found c.plan (answers_behind settings files c later front) state
      ⊎ ((here next : Doing) × (turn : Turn) × (more : List Turn) × (printed answer : List ℕ) × (rest ≡ turn ∷ more)
      × (over on_turn front (start_over settings c later) ≡ Goes printed here) × (on_turn here turn ≡ Goes answer next)
      × Prints again settings images found c.plan
      (answers_behind settings files c later front ++ (next.state.batches, answer) ∷ []) state)

-- So every answer can be had: of a batch before the stop it was printed by the run, and until a checkpoint stands behind it by `replay` too;
-- and of the batch at work by `replay`.
abbrev pub StopIsReplayed : Type 0
StopIsReplayed =
    (settings : Run) (again : Replay) → again.listing ≡ settings.listing
    → (files : ℕ → List ℕ) (c : Checkpoint) (later : List Batch) (text : List ℕ) (images : ℕ → List ℕ)
    → IsLeftOver settings files c later text images → (found : Reopened) → Reopens images found
    → PrintsStopped settings again files c later text images found
