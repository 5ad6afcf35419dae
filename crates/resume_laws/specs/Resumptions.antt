-- A script that is run over a store, stopped, and run again.
use Rattle.std.specs.Prelude.{◌≡◌, ◌==◌, ℕ, nat_lt, Bool, false, if◌then◌else◌, List, [], ◌∷◌, filter}
use Rattle.batch_core.specs.Steps.{State}
use Rattle.proc_lang.specs.Catalogs.{Plan}
use Rattle.script_course.specs.Courses.{Course, Goes, Stops, told_whole}
use Rattle.script_text.specs.Lines.{scan}
use Rattle.run_commands.specs.Onces.{Doing, on_line}
use Rattle.run_commands.specs.Outs.{no_line}
use Rattle.run_commands.specs.Passes.{Turn, on_turn, turns_whole}
use Rattle.run_commands.specs.Resumes.{PassesOver, resumed}

-- ---- answers

-- the answers of these turns, each with the number of its batch: a turn that runs a batch prints its answer, and no other changes the
-- count
abbrev pub answers_by : Doing → (Doing → List (ℕ × List ℕ)) → Course Doing → List (ℕ × List ℕ)
answers_by d rest (Stops bytes) = []
answers_by d rest (Goes bytes next) = if next.state.batches == d.state.batches then rest next else (next.state.batches, bytes) ∷ rest next

abbrev pub answers : List Turn → Doing → List (ℕ × List ℕ)
answers [] d = []
answers (turn ∷ turns) d = answers_by d (answers turns) (on_turn d turn)

-- those of a text over this state
abbrev pub answers_of : Bool → Plan → List ℕ → State → List (ℕ × List ℕ)
answers_of each plan text state = answers (turns_whole (scan no_line text)) (resumed each plan state)

-- those of batches behind this number
abbrev pub later_than : ℕ → List (ℕ × List ℕ) → List (ℕ × List ℕ)
later_than number answered = filter (λ a. nat_lt number a.0) answered

-- ---- runs that are stopped

-- what a text comes to over this state
abbrev pub run_from : Bool → Plan → List ℕ → State → Course Doing
run_from each plan text state = told_whole on_line no_line (resumed each plan state) text

-- a run over the first state may be stopped so that its store holds the second one
pub record MayStop (each : Bool) (plan : Plan) (text : List ℕ) (first second : State) : Type 0 where
  pub given : List ℕ
  pub passes : PassesOver false (resumed each plan first) text second given

-- Runs of one text, each over what the one before left: through these states, to the last one.
abbrev pub AreStopped : Bool → Plan → List ℕ → State → List State → State → Type 0
AreStopped each plan text first [] last = last ≡ first
AreStopped each plan text first (next ∷ between) last = MayStop each plan text first next × AreStopped each plan text next between last

-- ---- the law

-- A run over this state ends as that run did: the same state, and just the answers of the batches that the state lacks, byte by byte.
pub record EndsAlike (each : Bool) (plan : Plan) (text : List ℕ) (first second : State) (last : Doing) : Type 0 where
  pub printed : List ℕ
  pub end : Doing
  pub runs : run_from each plan text second ≡ Goes printed end
  pub state : end.state ≡ last.state
  pub answered : answers_of each plan text second ≡ later_than second.batches (answers_of each plan text first)

-- A text that is right to its end over a state ends alike after any number of runs that were stopped anywhere.
abbrev pub EveryStopResumes : Type 0
EveryStopResumes =
    (each : Bool) (plan : Plan) (text : List ℕ) (first : State) (printed : List ℕ) (last : Doing)
    → run_from each plan text first ≡ Goes printed last
    → (between : List State) (second : State) → AreStopped each plan text first between second → EndsAlike each plan text first second last
