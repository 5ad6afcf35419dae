-- What the requests that wait come to without new calls.
use Rattle.std.specs.Prelude.{ℕ, suc, zero, Bool, ◌==◌, nat_lt, if◌then◌else◌, [], length, Result, Ok, Err}
use Rattle.answer_text.specs.Refusals.{refusal_text}
use Rattle.aria_base.specs.declared.limits.TheConstants.{GREATEST_NUMBER}
use Rattle.batch_core.specs.Steps.{State, Handed, step}
use Rattle.proc_lang.specs.Catalogs.{Plan, run_of}
use Rattle.script_course.specs.Courses.{Course, Goes, Stops, behind}
use Rattle.script_course.specs.declared.stops.Stop.{Stop}
use Rattle.script_text.specs.declared.refusals.RefusalKind.TheVariants.{Numbers}
use Rattle.serving.specs.declared.lives.Live.{Live}
use Rattle.serving.specs.Lives.{batch_text, handed_at, state_of}

-- a batch without new calls, by the settings that stand
abbrev pub no_calls : State → Handed
no_calls state = handed_at state []

-- that batch, printed; where the numbers of batches are used up it is refused, as this line
abbrev pub one_drained : Plan → Bool → ℕ → State → Course State
one_drained plan each line state =
    if nat_lt state.batches GREATEST_NUMBER
    then Goes (batch_text plan each state (no_calls state)) (step (run_of plan) state (no_calls state))
    else Stops (refusal_text (record { line = line; kind = Numbers }))

abbrev pub goes_on : (State → Course State) → Course State → Course State
goes_on next (Goes bytes state) = behind bytes (next state)
goes_on next (Stops bytes) = Stops bytes

-- at most so many of them, one after the other, until nothing waits
abbrev pub drained : Plan → Bool → ℕ → ℕ → State → Course State
drained plan each line zero state = Goes [] state
drained plan each line (suc n) state =
    if length state.waiting == 0 then Goes [] state
    else goes_on (drained plan each line n) (one_drained plan each line state)

-- As many as requests wait are enough: each batch finishes one at least.
abbrev pub drains : Plan → Bool → ℕ → State → Course State
drains plan each line state = drained plan each line (length state.waiting) state

-- a result by the state that goes on
abbrev pub state_result : Result Live Stop → Result State Stop
state_result (Ok live) = Ok (state_of live)
state_result (Err why) = Err why
