-- A script that is run while it is read: what each line prints, which state follows, and what the end prints.
use Rattle.std.specs.Prelude.{ℕ, Bool, if◌then◌else◌, List, [], ◌∷◌, ◌++◌, Option, Result, Ok, Err}
use Rattle.std.specs.FinMap as fin
use Rattle.aria_base.specs.Orders.{Cells}
use Rattle.aria_base.specs.declared.calls.Call.{Call}
use Rattle.aria_base.specs.declared.keys.Key.{Key}
use Rattle.aria_store.specs.Stands.{Kept}
use Rattle.answer_text.specs.Notices.{kept_text}
use Rattle.batch_core.specs.Steps.{State, Handed, step}
use Rattle.batch_rules.specs.declared.verdicts.Rule.{Rule}
use Rattle.proc_lang.specs.Catalogs.{Plan, run_of}
use Rattle.script_course.specs.Courses.{Course, Goes, Stops, Out, ended, refused_after, status_of}
use Rattle.script_course.specs.declared.statuses.TheConstants.{DONE}
use Rattle.script_course.specs.declared.stops.Stop.{Stop}
use Rattle.script_course.specs.declared.stops.Stop.TheVariants as stop
use Rattle.script_places.specs.Places.{Asked, asked, closing, plan_in}
use Rattle.script_places.specs.declared.deeds.Deed.{Deed}
use Rattle.script_places.specs.declared.deeds.Deed.TheVariants as deed
use Rattle.script_places.specs.declared.places.ScriptPlace.{ScriptPlace}
use Rattle.script_text.specs.Lines.{line_after}
use Rattle.script_text.specs.declared.refusals.RefusalKind.{RefusalKind}
use Rattle.serving.specs.Drains.{drains}
use Rattle.serving.specs.Lives.{batch_text, handed_at, listing}
use Rattle.run_commands.specs.Bases.{counts_of}

-- a script between two lines: its place, the calls of the open batch, the state that its batches left, and whether each answer has a
-- listing behind it
pub record Doing : Type 0 where
  pub place : ScriptPlace
  pub calls : List Call
  pub state : State
  pub each : Bool

-- with its store, and behind how many batches each a checkpoint is laid; what is printed depends on neither
pub record Running : Type 0 where
  pub doing : Doing
  pub store : Option Kept
  pub checkpoint : ℕ

-- a result by what is printed from then on
abbrev pub doing_result : Result Running Stop → Result Doing Stop
doing_result (Ok script) = Ok script.doing
doing_result (Err why) = Err why

-- ---- a line

abbrev pub with_row : Doing → Key → Cells → Doing
with_row d key row = record d { state = record d.state { rows = fin.insert d.state.rows key row } }

abbrev pub with_call : Doing → Call → Doing
with_call d call = record d { calls = d.calls ++ call ∷ [] }

abbrev pub with_settings : Doing → Rule → ℕ → Doing
with_settings d rule percent = record d { state = record d.state { rule = rule; percent = percent } }

abbrev pub without_calls : Doing → Doing
without_calls d = record d { calls = [] }

-- the batch of the open calls
abbrev pub handed_in : Doing → Handed
handed_in d = handed_at d.state d.calls

abbrev pub text_of : Doing → List ℕ
text_of d = batch_text (plan_in d.place.head) d.each d.state (handed_in d)

abbrev pub behind_batch : Doing → Doing
behind_batch d = record d { calls = []; state = step (run_of (plan_in d.place.head)) d.state (handed_in d) }

-- what is asked for is done
abbrev pub done : Doing → Deed → Course Doing
done d deed.Nothing = Goes [] d
done d (deed.Put key row) = Goes [] (with_row d key row)
done d (deed.Call call) = Goes [] (with_call d call)
done d (deed.Set rule percent) = Goes [] (with_settings d rule percent)
done d (deed.Keep number) = Goes (kept_text number) (without_calls d)
done d deed.Run = Goes (text_of d) (behind_batch d)
done d deed.Tell = Goes [] d

abbrev pub done_by : Doing → Asked → Course Doing
done_by d (Ok asked) = done (record d { place = asked.0 }) asked.1
done_by d (Err kind) = Stops (refused_after d.place.lines kind)

abbrev pub on_line : Doing → List ℕ → Course Doing
on_line d line = done_by d (asked d.place (counts_of d.state) line)

-- ---- the end

-- one listing behind all, where not each answer had one
abbrev pub listed : Plan → Bool → State → Out
listed plan each state = record { bytes = (if each then [] else listing plan state); status = DONE }

-- what waits is drained where that is asked for; a batch that is refused has the number of the line behind the last
abbrev pub drained : Bool → Plan → Bool → ℕ → State → Out
drained drain plan each line state = ended (listed plan each) (if drain then drains plan each line state else Goes [] state)

abbrev pub closed_by : Bool → Doing → Result ScriptPlace RefusalKind → Out
closed_by drain d (Ok place) = drained drain (plan_in place.head) d.each (line_after d.place.lines) d.state
closed_by drain d (Err kind) = record { bytes = refused_after d.place.lines kind; status = status_of stop.Refused }

abbrev pub on_end : Bool → Doing → Out
on_end drain d = closed_by drain d (closing d.place)
