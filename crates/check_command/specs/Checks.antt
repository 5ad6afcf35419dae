-- A script with the report behind it, read line by line, and what the end prints.
use Rattle.std.specs.Prelude.{ℕ, ◌+◌, List, [], ◌∷◌, ◌++◌, length, Result, Ok, Err}
use Rattle.std.specs.FinMap as fin
use Rattle.aria_base.specs.Orders.{Cells, Database}
use Rattle.aria_base.specs.declared.calls.Call.{Call}
use Rattle.aria_base.specs.declared.keys.Key.{Key}
use Rattle.answer_text.specs.Refusals.{refusal_text}
use Rattle.script_course.specs.Courses.{Course, Goes, Stops, Out, refused_after, status_of}
use Rattle.script_course.specs.declared.stops.Stop.TheVariants as stop
use Rattle.script_places.specs.Places.{Asked, asked, closing, plan_in}
use Rattle.script_places.specs.Places as places
use Rattle.script_places.specs.declared.deeds.Deed.{Deed}
use Rattle.script_places.specs.declared.deeds.Deed.TheVariants as deed
use Rattle.script_places.specs.declared.places.Counts.{Counts}
use Rattle.script_places.specs.declared.places.Mode.TheVariants as mode
use Rattle.script_places.specs.declared.places.ScriptPlace.{ScriptPlace}
use Rattle.script_text.specs.declared.refusals.RefusalKind.{RefusalKind}
use Rattle.script_text.specs.declared.refusals.RefusalKind.TheVariants as kind
use Rattle.serial_check.specs.Reports.{finding}
use Rattle.serial_check.specs.declared.findings.Finding.{Finding}
use Rattle.serial_check.specs.declared.findings.Finding.TheVariants as found
use Rattle.check_command.specs.Texts.{holds_text, fails_text, line_of}
use Rattle.script_course.specs.declared.statuses.TheConstants as status

-- Between two lines: the place, the rows, the calls of the open batch, and the batches so far, each with its number. Of those that are to
-- be run, the line that ends each, and how many calls they have; then the lines of the report.
pub record Doing : Type 0 where
  pub place : ScriptPlace
  pub rows : Database
  pub calls : List Call
  pub script : List (ℕ × List Call)
  pub ends : List ℕ
  pub requests : ℕ
  pub report : List (List ℕ)

abbrev pub start : Doing
start = record { place = places.start mode.Check; rows = fin.empty; calls = []; script = []; ends = []; requests = 0; report = [] }

-- nothing is known of what waits, so that the room of a list is looked at when the report is
abbrev pub counts_of : Doing → Counts
counts_of d = record { batches = length d.ends; requests = d.requests; waiting = 0 }

-- ---- a line

abbrev pub with_row : Doing → Key → Cells → Doing
with_row d key row = record d { rows = fin.insert d.rows key row }

abbrev pub with_call : Doing → Call → Doing
with_call d call = record d { calls = d.calls ++ call ∷ [] }

-- a batch that was run before
abbrev pub with_kept : Doing → ℕ → Doing
with_kept d number = record d { calls = []; script = d.script ++ (number, []) ∷ [] }

-- the batch of the open calls is to be run, as the next one; this line ends it
abbrev pub with_run : Doing → Doing
with_run d = record d {
  calls = [];
  script = d.script ++ (length d.ends + 1, d.calls) ∷ [];
  ends = d.ends ++ d.place.lines ∷ [];
  requests = d.requests + length d.calls;
}

abbrev pub with_told : Doing → List ℕ → Doing
with_told d line = record d { report = d.report ++ line ∷ [] }

-- settings change nothing
abbrev pub done : Doing → List ℕ → Deed → Course Doing
done d line deed.Nothing = Goes [] d
done d line (deed.Put key row) = Goes [] (with_row d key row)
done d line (deed.Call call) = Goes [] (with_call d call)
done d line (deed.Set rule percent) = Goes [] d
done d line (deed.Keep number) = Goes [] (with_kept d number)
done d line deed.Run = Goes [] (with_run d)
done d line deed.Tell = Goes [] (with_told d line)

abbrev pub done_by : Doing → List ℕ → Asked → Course Doing
done_by d line (Ok asked) = done (record d { place = asked.0 }) line asked.1
done_by d line (Err kind) = Stops (refused_after d.place.lines kind)

abbrev pub on_line : Doing → List ℕ → Course Doing
on_line d line = done_by d line (asked d.place (counts_of d) line)

-- ---- the end

-- a batch that is too large is refused as the line that ends it
abbrev pub out_of_finding : List ℕ → Finding → Out
out_of_finding ends found.Holds = record { bytes = holds_text; status = status.DONE }
out_of_finding ends (found.Fails line wanted found) = record { bytes = fails_text line wanted found; status = status.FAILS }
out_of_finding ends (found.Crowded number) =
    record { bytes = refusal_text (record { line = line_of ends number; kind = kind.Batch }); status = status_of stop.Refused }

abbrev pub judged : Doing → Out
judged d = out_of_finding d.ends (finding (plan_in d.place.head) d.report d.rows d.script)

abbrev pub closed_by : Doing → Result ScriptPlace RefusalKind → Out
closed_by d (Ok place) = judged (record d { place = place })
closed_by d (Err kind) = record { bytes = refused_after d.place.lines kind; status = status_of stop.Refused }

abbrev pub on_end : Doing → Out
on_end d = closed_by d (closing d.place)
