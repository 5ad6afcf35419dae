-- The command `audit`: what the end of its input prints, and with that the output of an input.
use Rattle.std.specs.Prelude.{ℕ, List, Result, Ok, Err}
use Rattle.script_course.specs.Courses.{Course, Out, ended, refused_after, status_of}
use Rattle.script_course.specs.declared.stops.Stop.TheVariants as stop
use Rattle.script_places.specs.Places.{closing}
use Rattle.script_places.specs.declared.places.Mode.TheVariants as mode
use Rattle.script_places.specs.declared.places.ScriptPlace.{ScriptPlace}
use Rattle.script_rows.specs.Drafts as drafts
use Rattle.script_rows.specs.declared.drafts.Draft.{Draft}
use Rattle.script_text.specs.declared.refusals.RefusalKind.{RefusalKind}
use Rattle.tpcc_audit.specs.Conditions.{audited}
use Rattle.tpcc_audit.specs.declared.findings.Audit.{Audit}
use Rattle.audit_command.specs.Findings as findings

-- ---- the end

abbrev pub finding_out : Audit → Out
finding_out found = record { bytes = findings.finding_text found; status = findings.status_of found }

-- the finding on the rows, unless the end of the input is refused
abbrev pub closed_by : Draft → Result ScriptPlace RefusalKind → Out
closed_by d (Ok place) = finding_out (audited d.tables)
closed_by d (Err kind) = record { bytes = refused_after d.place.lines kind; status = status_of stop.Refused }

abbrev pub on_end : Draft → Out
on_end d = closed_by d (closing d.place)

-- ---- an input

-- what is told of a text as far as it goes, and all that is printed of a whole text
abbrev pub told_of : List ℕ → Course Draft
told_of text = drafts.told_of mode.Audit text

abbrev pub out_of : List ℕ → Out
out_of text = ended on_end (drafts.read_of mode.Audit text)
