-- The head of a new store as a text: what it says.
use Rattle.std.specs.Prelude.{ℕ, List, Option, Some, None, Result, Ok, Err}
use Rattle.aria_base.specs.Orders.{Database}
use Rattle.proc_lang.specs.Catalogs.{Plan}
use Rattle.script_course.specs.Courses.{Course, Goes, Stops}
use Rattle.script_places.specs.Places.{closing, plan_in}
use Rattle.script_places.specs.declared.places.Mode.TheVariants as mode
use Rattle.script_places.specs.declared.places.ScriptPlace.{ScriptPlace}
use Rattle.script_rows.specs.Drafts as drafts
use Rattle.script_rows.specs.declared.drafts.Draft.{Draft}
use Rattle.script_text.specs.declared.refusals.RefusalKind.{RefusalKind}

-- before the first line
abbrev pub start : Draft
start = drafts.start mode.Init

-- what is told of a text as far as it goes
abbrev pub told_of : List ℕ → Course Draft
told_of text = drafts.told_of mode.Init text

-- and what a whole text comes to before its end
abbrev pub read_of : List ℕ → Course Draft
read_of text = drafts.read_of mode.Init text

-- the catalogue and the rows, unless the end of the text is refused
abbrev pub values_by : Draft → Result ScriptPlace RefusalKind → Option (Plan × Database)
values_by d (Ok place) = Some (plan_in place.head, d.tables)
values_by d (Err kind) = None

abbrev pub values_of : Course Draft → Option (Plan × Database)
values_of (Goes bytes d) = values_by d (closing d.place)
values_of (Stops bytes) = None

-- what a text says, unless it is refused
abbrev pub said_by : List ℕ → Option (Plan × Database)
said_by text = values_of (read_of text)
