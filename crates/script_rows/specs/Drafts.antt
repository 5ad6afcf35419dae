-- A database that is read from a script of rows: what each line does, what is true between two lines, and what a text comes to.
use Rattle.std.specs.Prelude.{◌≡◌, ℕ, List, [], Ok, Err}
use Rattle.std.specs.FinMap as fin
use Rattle.aria_base.specs.Orders.{Database}
use Rattle.aria_base.specs.Schemas.{IsConsistent}
use Rattle.aria_base.specs.declared.limits.TheConstants.{LONGEST_LINE}
use Rattle.script_course.specs.Courses.{Course, Goes, Stops, refused_after, told, told_whole}
use Rattle.script_course.specs.declared.readings.TheConstants.{MOST_BYTES}
use Rattle.script_places.specs.Places.{Asked, asked}
use Rattle.script_places.specs.Places as places
use Rattle.script_places.specs.declared.deeds.Deed.{Deed}
use Rattle.script_places.specs.declared.deeds.Deed.TheVariants as deed
use Rattle.script_places.specs.declared.heads.ScriptCatalog.{ScriptCatalog}
use Rattle.script_places.specs.declared.heads.ScriptCatalog.TheVariants as head
use Rattle.script_places.specs.declared.places.Counts.{Counts}
use Rattle.script_places.specs.declared.places.Mode.{Mode}
use Rattle.script_text.specs.Lines.{Feed, blank}
use Rattle.script_rows.specs.declared.drafts.Draft.{Draft}

-- ---- a line

-- no batch was run, and none will be
abbrev pub no_counts : Counts
no_counts = record { batches = 0; requests = 0; waiting = 0 }

-- before the first line there is no row
abbrev pub start : Mode → Draft
start mode = record { place = places.start mode; tables = fin.empty }

-- a row is put; nothing else changes the rows
abbrev pub done : Draft → Deed → Draft
done d (deed.Put key row) = record d { tables = fin.insert d.tables key row }
done d deed.Nothing = d
done d (deed.Call call) = d
done d (deed.Set rule percent) = d
done d (deed.Keep number) = d
done d deed.Run = d
done d deed.Tell = d

-- nothing is printed but the line of a refusal
abbrev pub done_by : Draft → Asked → Course Draft
done_by d (Ok asked) = Goes [] (done (record d { place = asked.0 }) asked.1)
done_by d (Err kind) = Stops (refused_after d.place.lines kind)

abbrev pub on_line : Draft → List ℕ → Course Draft
on_line d line = done_by d (asked d.place no_counts line)

-- ---- what is true of it

-- there is no row without a catalogue, and each fits it
abbrev pub AreUnder : ScriptCatalog → Database → Type 0
AreUnder (head.Ready plan) rows = IsConsistent plan.tables rows
AreUnder head.Unnamed rows = rows ≡ fin.empty
AreUnder (head.Text text) rows = rows ≡ fin.empty

abbrev pub IsFitting : Draft → Type 0
IsFitting d = AreUnder d.place.head d.tables

-- ---- a text

-- no byte was read
abbrev pub no_line : Feed
no_line = blank MOST_BYTES LONGEST_LINE

-- what is told of a text as far as it goes
abbrev pub told_of : Mode → List ℕ → Course Draft
told_of mode text = told on_line no_line (start mode) text

-- and what a whole text comes to before its end
abbrev pub read_of : Mode → List ℕ → Course Draft
read_of mode text = told_whole on_line no_line (start mode) text
