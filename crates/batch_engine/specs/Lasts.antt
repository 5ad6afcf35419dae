-- What the last batch has marked.
use Rattle.std.specs.Prelude.{Option}
use Rattle.std.specs.Option.{option_map}
use Rattle.batch_engine.specs.Marks.{Marks}
use Rattle.batch_engine.specs.declared.marks.Marked.{Marked}

abbrev pub marks_of : Marked → Marks
marks_of marked = record { numbered = marked.numbered; closed = marked.closed }

abbrev pub marks_in : Option Marked → Option Marks
marks_in last = option_map marks_of last
