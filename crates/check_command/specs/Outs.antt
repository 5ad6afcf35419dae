-- The output of `check`.
use Rattle.std.specs.Prelude.{ℕ, List}
use Rattle.script_course.specs.Courses.{Course, Out, told, whole}
use Rattle.script_course.specs.declared.readings.TheConstants.{MOST_BYTES}
use Rattle.script_text.specs.Lines.{Feed, blank}
use Rattle.check_command.specs.Checks.{Doing, on_line, on_end, start}
use Rattle.check_command.specs.declared.commands.TheConstants.{LONGEST_CHECKED}

-- no byte was read
abbrev pub no_line : Feed
no_line = blank MOST_BYTES LONGEST_CHECKED

-- what is told of an input as far as it goes, and all that is printed of a whole one
abbrev pub told_of : List ℕ → Course Doing
told_of text = told on_line no_line start text

abbrev pub out_of : List ℕ → Out
out_of text = whole on_line on_end no_line start text
