-- What is true of every input.
use Rattle.std.specs.Prelude.{ℕ, List, length}
use Rattle.proc_lang.specs.Catalogs.{Plan}
use Rattle.script_course.specs.Courses.{Course, Goes, Stops, told_whole}
use Rattle.serial_check.specs.Crowds.{IsOneOf}
use Rattle.serial_check.specs.Reports.{finding}
use Rattle.check_command.specs.Checks.{Doing, on_line, start}
use Rattle.check_command.specs.Outs.{no_line}

-- what is found behind a course tells of no batch but one with a line that ends it, by whatever catalogue
abbrev pub FindsEnded : Course Doing → Type 0
FindsEnded (Goes bytes d) = (plan : Plan) → IsOneOf (length d.ends) (finding plan d.report d.rows d.script)
FindsEnded (Stops bytes) = Unit {0}

-- so it is behind each whole input
abbrev pub EachIsEnded : List ℕ → Type 0
EachIsEnded text = FindsEnded (told_whole on_line no_line start text)
