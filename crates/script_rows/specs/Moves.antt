-- How a line moves a state that prints nothing while it is read.
use Rattle.std.specs.Prelude.{◌≡◌, [], Result, Ok, Err}
use Rattle.answer_text.specs.Refusals.{refusal_text}
use Rattle.script_course.specs.Courses.{Course, Goes, Stops}
use Rattle.script_text.specs.declared.refusals.LinesRefused.{LinesRefused}
use Rattle.script_text.specs.declared.refusals.LinesRefused.TheVariants.{Memory, Line}

-- a course goes on with this state and prints nothing, or the refusal is what it prints; out of memory says nothing
abbrev pub Moves : {R : Type 0} → Course R → Result R LinesRefused → Type 0
Moves course (Ok next) = course ≡ Goes [] next
Moves course (Err Memory) = Unit {0}
Moves course (Err (Line refusal)) = course ≡ Stops (refusal_text refusal)
