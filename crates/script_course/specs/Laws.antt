-- What a command comes to that reads and then ends.
use Rattle.std.specs.Prelude.{◌≢◌, ℕ, List, Option, Result, Ok, Err}
use Rattle.script_course.specs.Courses.{Course, Out, ended}
use Rattle.script_course.specs.Served.{Comes, Finishes, Completes}
use Rattle.script_course.specs.declared.stops.Stop.{Stop}
use Rattle.script_course.specs.declared.stops.Stop.TheVariants as stop

pub record EndsOf (R : Type 0) : Type 0 where
  -- the reading came to the end of the input, and what the end prints follows
  pub on : (on_end : R → Out) (told whole : List ℕ → Course R) (left rest old mid new : Option (List ℕ)) (r : R) (result : Result ℕ Stop)
      → Comes told whole left rest old mid (Ok r) → result ≢ Err stop.NoRead → Finishes (on_end r) mid new result
      → Completes told (λ text. ended on_end (whole text)) left rest old new result
  -- the reading stopped
  pub cut : (on_end : R → Out) (told whole : List ℕ → Course R) (left rest old new : Option (List ℕ)) (why : Stop)
      → Comes {R = R} told whole left rest old new (Err why)
      → Completes told (λ text. ended on_end (whole text)) left rest old new (Err why)
