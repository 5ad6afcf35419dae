-- What the reading of an input comes to, of any reader.
use Rattle.std.proofs.Common.{◌≡◌, subst, ℕ, List, Option, Some, None}
use Rattle.std.specs.Prelude.{Result, Err}
use Rattle.script_course.proofs.Turns.{front_none}
use Rattle.script_course.specs.Courses.{Course, printed, told, told_whole}
use Rattle.script_course.specs.Served.{Comes}
use Rattle.script_course.specs.declared.stops.Stop.{Stop}
use Rattle.script_course.specs.declared.stops.Stop.TheVariants as stop
use Rattle.script_text.specs.Lines.{Feed}

-- there was no memory to begin with
pub nothing_read : {R : Type 0} (told whole : List ℕ → Course R) (left old : Option (List ℕ)) → Comes told whole left left old old (Err stop.NoMemory)
nothing_read told whole None old = (tt, tt)
nothing_read told whole (Some text) old = (front_none old (printed (whole text)), tt)

-- the state that it began with is this one
pub read_from : {R : Type 0} (on_line : R → List ℕ → Course R) (feed : Feed) (left rest old new : Option (List ℕ)) (first start : R) (result : Result R Stop)
    → first ≡ start → Comes (told on_line feed first) (told_whole on_line feed first) left rest old new result
    → Comes (told on_line feed start) (told_whole on_line feed start) left rest old new result
read_from {R = R} on_line feed left rest old new first start result is h =
    subst (λ (r : R). Comes (told on_line feed r) (told_whole on_line feed r) left rest old new result) is h
