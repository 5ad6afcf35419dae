-- A refused line stops whatever course it belongs to.
use Rattle.std.proofs.Common.{◌≡◌, sym, subst, ℕ, List, Option}
use Rattle.std.specs.Prelude.{Result, Err}
use Rattle.answer_text.specs.Refusals.{refusal_text}
use Rattle.script_course.proofs.Turns.{front_none}
use Rattle.script_course.specs.Courses.{Course, Stops, printed}
use Rattle.script_course.specs.Served.{Serves}
use Rattle.script_course.specs.declared.stops.Stop.{Stop}
use Rattle.script_course.specs.declared.stops.Stop.TheVariants as stop
use Rattle.script_text.specs.declared.refusals.LinesRefused.{LinesRefused}
use Rattle.script_text.specs.declared.refusals.LinesRefused.TheVariants.{Line}
use Rattle.script_text.specs.declared.refusals.Refusal.{Refusal}
use Rattle.script_rows.specs.Moves.{Moves}

module _ {R : Type 0} (course : Course R) where
  pub memory_serves : (now : Option (List ℕ)) → Serves course now now (Err stop.NoMemory)
  memory_serves now = front_none now (printed course)

  pub line_serves : (refused : LinesRefused) (refusal : Refusal) (old new : Option (List ℕ)) (result : Result R Stop) → refused ≡ Line refusal
      → Moves course (Err refused) → Serves (Stops (refusal_text refusal)) old new result → Serves course old new result
  line_serves refused refusal old new result is moves h =
      let stops : course ≡ Stops (refusal_text refusal) = subst (λ (r : LinesRefused). Moves course (Err r)) is moves in
      subst (λ (c : Course R). Serves c old new result) (sym stops) h
