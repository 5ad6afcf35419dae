-- A line that is refused stops an echo.
use Rattle.std.proofs.Common.{◌≡◌, ap, sym, subst, ℕ}
use Rattle.std.specs.Prelude.{Err}
use Rattle.answer_text.specs.Refusals.{refusal_text}
use Rattle.script_course.specs.Courses.{Stops}
use Rattle.script_places.specs.Places.{Asked}
use Rattle.script_rows.specs.Moves.{Moves}
use Rattle.script_text.specs.Answers.{Answers}
use Rattle.script_text.specs.Lines.{line_after}
use Rattle.script_text.specs.declared.refusals.LinesRefused.{LinesRefused}
use Rattle.script_text.specs.declared.refusals.LinesRefused.TheVariants.{Memory, Line}
use Rattle.worked_scripts.specs.Echoes.{answered}
use Rattle.worked_scripts.specs.declared.echoes.Echo.{Echo}

pub refused_moves : (e : Echo) (told : Asked) (refused : LinesRefused) → Answers told (line_after e.place.lines) (Err refused)
    → Moves (answered e told) (Err refused)
refused_moves e told Memory h = tt
refused_moves e told (Line refusal) h =
    subst (λ (n : ℕ). answered e told ≡ Stops (refusal_text (record { line = n; kind = refusal.kind }))) (sym h.0) (ap (answered e) h.1)
