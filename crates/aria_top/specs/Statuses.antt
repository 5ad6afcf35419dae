-- What a status says.
use Rattle.std.specs.Prelude.{◌≡◌, ℕ, ◌⊎◌, Result, Ok, Err}
use Rattle.script_course.specs.Courses.{status_of}
use Rattle.script_course.specs.declared.statuses.TheConstants.{DONE, FAILS, REFUSED, STORE_REFUSED, USAGE}
use Rattle.script_course.specs.declared.stops.Stop.{Stop}

-- all that was asked for was done
abbrev pub IsEnded : ℕ → Type 0
IsEnded status = (status ≡ DONE) ⊎ (status ≡ FAILS)

-- the whole output was written
abbrev pub IsAnswered : ℕ → Type 0
IsAnswered status = IsEnded status ⊎ (status ≡ REFUSED) ⊎ (status ≡ USAGE) ⊎ (status ≡ STORE_REFUSED)

-- the status of a command that ended in one of its own, or stopped
abbrev pub final_status : Result ℕ Stop → ℕ
final_status (Ok status) = status
final_status (Err why) = status_of why
