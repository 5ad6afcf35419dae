-- What a place of a list comes to.
use Rattle.std.specs.Prelude.{◌≡◌, ℕ, List, slice_index_or}
use Rattle.aria_base.specs.declared.calls.Request.{Request}
use Rattle.proc_exec.specs.declared.outcomes.Outcome.{Outcome}

-- it is what the request at the place comes to
abbrev pub ComesTo : (Request → Outcome) → List Request → ℕ → Outcome → Type 0
ComesTo outcome_of list place outcome = (d : Request) → outcome ≡ outcome_of (slice_index_or list place d)
