-- Lists one behind the other.
use Rattle.std.specs.Prelude.{ℕ, ◌-◌, ◌≤◌, List, take, drop}
use Rattle.baton_crew.specs.declared.spans.Span.{Span}

-- the items from the start on, and before the end
abbrev pub piece : {T : Type 0} → List T → Span → List T
piece items span = take (span.end - span.start) (drop span.start items)

pub record IsSpan (count : ℕ) (span : Span) : Type 0 where
  pub ordered : span.start ≤ span.end
  pub within : span.end ≤ count
