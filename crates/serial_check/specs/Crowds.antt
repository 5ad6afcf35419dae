-- Which batches of a script are run, and that one that is too large is one of them.
use Rattle.std.specs.Prelude.{◌≤◌, ◌+◌, ℕ, nat_le, if◌then◌else◌, List, [], ◌∷◌}
use Rattle.aria_base.specs.declared.calls.Call.{Call}
use Rattle.serial_check.specs.declared.findings.Finding.{Finding}
use Rattle.serial_check.specs.declared.findings.Finding.TheVariants.{Crowded, Fails, Holds}

-- How many batches were run behind these, where so many were before: one whose number is none above those so far was one of them, and
-- each other one is run, as the next one.
abbrev pub run_behind : ℕ → List (ℕ × List Call) → ℕ
run_behind n [] = n
run_behind n (batch ∷ more) = run_behind (if nat_le batch.0 n then n else n + 1) more

-- a batch that is found too large is one of so many, counted from 1
abbrev pub IsOneOf : ℕ → Finding → Type 0
IsOneOf most Holds = Unit {0}
IsOneOf most (Fails line wanted found) = Unit {0}
IsOneOf most (Crowded number) = (1 ≤ number) × (number ≤ most)
