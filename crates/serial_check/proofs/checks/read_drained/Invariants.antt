use Rattle.std.proofs.Common.{◌≡◌, ◌+◌, ℕ, length}
use Rattle.serial_check.specs.Reports.{IsWithin, drained}
use Rattle.serial_check.proofs.checks.read_drained.Given as goal

abbrev pub invariant-loop : goal.invariant-loop
invariant-loop l = record {
  says : (n : ℕ) → n + l.counter ≡ length l.report → drained l.catalog l.report n l.reading ≡ drained l.catalog l.report (length l.report) l.fn.reading;
  within : IsWithin l.report l.reading;
}
