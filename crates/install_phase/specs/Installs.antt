-- Tables after a batch's commit phase.
use Rattle.std.specs.Prelude.{ℕ, List, Option, reverse, flat_map}
use Rattle.aria_base.specs.Orders.{Cells, Database}
use Rattle.aria_base.specs.declared.keys.Key.{Key}
use Rattle.batch_rules.specs.declared.verdicts.Verdict.{Verdict}
use Rattle.batch_rules.specs.Touches.{installed}
use Rattle.batch_rules.specs.Batches.{decided, finishing}
use Rattle.proc_exec.specs.declared.outcomes.Outcome.{Outcome}
use Rattle.install_phase.specs.Writes.{Written}

-- the rows with the writes of all that finish, one request after the other; their numbers in the batch begin at `tid`
abbrev pub after_finishing : ℕ → Database → List Outcome → List Verdict → Database
after_finishing tid rows outcomes verdicts = installed (λ one. one.request.writes) rows (finishing (decided tid outcomes verdicts))

-- the same where of each request its writes are there, and nothing else
abbrev pub after_changes : ℕ → Database → List (List (Key × Option Cells)) → List Verdict → Database
after_changes tid rows list verdicts = installed (λ one. one.request) rows (finishing (decided tid list verdicts))

-- The writes of all that finish, in the order in which they may be made: request after request, and of each the last one first, since
-- of a key that stands twice the first row counts
abbrev pub written : ℕ → List Written → List Verdict → Written
written tid list verdicts = flat_map (λ one. reverse one.request) (finishing (decided tid list verdicts))
