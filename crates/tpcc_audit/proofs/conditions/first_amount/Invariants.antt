use Rattle.std.proofs.Common.{◌≡◌, map, drop}
use Rattle.tpcc_audit.specs.Books.{paid_in}
use Rattle.tpcc_audit.specs.Conditions.{first, amount}
use Rattle.tpcc_audit.proofs.conditions.first_amount.Given as goal

abbrev pub invariant-loop-row : goal.invariant-loop-row
invariant-loop-row l =
    first (map (λ row. amount row (paid_in l.paid row.w)) (drop l.row-index l.rows)) ≡ first (map (λ row. amount row (paid_in l.paid row.w)) l.rows)
