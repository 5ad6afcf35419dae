use Rattle.std.proofs.Common.{◌≡◌, map, drop}
use Rattle.tpcc_audit.specs.Books.{tally_in}
use Rattle.tpcc_audit.specs.Conditions.{first, at_district}
use Rattle.tpcc_audit.proofs.conditions.first_district.Given as goal

abbrev pub invariant-loop-row : goal.invariant-loop-row
invariant-loop-row l =
    first (map (λ row. at_district l.condition row (tally_in l.tallies row.at)) (drop l.row-index l.rows))
    ≡ first (map (λ row. at_district l.condition row (tally_in l.tallies row.at)) l.rows)
