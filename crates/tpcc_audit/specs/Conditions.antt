-- What has to agree in a database of order entry, and the first place where it does not.
use Rattle.std.specs.Prelude.{ℕ, ℤ, pos, ◌+ℤ◌, ◌-ℤ◌, List, [], ◌∷◌, ◌++◌, map, Option, Some, None, if◌then◌else◌}
use Rattle.std.specs.Ordering.{int_eq}
use Rattle.aria_base.specs.Orders.{Database}
use Rattle.tpcc_audit.specs.declared.conditions.Condition.{Condition}
use Rattle.tpcc_audit.specs.declared.conditions.Condition.TheVariants as condition
use Rattle.tpcc_audit.specs.declared.facts.District.{District}
use Rattle.tpcc_audit.specs.declared.facts.DistrictRow.{DistrictRow}
use Rattle.tpcc_audit.specs.declared.facts.WarehouseRow.{WarehouseRow}
use Rattle.tpcc_audit.specs.declared.facts.Fact.{Fact}
use Rattle.tpcc_audit.specs.declared.findings.Audit.{Audit}
use Rattle.tpcc_audit.specs.declared.findings.Audit.TheVariants.{Holds, Fails}
use Rattle.tpcc_audit.specs.declared.tallies.Tally.{Tally}
use Rattle.tpcc_audit.specs.Facts.{facts_of}
use Rattle.tpcc_audit.specs.Books.{warehouses, districts, paid_to, tally_of, or_nothing}

-- the one finding, or the next where that one holds
abbrev pub either : Audit → Audit → Audit
either Holds next = next
either (Fails c w d wanted found) next = Fails c w d wanted found

-- the first failure of all
abbrev pub first : List Audit → Audit
first [] = Holds
first (a ∷ more) = either a (first more)

-- two amounts agree
abbrev pub compared : ℕ → District → ℤ → ℤ → Audit
compared number at wanted found = if int_eq wanted found then Holds else Fails number at.w at.d wanted found

-- 1: what was paid to a warehouse is what was paid to its districts; it is told of district 0
abbrev pub amount : WarehouseRow → ℤ → Audit
amount row paid = compared 1 (record { w = row.w; d = pos 0 }) paid row.ytd

-- 2: the number before the next one is that of the greatest order, 0 if there is none, and of the greatest open order, if there is one
abbrev pub agrees_if_any : ℕ → District → ℤ → Option ℤ → Audit
agrees_if_any number at wanted (Some found) = compared number at wanted found
agrees_if_any number at wanted None = Holds

abbrev pub numbers : DistrictRow → Tally → Audit
numbers row tally =
    let wanted = row.next -ℤ pos 1 in
    either (compared 2 row.at wanted (or_nothing tally.greatest_order)) (agrees_if_any 2 row.at wanted tally.greatest_open)

-- how many numbers there are from the one to the other
abbrev pub reach : ℤ → ℤ → ℤ
reach low high = high -ℤ low +ℤ pos 1

-- 3: from the least open order to the greatest there are as many numbers as open orders
abbrev pub span : DistrictRow → ℕ → Option ℤ → Option ℤ → Audit
span row count (Some low) (Some high) = compared 3 row.at (reach low high) (pos count)
span row count (Some low) None = Holds
span row count None high = Holds

abbrev pub gaps : DistrictRow → Tally → Audit
gaps row tally = span row tally.open_count tally.least_open tally.greatest_open

-- 4: there are as many lines as the orders say
abbrev pub lines : DistrictRow → Tally → Audit
lines row tally = compared 4 row.at tally.due (pos tally.lines)

abbrev pub at_district : Condition → DistrictRow → Tally → Audit
at_district condition.Numbers row tally = numbers row tally
at_district condition.Gaps row tally = gaps row tally
at_district condition.Lines row tally = lines row tally

-- one condition at each of the districts
abbrev pub at_districts : Condition → List Fact → List Audit
at_districts c told = map (λ row. at_district c row (tally_of row.at told)) (districts told)

abbrev pub at_warehouses : List Fact → List Audit
at_warehouses told = map (λ row. amount row (paid_to row.w told)) (warehouses told)

-- the finding: the first failure by condition, then by warehouse, then by district, since the facts stand in the order of their keys
abbrev pub finding : List Fact → Audit
finding told = first
    (at_warehouses told ++ at_districts condition.Numbers told ++ at_districts condition.Gaps told ++ at_districts condition.Lines told)

abbrev pub audited : Database → Audit
audited rows = finding (facts_of rows)
