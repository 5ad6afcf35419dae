-- What the rows of order entry tell an audit. Money is in cents.
use Rattle.std.specs.Prelude.{ℕ, ℤ, pos, ◌==◌, List, Option, Some, None, slice_get, if◌then◌else◌, map}
use Rattle.std.specs.FinMap as fin
use Rattle.aria_base.specs.Orders.{Cells, Database}
use Rattle.aria_base.specs.declared.keys.Key.{Key}
use Rattle.aria_base.specs.declared.keys.Part.{Part}
use Rattle.aria_base.specs.declared.keys.Part.TheVariants as part
use Rattle.aria_base.specs.declared.values.Value.{Value}
use Rattle.aria_base.specs.declared.values.Value.TheVariants as value
use Rattle.cat_builtin.specs.Warehouses as table
use Rattle.tpcc_audit.specs.declared.facts.District.{District}
use Rattle.tpcc_audit.specs.declared.facts.Fact.{Fact}
use Rattle.tpcc_audit.specs.declared.facts.Fact.TheVariants as fact

-- the number that a part is; there is one wherever the tables fit the catalogue
abbrev pub part_number : Option Part → ℤ
part_number (Some (part.Int number)) = number
part_number (Some (part.Text bytes)) = pos 0
part_number None = pos 0

abbrev pub part_at : List Part → ℕ → ℤ
part_at parts n = part_number (slice_get parts n)

abbrev pub column_number : Option Value → ℤ
column_number (Some (value.Int number)) = number
column_number (Some (value.Text bytes)) = pos 0
column_number None = pos 0

abbrev pub column_at : Cells → ℕ → ℤ
column_at row n = column_number (slice_get row n)

abbrev pub district_at : List Part → District
district_at parts = record { w = part_at parts 0; d = part_at parts 1 }

-- columns are those of the catalogue: w_ytd, d_ytd, d_next_o_id, o_ol_cnt
abbrev pub fact_of : Key × Cells → Fact
fact_of row =
    let parts = row.0.parts in
    if row.0.table == table.warehouses then fact.Warehouse (record { w = part_at parts 0; ytd = column_at row.1 1 })
    else if row.0.table == table.districts then
    fact.District (record { at = district_at parts; ytd = column_at row.1 1; next = column_at row.1 2 })
    else if row.0.table == table.open_orders then fact.Open (district_at parts) (part_at parts 2)
    else if row.0.table == table.orders then fact.Order (district_at parts) (part_at parts 2) (column_at row.1 3)
    else if row.0.table == table.order_lines then fact.Line (district_at parts)
    else fact.Other

-- what all rows tell, in the order of their keys
abbrev pub facts_of : Database → List Fact
facts_of rows = map fact_of (fin.entries rows)
