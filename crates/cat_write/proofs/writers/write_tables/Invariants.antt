use Rattle.std.proofs.Common.{◌≡◌, map, take}
use Rattle.serde_json.specs.View.{view}
use Rattle.cat_forms.specs.Written.{table_data}
use Rattle.cat_write.proofs.writers.write_tables.Given as goal

abbrev pub invariant-loop-table : goal.invariant-loop-table
invariant-loop-table l = map view l.values.items ≡ map table_data (take l.table-index l.table-items)
