use Rattle.std.proofs.Common.{◌≡◌, ◌≤◌, drop, length, map}
use Rattle.std.specs.Map.Iter.{deref_pair}
use Rattle.script_text.specs.Written.{row_line}
use Rattle.serial_check.specs.Reports.{expect_all}
use Rattle.serial_check.proofs.listings.expect_rows.Given as goal

abbrev pub invariant-loop-key : goal.invariant-loop-key
invariant-loop-key l = record {
  says : expect_all l.report (map (λ row. row_line l.fn.tables row.0 row.1) (map deref_pair (drop l.key-index l.rows))) l.at
      ≡ expect_all l.report (map (λ row. row_line l.fn.tables row.0 row.1) (map deref_pair l.rows)) l.initial.at;
  from : l.initial.at ≤ l.at;
  within : l.at ≤ length l.report;
}
