use Rattle.std.proofs.Common.{◌≡◌, drop}
use Rattle.tpcc_routines.specs.Answers.{are_rows, are_rows_behind}
use Rattle.tpcc_routines.proofs.answers.are_rows.Given as goal

abbrev pub invariant-loop-key : goal.invariant-loop-key
invariant-loop-key l = are_rows_behind l.prefix l.columns l.before (drop l.key-index l.rows) ≡ are_rows l.prefix l.columns l.rows
