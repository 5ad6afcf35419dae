use Rattle.std.proofs.Common.{◌≡◌, drop}
use Rattle.std.specs.List.{fold}
use Rattle.tbl_rows.specs.Hashes.{with_part}
use Rattle.tbl_rows.proofs.hashes.hash_of.Given as goal

abbrev pub invariant-loop-part : goal.invariant-loop-part
invariant-loop-part l = fold with_part l.hash (drop l.part-index l.part-items) ≡ fold with_part l.key.table l.key.parts
