use Rattle.std.proofs.Common.{◌≡◌, drop}
use Rattle.std.specs.List.{fold}
use Rattle.tbl_rows.specs.Hashes.{with_word}
use Rattle.tbl_rows.proofs.hashes.with_bytes.Given as goal

abbrev pub invariant-loop-byte : goal.invariant-loop-byte
invariant-loop-byte l = fold with_word l.hash (drop l.byte-index l.bytes) ≡ fold with_word l.start l.bytes
