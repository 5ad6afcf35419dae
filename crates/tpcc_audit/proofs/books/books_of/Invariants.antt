use Rattle.std.proofs.Common.{map, take}
use Rattle.std.specs.Map.Iter.{deref_pair}
use Rattle.tpcc_audit.specs.Facts.{fact_of}
use Rattle.tpcc_audit.specs.Books.{Keeps, IsBounded}
use Rattle.tpcc_audit.proofs.books.books_of.Given as goal

abbrev pub invariant-loop-key : goal.invariant-loop-key
invariant-loop-key l = record {
  kept : Keeps l.kept (map fact_of (map deref_pair (take l.key-index l.rows)));
  bounded : IsBounded l.key-index l.kept;
}
