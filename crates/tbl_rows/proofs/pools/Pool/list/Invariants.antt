use Rattle.std.proofs.Common.{◌++◌, map, drop}
use Rattle.std.specs.List.Sorted.{IsPermutation}
use Rattle.std.specs.Map.Iter.{deref_pair}
use Rattle.tbl_rows.proofs.Spread.{listed}
use Rattle.tbl_rows.proofs.pools.Pool.list.Given as goal

abbrev pub invariant-loop-bucket : goal.invariant-loop-bucket
invariant-loop-bucket l = IsPermutation (map deref_pair l.initial.out.items ++ listed l.bucket-items)
    (map deref_pair l.out.items ++ listed (drop l.bucket-index l.bucket-items))
