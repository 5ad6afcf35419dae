use Rattle.std.proofs.Common.{◌≡◌, ◌+◌, ◌^◌, length, arith}
use Rattle.tbl_rows.proofs.Grown.{IsPool-round, doubled}
use Rattle.tbl_rows.proofs.pools.Pool.begin_round.Goals as goal

pub invariant_of-self : goal.invariant_of-self
invariant_of-self c =
    let full : length c.self.inside.buckets.items ≡ 2 ^ (c.self.inside.level + 1) =
    omega (arith, c.len.ensures, c.self.inside.buckets.ok.0, c.if-len-self.true, doubled c.self.inside.level c.self.invariant.bounded) in
    IsPool-round _ _ c.self.invariant full c.if-self-lt-LAST_LEVEL.true
