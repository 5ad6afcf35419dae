use Rattle.std.proofs.Common.{◌≡◌, arith, subst}
use Rattle.tbl_rows.specs.declared.homes.TheConstants.{SHARDS}
use Rattle.tbl_rows.proofs.Together.{AllBare, IsWhole-bare, joined-bare}
use Rattle.tbl_rows.proofs.tables.Tables.new.Goals as goal

pub invariant_of-result : goal.invariant_of-result
invariant_of-result c = let n : c.loop-number.number ≡ SHARDS = omega (arith, c.loop-number-test.false, c.loop-number.auto.number-end) in
    IsWhole-bare _ (subst (λ n. AllBare n c.loop-number.shards.items) n c.loop-number.invariant)

pub returns : goal.returns
returns c = let n : c.loop-number.number ≡ SHARDS = omega (arith, c.loop-number-test.false, c.loop-number.auto.number-end) in
    joined-bare _ (subst (λ n. AllBare n c.loop-number.shards.items) n c.loop-number.invariant)
