use Rattle.std.proofs.Common.{◌≡◌, ◌+◌, ◌-◌, ◌*◌, ◌%◌, ◌^◌, ◌<◌, length, ap, arith}
use Rattle.tbl_rows.proofs.Slots.{shifted}
use Rattle.tbl_rows.proofs.Grown.{IsSplit, split-of, IsPool-split, pooled-split, doubled}
use Rattle.tbl_rows.proofs.pools.Pool.split_next.Goals as goal

many : (c : goal.After-push_reserved) → length c.as_slice-count.result.now ≡ length c.self.inside.buckets.items
many c = ap length c.as_slice-count.ensures.value

split : (c : goal.After-push_reserved) → IsSplit c.self.inside.level c.self.inside.buckets.items
    (length c.as_slice-count.result.now - 1 * 2 ^ c.self.inside.level % 2 ^ 64) c.index_mut-bucket.result.now c.split.new.self c.in-Ok.moved
split c =
    let level = c.self.inside.level in
    let at : length c.as_slice-count.result.now - 1 * 2 ^ level % 2 ^ 64 + 2 ^ level ≡ length c.as_slice-count.result.now =
    omega (arith, many c, c.self.invariant.least, shifted level (omega (arith, c.self.invariant.bounded))) in
    split-of level _ _ _ _ _ _ c.self.invariant (many c) at (rw c.reserve.ensures.items at c.index_mut-bucket.ensures.value) c.in-Ok.ensures.stayed
    c.in-Ok.ensures.moved

pub invariant_of-self-in-Ok : goal.invariant_of-self-in-Ok
invariant_of-self-in-Ok c =
    let room : length c.self.inside.buckets.items < 2 ^ (c.self.inside.level + 1) =
    omega (arith, many c, c.if-count-self.false, c.self.invariant.most, doubled c.self.inside.level c.self.invariant.bounded) in
    rw (c.push_reserved.ensures.items, c.reserve.ensures.items) (IsPool-split _ _ _ _ _ _ (split c) room)

pub returns-in-Ok : goal.returns-in-Ok
returns-in-Ok c = rw (← c.self.view_is, c.push_reserved.ensures.items, c.reserve.ensures.items) (pooled-split _ _ _ _ _ _ (split c))
