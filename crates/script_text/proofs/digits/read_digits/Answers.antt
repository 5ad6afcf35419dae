use Rattle.std.proofs.Common.{ℕ, ◌<◌, ◌≤◌, ◌^◌, lit<, arith}
use Rattle.std.proofs.Math.Nat.{pow-le-pow_right}
use Rattle.script_text.proofs.digits.read_digits.Goals as goal

-- a number of at most 18 digits leaves room for one more
small : (n i : ℕ) → n < 10 ^ i → i ≤ 18 → n < 10 ^ 18
small n i below short = omega (arith, below, pow-le-pow_right {n = 10} (lit< tt) short)

pub overflow_mul-number : goal.overflow_mul-number
overflow_mul-number c = omega (arith, small c.loop-byte.number c.loop-byte.byte-index c.loop-byte.invariant.1 (omega arith))

pub overflow_add-number : goal.overflow_add-number
overflow_add-number c = omega (arith, small c.loop-byte.number c.loop-byte.byte-index c.loop-byte.invariant.1 (omega arith))
