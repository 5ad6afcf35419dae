-- What a quotient rounded down leaves, for a negative divisor.
use Rattle.std.proofs.Common.{◌≡◌, ◌≢◌, ℕ, zero, suc, arith, ℤ, pos, ◌≤ℤ◌, refl}
use Rattle.std.specs.Prelude.{negsuc, neg_ℤ, ◌-ℤ◌, ◌*ℤ◌}
use Rattle.std.specs.Int.{int_div_euclid, int_rem_euclid}
use Rattle.std.proofs.lemmas.Int.{ints}
use Rattle.proc_lang.specs.Values.{quotient}

left : (x : ℤ) (n : ℕ) → neg_ℤ (int_rem_euclid (neg_ℤ x) (pos (suc n))) ≡ x -ℤ negsuc n *ℤ int_div_euclid (neg_ℤ x) (pos (suc n))
left (pos zero) n = grind (arith, ints)
left (pos (suc a)) n = grind (arith, ints)
left (negsuc a) n = grind (arith, ints)

pub left_by_negative : (x y : ℤ) → y ≤ℤ pos 0 → y ≢ pos 0 → neg_ℤ (int_rem_euclid (neg_ℤ x) (neg_ℤ y)) ≡ x -ℤ y *ℤ quotient x y
left_by_negative x (pos zero) low nonzero = absurd (nonzero refl)
left_by_negative x (pos (suc n)) low nonzero = absurd (omega (arith, ints))
left_by_negative x (negsuc n) low nonzero = left x n
