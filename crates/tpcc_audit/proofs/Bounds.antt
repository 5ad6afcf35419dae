-- No number of the books grows too large.
use Rattle.std.proofs.Common.{◌≡◌, sym, subst, ◌≤◌, ◌<◌, ℕ, ◌+◌, ◌*◌, ◌^◌, ◌-◌, ℤ, pos, negsuc, ◌+ℤ◌, Bool, true, false, if◌then◌else◌, FitsSigned, w64, to_z, of_z, ap, ◌∙◌, arith}
use mir.Syntax.{w128}
use Rattle.std.proofs.Math.Facts.{to_z-of_z}
use Rattle.std.proofs.lemmas.Int.{ints}
use Rattle.std.specs.Ordering.{int_eq}
use Rattle.tpcc_audit.specs.Books.{IsUpTo, IsModerate, IsWithin, IsRoomy, IsBounded, same, set_at, raised, with_order, with_open, with_line, paid_in, tally_in}
use Rattle.tpcc_audit.specs.declared.books.Books.{Books}
use Rattle.tpcc_audit.specs.declared.facts.District.{District}
use Rattle.tpcc_audit.specs.declared.tallies.Tally.{Tally}

pub sum_bounded : (n : ℕ) (x y : ℤ) → IsUpTo (n * 2 ^ 63) x → IsUpTo (2 ^ 63) y → IsUpTo ((n + 1) * 2 ^ 63) (x +ℤ y)
sum_bounded n x y h k = (omega (arith, ints, h.0, k.0), omega (arith, ints, h.1, k.1))

pub wider : (n m : ℕ) (x : ℤ) → n ≤ m → IsUpTo n x → IsUpTo m x
wider n m x less h = (omega (arith, ints, less, h.0), omega (arith, ints, less, h.1))

pub bounded_roomy : (n : ℕ) (kept : Books) → n < 2 ^ 63 → IsBounded n kept → IsRoomy kept
bounded_roomy n kept few b =
    let small : n * 2 ^ 63 ≤ 2 ^ 126 = omega (arith, few) in
    record {
      paid = λ w. wider (n * 2 ^ 63) (2 ^ 126) _ small (b.paid w);
      tallies = λ q. (omega (arith, few, (b.tallies q).0), omega (arith, few, (b.tallies q).1), wider (n * 2 ^ 63) (2 ^ 126) _ small (b.tallies q).2);
    }

-- a whole number of 64 bits
pub small : (x : ℤ) → FitsSigned w64 x → IsUpTo (2 ^ 63) x
small x h = (omega (arith, ints, h), omega (arith, ints, h))

fits : (x : ℤ) → IsUpTo (2 ^ 127 - 1) x → FitsSigned w128 x
fits (pos n) h = record { sfits = omega (arith, ints, h.0, h.1) }
fits (negsuc n) h = record { sfits = omega (arith, ints, h.0, h.1) }

-- the machine's sum of what was paid and one amount more
pub paid-sum : (sum wide ytd : ℤ) → IsModerate sum → wide ≡ ytd → FitsSigned w64 ytd
    → to_z w128 (of_z w128 (to_z w128 (of_z w128 sum) +ℤ to_z w128 (of_z w128 wide))) ≡ sum +ℤ ytd
paid-sum sum wide ytd moderate is fitting =
    let few = small ytd fitting in
    let one = fits sum (omega (arith, ints, moderate.0), omega (arith, ints, moderate.1)) in
    let other = fits ytd (omega (arith, ints, few.0), omega (arith, ints, few.1)) in
    let both = fits (sum +ℤ ytd) (omega (arith, ints, moderate.0, few.0), omega (arith, ints, moderate.1, few.1)) in
    ap (λ x. to_z w128 (of_z w128 (to_z w128 (of_z w128 sum) +ℤ to_z w128 (of_z w128 x)))) is
    ∙ (λ i. to_z w128 (of_z w128 (to_z-of_z one i +ℤ to_z-of_z other i)))
    ∙ to_z-of_z both

more-room : (n : ℕ) → n * 2 ^ 63 ≤ (n + 1) * 2 ^ 63
more-room n = omega arith

pub paid-still : (n : ℕ) (x : ℤ) → IsUpTo (n * 2 ^ 63) x → IsUpTo ((n + 1) * 2 ^ 63) x
paid-still n x h = wider (n * 2 ^ 63) ((n + 1) * 2 ^ 63) x (more-room n) h

pub tally-still : (n : ℕ) (t : Tally) → IsWithin n t → IsWithin (n + 1) t
tally-still n t h = (omega (arith, h.0), omega (arith, h.1), paid-still n t.due h.2)

pub order-within : (n : ℕ) (t : Tally) (order lines : ℤ) → IsUpTo (2 ^ 63) lines → IsWithin n t → IsWithin (n + 1) (with_order t order lines)
order-within n t order lines small h = (omega (arith, h.0), omega (arith, h.1), sum_bounded n t.due lines h.2 small)

pub open-within : (n : ℕ) (t : Tally) (order : ℤ) → IsWithin n t → IsWithin (n + 1) (with_open t order)
open-within n t order h = (omega (arith, h.0), omega (arith, h.1), paid-still n t.due h.2)

pub line-within : (n : ℕ) (t : Tally) → IsWithin n t → IsWithin (n + 1) (with_line t)
line-within n t h = (omega (arith, h.0), omega (arith, h.1), paid-still n t.due h.2)

set-by : (b : Bool) (n : ℕ) (more t : Tally) → IsWithin (n + 1) more → IsWithin (n + 1) t → IsWithin (n + 1) (if b then more else t)
set-by true n more t new old = new
set-by false n more t new old = old

-- the tally of a district that is set, and those of all others
pub set-within : (n : ℕ) (at q : District) (more t after : Tally) → after ≡ set_at at more q t → IsWithin (n + 1) more → IsWithin n t → IsWithin (n + 1) after
set-within n at q more t after is new old = subst (IsWithin (n + 1)) (sym is) (set-by (same at q) n more t new (tally-still n t old))

raised-by : (b : Bool) (n : ℕ) (x ytd : ℤ) → IsUpTo (2 ^ 63) ytd → IsUpTo (n * 2 ^ 63) x → IsUpTo ((n + 1) * 2 ^ 63) (if b then x +ℤ ytd else x)
raised-by true n x ytd small h = sum_bounded n x ytd h small
raised-by false n x ytd small h = paid-still n x h

pub raised-within : (n : ℕ) (w ytd q x after : ℤ) → after ≡ raised w ytd q x → IsUpTo (2 ^ 63) ytd → IsUpTo (n * 2 ^ 63) x → IsUpTo ((n + 1) * 2 ^ 63) after
raised-within n w ytd q x after is small h = subst (IsUpTo ((n + 1) * 2 ^ 63)) (sym is) (raised-by (int_eq w q) n x ytd small h)

pub bounded-more : (n : ℕ) (before after : Books)
    → ((q : ℤ) → IsUpTo (n * 2 ^ 63) (paid_in before.paid q) → IsUpTo ((n + 1) * 2 ^ 63) (paid_in after.paid q))
    → ((q : District) → IsWithin n (tally_in before.tallies q) → IsWithin (n + 1) (tally_in after.tallies q))
    → IsBounded n before → IsBounded (n + 1) after
bounded-more n before after paid tallies b = record { paid = λ q. paid q (b.paid q); tallies = λ q. tallies q (b.tallies q) }
