-- Numbers that rise: the first is the least, the last the greatest, and there are no more of them than from the one to the other.
use Rattle.std.proofs.Common.{◌≡◌, refl, sym, ap, subst, ◌∙◌, ℕ, suc, ◌+◌, ℤ, pos, ◌+ℤ◌, ◌≤ℤ◌, Bool, true, false, cond, ◌&&◌, List}
use Rattle.std.proofs.Common.{[], ◌∷◌, length}
use Rattle.std.proofs.Common.{Option, Some, None, arith}
use Rattle.std.specs.Prelude.{int_lt, ◌<ℤ◌}
use Rattle.std.specs.Int.{int_max, int_min}
use Rattle.std.specs.List.{fold}
use Rattle.std.proofs.lemmas.Bool.{and_parts}
use Rattle.std.proofs.lemmas.Int.{ints}

-- each is above the one before
abbrev pub rises : ℤ → List ℤ → Bool
rises before [] = true
rises before (n ∷ ns) = int_lt before n && rises n ns

max-above : (a b : ℤ) → int_lt a b ≡ true → int_max a b ≡ b
max-above a b h = grind (arith, ints)

min-above : (a b : ℤ) → int_lt a b ≡ true → int_min a b ≡ a
min-above a b h = grind (arith, ints)

less-trans : (a b c : ℤ) → int_lt a b ≡ true → int_lt b c ≡ true → int_lt a c ≡ true
less-trans a b c h k = grind (arith, ints)

pub less-irrefl : (a : ℤ) → int_lt a a ≡ true → ⊥
less-irrefl a h = grind (arith, ints)

pub less-is : (a b : ℤ) → int_lt a b ≡ true → a <ℤ b
less-is a b h = grind (arith, ints)

-- what rises above one number rises above a lesser one
pub rises-lower : (a b : ℤ) (ns : List ℤ) → int_lt a b ≡ true → rises b ns ≡ true → rises a ns ≡ true
rises-lower a b [] less up = refl
rises-lower a b (n ∷ ns) less up =
    let parts = and_parts (int_lt b n) (rises n ns) up in λ i. less-trans a b n less parts.0 i && parts.1 i

pub least-first : (x : ℤ) (ns : List ℤ) → rises x ns ≡ true → fold int_min x ns ≡ x
least-first x [] up = refl
least-first x (n ∷ ns) up =
    let parts = and_parts (int_lt x n) (rises n ns) up in
    ap (λ m. fold int_min m ns) (min-above x n parts.0) ∙ least-first x ns (rises-lower x n ns parts.0 parts.1)

pub greatest-behind : (x n : ℤ) (ns : List ℤ) → int_lt x n ≡ true → fold int_max x (n ∷ ns) ≡ fold int_max n ns
greatest-behind x n ns less = ap (λ m. fold int_max m ns) (max-above x n less)

-- from the first to the greatest there are at least as many numbers
pub span-enough : (x : ℤ) (ns : List ℤ) → rises x ns ≡ true → (x +ℤ pos (length ns)) ≤ℤ fold int_max x ns
span-enough x [] up = omega (arith, ints)
span-enough x (n ∷ ns) up =
    let parts = and_parts (int_lt x n) (rises n ns) up in
    let behind = span-enough n ns parts.1 in
    let less = less-is x n parts.0 in
    subst (λ m. (x +ℤ pos (suc (length ns))) ≤ℤ m) (sym (greatest-behind x n ns parts.0)) (omega (arith, ints, behind, less))
