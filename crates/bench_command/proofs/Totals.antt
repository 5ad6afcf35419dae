-- Sums modulo a number.
use Rattle.std.proofs.Common.{◌≡◌, ℕ, ◌+◌, ◌%◌, List, [], ◌∷◌, map, refl, ap, ◌∙◌, arith}
use Rattle.std.specs.List.{sum_by}
use Rattle.std.proofs.lemmas.List.Sums.{sum_by-cons}
use Rattle.aria_base.specs.Orders.{Cells}
use Rattle.aria_base.specs.declared.keys.Key.{Key}
use Rattle.bench_command.specs.Tallies.{bits_of}
use Rattle.std.proofs.Math.Nat.{mod-add-mod}

-- one number more
pub summed : (start before bits after modulus now next : ℕ) → now ≡ (start + before) % modulus → next ≡ (now + bits) % modulus → after ≡ before + bits
    → next ≡ (start + after) % modulus
summed start before bits after modulus now next so_far one more =
    let together : start + before + bits ≡ start + after = omega (arith, more) in
    one ∙ ap (λ n. (n + bits) % modulus) so_far ∙ mod-add-mod (start + before) modulus bits ∙ ap (λ n. n % modulus) together

pub sum_by-map : {X Y : Type 0} (f : Y → ℕ) (g : X → Y) (xs : List X) → sum_by f (map g xs) ≡ sum_by (λ x. f (g x)) xs
sum_by-map f g [] = refl
sum_by-map f g (x ∷ xs) =
    let here = sum_by-cons f (g x) (map g xs) in
    let there = sum_by-cons (λ y. f (g y)) x xs in
    let rest = sum_by-map f g xs in
    omega (arith, here, there, rest)

-- of the columns of a row
abbrev pub of_row : Key × Cells → ℕ
of_row row = sum_by bits_of row.1
