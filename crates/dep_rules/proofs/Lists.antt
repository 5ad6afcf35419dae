-- A batch's lists, by places from 1.
use Rattle.std.proofs.Common.{◌≡◌, refl, ap, sym, ◌∙◌, subst, ℕ, suc, ◌+◌, ◌-◌, ◌<◌, ◌≤◌, List, [], ◌∷◌, map, take, length, get_or, arith}
use Rattle.std.specs.List.{range_with_len}
use Rattle.std.proofs.lemmas.List.{get_or-take, length-take-le}
use Rattle.dep_rules.specs.Words.{tids_before}

-- what numbers from i on tell is what the items tell
map-range : {S B : Type 0} (f : ℕ → B) (g : S → B) (i : ℕ) (xs : List S) → ((k : ℕ) (d : S) → k < length xs → f (i + k) ≡ g (get_or xs k d))
    → map f (range_with_len i (length xs)) ≡ map g xs
map-range f g i [] same = refl
map-range f g i (x ∷ xs) same =
    let here : f i ≡ g x = let e : i ≡ i + 0 = omega arith in ap f e ∙ same 0 x (omega arith) in
    let rest = map-range f g (i + 1) xs (λ k d lt. let e : i + 1 + k ≡ i + suc k = omega arith in ap f e ∙ same (suc k) d (omega arith)) in
    λ j. here j ∷ rest j

-- so it is with the TIDs before one of them
pub map-tids : {S B : Type 0} (f : ℕ → B) (g : S → B) (tid : ℕ) (xs : List S) → tid - 1 ≤ length xs
    → ((k : ℕ) (d : S) → k < tid - 1 → f (1 + k) ≡ g (get_or xs k d)) → map f (tids_before tid) ≡ map g (take (tid - 1) xs)
map-tids f g tid xs few same =
    let long : length (take (tid - 1) xs) ≡ tid - 1 = length-take-le (tid - 1) xs few in
    subst (λ n. map f (range_with_len 1 n) ≡ map g (take (tid - 1) xs)) long
    (map-range f g 1 (take (tid - 1) xs) (λ k d lt. let below : k < tid - 1 = omega (arith, long) in same k d below
    ∙ ap g (sym (get_or-take (tid - 1) xs k d below))))
