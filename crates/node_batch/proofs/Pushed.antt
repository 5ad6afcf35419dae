-- Letters pushed one after the other.
use Rattle.std.proofs.Common.{◌≡◌, ℕ, zero, suc, ◌+◌, List, [], ◌∷◌, ◌++◌, map, sym, ap, ◌∙◌, arith}
use Rattle.std.specs.List.{range_with_len}
use Rattle.std.proofs.lemmas.List.{map-append, append_assoc}

pub range_more : (a n : ℕ) → range_with_len a (suc n) ≡ range_with_len a n ++ (a + n) ∷ []
range_more a zero = let e : a ≡ a + zero = omega arith in ap (λ (x : ℕ). x ∷ []) e
range_more a (suc n) =
    let e : a + 1 + n ≡ a + suc n = omega arith in
    ap (λ l. a ∷ l) (range_more (a + 1) n ∙ ap (λ x. range_with_len (a + 1) n ++ x ∷ []) e)

pub pushed : {X Y : Type 0} (g : X → Y) (f : ℕ → Y) (before out next : List X) (x : X) (n : ℕ) → map g out ≡ map g before ++ map f (range_with_len 0 n)
    → next ≡ out ++ x ∷ [] → g x ≡ f n
    → map g next ≡ map g before ++ map f (range_with_len 0 (n + 1))
pushed g f before out next x n so push same =
    let count : suc n ≡ n + 1 = omega arith in
    let at : n ≡ 0 + n = omega arith in
    ap (map g) push ∙ map-append g out (x ∷ []) ∙ (λ i. so i ++ same i ∷ []) ∙ append_assoc (map g before) (map f (range_with_len 0 n)) (f n ∷ [])
    ∙ ap (λ l. map g before ++ l) (sym (map-append f (range_with_len 0 n) (n ∷ []))
    ∙ ap (map f) (ap (λ k. range_with_len 0 n ++ k ∷ []) at ∙ sym (range_more 0 n) ∙ ap (range_with_len 0) count))
