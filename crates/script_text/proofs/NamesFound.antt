-- A name that stands once is found at its place.
use Rattle.std.proofs.Common.{◌≡◌, ℕ, zero, suc, ◌+◌, List, [], ◌∷◌, map, Some, Bool, true, false, not, refl, ap, sym, ◌∙◌, arith}
use Rattle.std.specs.Prelude.{position, bytes_eq}
use Rattle.std.specs.List.{list_all, list_any, slice_get, position_from}
use Rattle.std.proofs.lemmas.Bool.{and_parts}
use Rattle.std.proofs.lemmas.Iterator.Adapters.{position_from-zero}
use Rattle.std.proofs.lemmas.Grind.{common_steps}
use Rattle.proc_lang.specs.Catalogs.{distinct}

same_bytes : (bytes : List ℕ) → bytes_eq bytes bytes ≡ true
same_bytes [] = refl
same_bytes (b ∷ bs) = let rest = same_bytes bs in grind (arith, common_steps, rest)

some_same : {A : Type 0} (x y : A) → Some x ≡ Some y → x ≡ y
some_same x y e = cc

not_any : {A : Type 0} (p : List ℕ → Bool) (name : A → List ℕ) (xs : List A) (n : ℕ) (x : A) → list_any p (map name xs) ≡ false → slice_get xs n ≡ Some x
    → p (name x) ≡ false
not_any p name [] n x h e = cc
not_any p name (y ∷ xs) zero x h e =
    let same = some_same y x e in
    let first : p (name y) ≡ false = grind (arith, common_steps, h) in
    ap (λ z. p (name z)) (sym same) ∙ first
not_any p name (y ∷ xs) (suc n) x h e =
    let rest : list_any p (map name xs) ≡ false = grind (arith, common_steps, h) in
    not_any p name xs n x rest e

found_from : {A : Type 0} (name : A → List ℕ) (xs : List A) (n i : ℕ) (x : A) → distinct (map name xs) ≡ true → slice_get xs n ≡ Some x
    → position_from (λ y. bytes_eq (name y) (name x)) i xs ≡ Some (i + n)
found_from name [] n i x h e = cc
found_from name (y ∷ xs) zero i x h e =
    let same = some_same y x e in
    let here : bytes_eq (name y) (name x) ≡ true = ap (λ z. bytes_eq (name z) (name x)) same ∙ same_bytes (name x) in
    let n : i ≡ i + 0 = omega arith in
    rw here (ap Some n)
found_from name (y ∷ xs) (suc n) i x h e =
    let parts = and_parts (not (list_any (bytes_eq (name y)) (map name xs))) (distinct (map name xs)) h in
    let none : list_any (bytes_eq (name y)) (map name xs) ≡ false = grind (arith, common_steps, parts.0) in
    let other : bytes_eq (name y) (name x) ≡ false = not_any (bytes_eq (name y)) name xs n x none e in
    let k : i + 1 + n ≡ i + suc n = omega arith in
    rw other (found_from name xs n (i + 1) x parts.1 e ∙ ap Some k)

pub found : {A : Type 0} (name : A → List ℕ) (xs : List A) (n : ℕ) (x : A) → distinct (map name xs) ≡ true → slice_get xs n ≡ Some x
    → position (λ y. bytes_eq (name y) (name x)) xs ≡ Some n
found name xs n x h e =
    let k : 0 + n ≡ n = omega arith in
    position_from-zero (λ y. bytes_eq (name y) (name x)) xs ∙ found_from name xs n 0 x h e ∙ ap Some k

pub passes : {A : Type 0} (p : A → Bool) (xs : List A) (n : ℕ) (x : A) → list_all p xs ≡ true → slice_get xs n ≡ Some x → p x ≡ true
passes p [] n x h e = cc
passes p (y ∷ xs) zero x h e = ap p (sym (some_same y x e)) ∙ (and_parts (p y) (list_all p xs) h).0
passes p (y ∷ xs) (suc n) x h e = passes p xs n x (and_parts (p y) (list_all p xs) h).1 e
