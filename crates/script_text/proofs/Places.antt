-- The first place of a byte cuts the bytes there.
use Rattle.std.proofs.Common.{◌≡◌, ℕ, ◌+◌, ◌<◌, List, [], ◌∷◌, ◌++◌, length, take, drop, get_or, suc, Bool, true, refl, ap, sym, ◌∙◌, add-one}
use Rattle.std.specs.List.{list_all}
use Rattle.std.proofs.Math.Seq.{drop-cons}
use Rattle.std.proofs.lemmas.List.{take-append-drop}
use Rattle.std.proofs.lemmas.Bool.{and_parts, and_from}

-- ---- tests of all bytes

pub all_weaker : (p q : ℕ → Bool) → ((b : ℕ) → p b ≡ true → q b ≡ true) → (bs : List ℕ) → list_all p bs ≡ true → list_all q bs ≡ true
all_weaker p q each [] h = refl
all_weaker p q each (b ∷ bs) h =
    let parts = and_parts (p b) (list_all p bs) h in
    and_from (q b) (list_all q bs) (each b parts.0) (all_weaker p q each bs parts.1)

pub all_joined : (p : ℕ → Bool) (xs bs : List ℕ) → list_all p xs ≡ true → list_all p bs ≡ true → list_all p (xs ++ bs) ≡ true
all_joined p [] bs h k = k
all_joined p (a ∷ xs) bs h k =
    let parts = and_parts (p a) (list_all p xs) h in
    and_from (p a) (list_all p (xs ++ bs)) parts.0 (all_joined p xs bs parts.1 k)

-- ---- a place

pub cut_at : (bytes : List ℕ) (at c : ℕ) → at < length bytes → get_or bytes at 0 ≡ c → bytes ≡ take at bytes ++ c ∷ drop (at + 1) bytes
cut_at bytes at c below here =
    let d : drop at bytes ≡ c ∷ drop (at + 1) bytes = rw add-one (drop-cons bytes at 0 below ∙ ap (λ (b : ℕ). b ∷ drop (suc at) bytes) here) in
    sym (take-append-drop at bytes) ∙ ap (λ (l : List ℕ). take at bytes ++ l) d
