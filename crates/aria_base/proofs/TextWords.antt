-- The bytes of a word are those of a text.
use Rattle.std.proofs.Common.{◌≡◌, ℕ, ◌≤◌, List, [], ◌∷◌, refl, length, Some, true, false, not, get_or, arith}
use Rattle.std.specs.List.{list_all, position}
use Rattle.std.proofs.lemmas.List.Folds.{list_all_at}
use Rattle.std.proofs.lemmas.List.Quantifiers.{position-Some}
use Rattle.std.proofs.lemmas.Grind.{common_steps}
use Rattle.aria_base.specs.Texts.{may_hold, is_word, is_in_word}
use Rattle.aria_base.specs.declared.limits.TheConstants.{LONGEST_WORD}

byte_held : (b : ℕ) → is_in_word b ≡ true → may_hold b ≡ true
byte_held b h = grind (arith, common_steps, h)

bytes_held : (bytes : List ℕ) → list_all is_in_word bytes ≡ true → list_all may_hold bytes ≡ true
bytes_held [] h = refl
bytes_held (b ∷ bs) h =
    let first : is_in_word b ≡ true = grind (arith, common_steps, h) in
    let rest : list_all is_in_word bs ≡ true = grind (arith, common_steps, h) in
    rw (byte_held b first, bytes_held bs rest)

pub word_is_short : (bytes : List ℕ) → is_word bytes ≡ true → length bytes ≤ LONGEST_WORD
word_is_short bytes h = grind (arith, common_steps, h)

pub word_has_no_bad_byte : (bytes : List ℕ) (at : ℕ) → is_word bytes ≡ true → position (λ b. not (may_hold b)) bytes ≡ Some at → ⊥
word_has_no_bad_byte bytes at h p =
    let q = position-Some (λ b. not (may_hold b)) bytes at 0 p in
    let bad : may_hold (get_or bytes at 0) ≡ false = grind (arith, common_steps, q.1) in
    let none : list_all may_hold bytes ≡ false = list_all_at may_hold bytes at 0 q.0 bad in
    let word : list_all is_in_word bytes ≡ true = grind (arith, common_steps, h) in
    let all = bytes_held bytes word in
    absurd (grind (arith, common_steps, none, all))
