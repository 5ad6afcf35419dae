-- Bytes that are a text, and bytes that are none.
use Rattle.std.proofs.Common.{◌≡◌, ℕ, ◌<◌, List, length, Some, None, false, not, get_or, arith}
use Rattle.std.specs.Prelude.{position}
use Rattle.std.specs.List.{list_all}
use Rattle.std.proofs.lemmas.List.Folds.{list_all_at}
use Rattle.std.proofs.lemmas.List.Quantifiers.{position-Some}
use Rattle.std.proofs.lemmas.Grind.{common_steps}
use Rattle.aria_base.specs.Texts.{IsText, may_hold}
use Rattle.aria_base.specs.declared.limits.TheConstants.{LONGEST_TEXT}
use Rattle.cat_forms.specs.Shapes.{text_of}
use Rattle.cat_forms.proofs.Texts.{text_passes}

pub text_kept : (bytes : List ℕ) → IsText bytes → text_of bytes ≡ Some bytes
text_kept bytes h = rw (text_passes bytes h)

pub text_too_long : (bytes : List ℕ) → LONGEST_TEXT < length bytes → text_of bytes ≡ None
text_too_long bytes h = grind (arith, common_steps, h)

pub text_with_bad_byte : (bytes : List ℕ) (at : ℕ) → position (λ b. not (may_hold b)) bytes ≡ Some at → text_of bytes ≡ None
text_with_bad_byte bytes at h =
    let p = position-Some (λ b. not (may_hold b)) bytes at 0 h in
    let bad : may_hold (get_or bytes at 0) ≡ false = grind (arith, common_steps, p.1) in
    let none : list_all may_hold bytes ≡ false = list_all_at may_hold bytes at 0 p.0 bad in
    grind (arith, common_steps, none)
