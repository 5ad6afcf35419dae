-- Bytes that are a text pass the test of one.
use Rattle.std.proofs.Common.{◌≡◌, ℕ, List, true, arith}
use Rattle.std.specs.List.{list_all}
use Rattle.std.proofs.lemmas.List.Sums.{list_all-from_AllPass}
use Rattle.std.proofs.lemmas.Grind.{common_steps}
use Rattle.aria_base.specs.Texts.{IsText, may_hold}
use Rattle.cat_forms.specs.Shapes.{is_text}

pub text_passes : (bytes : List ℕ) → IsText bytes → is_text bytes ≡ true
text_passes bytes h =
    let holds : list_all may_hold bytes ≡ true = list_all-from_AllPass may_hold bytes h.1 in
    grind (arith, common_steps, h.0, holds)
