-- Bytes are read as a text exactly where they are one.
use Rattle.std.proofs.Common.{◌≡◌, ℕ, ◌<◌, ◌≤◌, List, length, get_or, Some, None, not, Bool, cond, ap}
use Rattle.std.specs.List.{list_all, position}
use Rattle.std.specs.Prelude.{nat_le}
use Rattle.std.proofs.lemmas.Bool.{le-leb, lt-leb, not-true, and_from}
use Rattle.std.proofs.lemmas.List.Quantifiers.{position-Some}
use Rattle.std.proofs.lemmas.List.Folds.{list_all_at}
use Rattle.std.proofs.lemmas.List.Sums.{list_all-from_AllPass}
use Rattle.aria_base.specs.Texts.{IsText, may_hold}
use Rattle.aria_base.specs.declared.limits.TheConstants.{LONGEST_TEXT}
use Rattle.script_text.specs.Tokens.{fit_text}

pub is_text : (bytes : List ℕ) → IsText bytes → fit_text bytes ≡ Some bytes
is_text bytes h = ap (λ (b : Bool). cond b (Some bytes) None)
    (and_from (nat_le (length bytes) LONGEST_TEXT) (list_all may_hold bytes) (le-leb (length bytes) LONGEST_TEXT h.0)
    (list_all-from_AllPass may_hold bytes h.1))

pub too_long : (bytes : List ℕ) → LONGEST_TEXT < length bytes → fit_text bytes ≡ None
too_long bytes h = let e = lt-leb (length bytes) LONGEST_TEXT h in rw e

pub bad_byte : (bytes : List ℕ) (at : ℕ) → length bytes ≤ LONGEST_TEXT → position (λ b. not (may_hold b)) bytes ≡ Some at → fit_text bytes ≡ None
bad_byte bytes at h k =
    let found = position-Some (λ b. not (may_hold b)) bytes at 0 k in
    let e = list_all_at may_hold bytes at 0 found.0 (not-true (may_hold (get_or bytes at 0)) found.1) in
    let l = le-leb (length bytes) LONGEST_TEXT h in
    rw (l, e)
