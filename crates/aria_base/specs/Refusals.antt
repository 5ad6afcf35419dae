-- Why bytes are no text.
use Rattle.std.specs.Prelude.{◌≡◌, ℕ, ◌<◌, ◌≤◌, List, ◌++◌, length, position, Some, not, codes, decimal}
use Rattle.aria_base.specs.Texts.{may_hold}
use Rattle.aria_base.specs.declared.limits.TheConstants.{LONGEST_TEXT}
use Rattle.aria_base.specs.declared.texts.TxtRefused.{TxtRefused}
use Rattle.aria_base.specs.declared.texts.TxtRefused.TheVariants.{Memory, TooLong, BadByte}

-- the cause of each refusal; out of memory has none
abbrev pub IsNoText : List ℕ → TxtRefused → Type 0
IsNoText bytes Memory = Unit {0}
IsNoText bytes (TooLong len) = (len ≡ length bytes) × (LONGEST_TEXT < length bytes)
IsNoText bytes (BadByte at) = (length bytes ≤ LONGEST_TEXT) × (position (λ b. not (may_hold b)) bytes ≡ Some at)

-- what `{}` prints of a refusal
abbrev pub refusal_text : TxtRefused → List ℕ
refusal_text Memory = codes "no memory"
refusal_text (TooLong len) = decimal len ++ codes " bytes are too long for a text"
refusal_text (BadByte at) = codes "no text holds the byte at " ++ decimal at
