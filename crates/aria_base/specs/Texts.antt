-- What a text may hold.
use Rattle.std.specs.Prelude.{◌≡◌, ℕ, Bool, ◌≤◌, List, length, Option, Some, None, All, ◌&&◌, ◌||◌, ◌==◌, not, true, false}
use Rattle.std.specs.List.{list_all, slice_get}
use Rattle.std.specs.Bool.{nat_le}
use Rattle.aria_base.specs.declared.limits.TheConstants.{LONGEST_TEXT, LONGEST_WORD}

-- a byte of a text: printable ASCII, and neither the quote (34) nor the backslash (92)
abbrev pub may_hold : ℕ → Bool
may_hold b = nat_le 32 b && nat_le b 126 && not (b == 34) && not (b == 92)

-- the bytes of a text
abbrev pub IsText : List ℕ → Type 0
IsText bytes = (length bytes ≤ LONGEST_TEXT) × All (λ b. may_hold b ≡ true) bytes

-- ---- words: the names of tables, procedures and whatever else a script names

-- a to z
abbrev pub is_lower : ℕ → Bool
is_lower b = nat_le 97 b && nat_le b 122

-- what follows on the first byte: a to z, 0 to 9 and the underline
abbrev pub is_in_word : ℕ → Bool
is_in_word b = is_lower b || (nat_le 48 b && nat_le b 57) || b == 95

-- a byte that a word begins with, where there is one
abbrev pub begins_word : Option ℕ → Bool
begins_word None = false
begins_word (Some b) = is_lower b

-- a lower-case letter, then lower-case letters, digits and underlines, at most 16 in all
abbrev pub is_word : List ℕ → Bool
is_word bytes = nat_le (length bytes) LONGEST_WORD && begins_word (slice_get bytes 0) && list_all is_in_word bytes
