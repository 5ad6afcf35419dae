-- Bytes that are a text are UTF-8.
use Rattle.std.proofs.Common.{◌≡◌, ℕ, ◌<◌, List, length, true, get_or, arith}
use Rattle.std.specs.Str.{IsUtf8}
use Rattle.std.proofs.lemmas.Str.{IsUtf8-from_ascii}
use Rattle.std.proofs.lemmas.Str.Ascii.{IsAscii-from_reads}
use Rattle.std.proofs.lemmas.Grind.{common_steps}
use Rattle.aria_base.specs.Texts.{IsText, may_hold}

held_byte : (b : ℕ) → may_hold b ≡ true → b < 128
held_byte b h = grind (arith, common_steps, h)

pub text_is_utf8 : (bytes : List ℕ) → IsText bytes → IsUtf8 bytes
text_is_utf8 bytes h = IsUtf8-from_ascii bytes (IsAscii-from_reads bytes (length bytes) (omega arith) (λ k below. held_byte (get_or bytes k 0) (h.1 k 0 below)))
