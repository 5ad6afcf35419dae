-- The line of a request that is carried over: `held Q PROC a1 ..`.
use Rattle.std.specs.Prelude.{◌≡◌, ℕ, ℤ, pos, negsuc, ◌^◌, ◌<◌, ◌==◌, if◌then◌else◌, List, [], ◌∷◌, ◌++◌, Option, Some, None}
use Rattle.std.specs.Prelude.{option_map, option_and_then, codes, bytes_eq, decimal}
use Rattle.aria_base.specs.declared.calls.Call.{Call}
use Rattle.aria_base.specs.declared.calls.Request.{Request}
use Rattle.proc_lang.specs.Catalogs.{Plan}
use Rattle.script_text.specs.Numbers.{number_of}
use Rattle.script_text.specs.Tokens.{arg_token, spaced}
use Rattle.script_text.specs.Written.{proc_name}
use Rattle.script_text.specs.Fits.{call_said}
use Rattle.image_text.specs.Exactly.{exactly, found, IsCallOf}

abbrev pub line_of_held : Plan → Request → List ℕ
line_of_held plan request =
    codes "held " ++ decimal request.q ++ codes " " ++ proc_name plan.procs request.call.proc ++ spaced arg_token request.call.args

-- ---- how it is read

-- what stands before the first byte of this kind, and behind it
abbrev pub cut_after : List ℕ → ℕ → List ℕ → Option (List ℕ × List ℕ)
cut_after front c [] = None
cut_after front c (b ∷ bs) = if b == c then Some (front, bs) else cut_after (front ++ b ∷ []) c bs

abbrev pub cut : ℕ → List ℕ → Option (List ℕ × List ℕ)
cut c bytes = cut_after [] c bytes

-- behind the word `held`
abbrev pub behind_held : (List ℕ × List ℕ) → Option (List ℕ)
behind_held parts = if bytes_eq parts.0 (codes "held") then Some parts.1 else None

abbrev pub with_call : ℕ → Call → Request
with_call q call = record { q = q; call = call }

-- what stands behind the number is read as a call
abbrev pub with_q : Plan → List ℕ → ℕ → Option Request
with_q plan tail q = option_map (with_call q) (found (call_said plan (codes "tx " ++ tail)))

abbrev pub natural : ℤ → Option ℕ
natural (pos n) = Some n
natural (negsuc n) = None

abbrev pub natural_of : List ℕ → Option ℕ
natural_of digits = option_and_then natural (number_of digits)

abbrev pub with_parts : Plan → (List ℕ × List ℕ) → Option Request
with_parts plan parts = option_and_then (with_q plan parts.1) (natural_of parts.0)

-- the digits, and what stands behind them
abbrev pub parts_of : List ℕ → Option (List ℕ × List ℕ)
parts_of line = option_and_then (cut 32) (option_and_then behind_held (cut 32 line))

abbrev pub held_said : Plan → List ℕ → Option Request
held_said plan line = option_and_then (with_parts plan) (parts_of line)

abbrev pub exact_held : Plan → List ℕ → Option Request
exact_held plan line = exactly (line_of_held plan) line (held_said plan line)

-- a request that the catalogue takes, with a number of 64 bits with a sign
pub record IsHeldOf (plan : Plan) (request : Request) : Type 0 where
  pub number : request.q < 2 ^ 63
  pub call : IsCallOf plan request.call
