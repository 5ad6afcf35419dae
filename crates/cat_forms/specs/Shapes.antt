-- What is read of a catalogue's JSON: what stands there, or the first place in the walk that does not have the stated form.
use Rattle.std.specs.Prelude.{ℕ, ◌&&◌, Bool, nat_le, List, length, if◌then◌else◌, Option, Some, None, option_and_then, Result}
use Rattle.std.specs.declared.result.Result.TheVariants.{Ok, Err}
use Rattle.std.specs.List.{list_all}
use Rattle.aria_base.specs.declared.limits.TheConstants.{LONGEST_TEXT}
use Rattle.aria_base.specs.Texts.{may_hold}
use Rattle.proc_lang.specs.Catalogs.{is_between}
use Rattle.proc_lang.specs.declared.procs.PathPart.{PathPart}
use Rattle.serde_json.specs.Data.{Data}
use Rattle.serde_json.specs.Find.{as_number, as_u64}

abbrev pub Shaped : Type 0 → Type 0
Shaped A = Result A (List PathPart)

infixl 10 ◌>>=◌
abbrev pub ◌>>=◌ : {A B : Type 0} → Shaped A → (A → Shaped B) → Shaped B
(Ok x) >>= go = go x
(Err path) >>= go = Err path

-- what was found at the path, where something was
abbrev pub at_path : {A : Type 0} → List PathPart → Option A → Shaped A
at_path path None = Err path
at_path path (Some x) = Ok x

-- ---- plain forms

abbrev pub number_within : ℕ → ℕ → ℕ → Option ℕ
number_within low high n = if is_between low high n then Some n else None

-- a whole number within these
abbrev pub number_between : ℕ → ℕ → Data → Option ℕ
number_between low high d = option_and_then (number_within low high) (option_and_then as_u64 (as_number d))

-- a register, an argument or an item
abbrev pub index : Data → Option ℕ
index d = number_between 0 4294967295 d

abbrev pub is_text : List ℕ → Bool
is_text bytes = nat_le (length bytes) LONGEST_TEXT && list_all may_hold bytes

abbrev pub text_of : List ℕ → Option (List ℕ)
text_of bytes = if is_text bytes then Some bytes else None
