-- What a refusal says of the typing of a procedure.
use Rattle.std.specs.Prelude.{◌≡◌, ℕ, List, Result, codes}
use Rattle.proc_lang.specs.Flaws.{wrong_text}
use Rattle.std.specs.declared.result.Result.TheVariants.{Err}
use Rattle.proc_lang.specs.Typing.{Flaw, Reached}
use Rattle.proc_verify.specs.declared.refusals.VerifyRefused.{VerifyRefused}
use Rattle.proc_verify.specs.declared.refusals.VerifyRefused.TheVariants.{Memory, Wrong}

-- It names the procedure by its number, and the flaw that typing finds. Out of memory says nothing.
abbrev pub NamesFirst : ℕ → Result Reached Flaw → VerifyRefused → Type 0
NamesFirst number typed Memory = Unit {0}
NamesFirst number typed (Wrong w) = (w.proc ≡ number) × (typed ≡ Err (record { place = w.place; cause = w.cause }))

-- what `{}` prints of a refusal
abbrev pub refusal_text : VerifyRefused → List ℕ
refusal_text Memory = codes "no memory"
refusal_text (Wrong w) = wrong_text w
