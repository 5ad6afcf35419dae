-- What the result of a step of the code says of what the definitions give.
use Rattle.std.specs.Prelude.{◌≡◌, Result}
use Rattle.std.specs.declared.result.Result.TheVariants.{Ok, Err}
use Rattle.serial_check.specs.declared.findings.Flaw.{Flaw}
use Rattle.serial_check.specs.declared.halts.Halt.{Halt}
use Rattle.serial_check.specs.declared.halts.Halt.TheVariants as halt

-- what goes on, or the flaw, is the meaning's; out of memory says nothing
abbrev pub Decides : {A : Type 0} → Result A Halt → Result A Flaw → Type 0
Decides (Ok x) meant = meant ≡ Ok x
Decides (Err halt.Memory) meant = Unit {0}
Decides (Err (halt.Flaw flaw)) meant = meant ≡ Err flaw

-- the same where this tells what goes on
abbrev pub DecidesBy : {A B : Type 0} → (A → B) → Result A Halt → Result B Flaw → Type 0
DecidesBy view (Ok x) meant = meant ≡ Ok (view x)
DecidesBy view (Err halt.Memory) meant = Unit {0}
DecidesBy view (Err (halt.Flaw flaw)) meant = meant ≡ Err flaw
