-- A row without columns sets no register.
use Rattle.std.proofs.Common.{◌≡◌, ℕ, List, [], ◌∷◌, refl}
use Rattle.aria_base.specs.declared.values.Value.{Value}
use Rattle.proc_lang.specs.Meaning.{set_all}

pub set_all_none : (ns : List ℕ) (regs : List Value) → set_all ns [] regs ≡ regs
set_all_none [] regs = refl
set_all_none (n ∷ ns) regs = refl
