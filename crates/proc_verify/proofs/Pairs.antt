-- Two lists that are gone through together, where the second one ends first.
use Rattle.std.proofs.Common.{◌≡◌, ℕ, List, [], ◌∷◌, Ok, refl}
use Rattle.proc_lang.specs.Typing.{Scope, Set, set_all, set_in_both}

pub set_all_none : (s : Scope) (ns : List ℕ) (set : Set) → set_all s ns [] set ≡ Ok set
set_all_none s [] set = refl
set_all_none s (n ∷ ns) set = refl

pub set_in_both_none : (xs : Set) → set_in_both xs [] ≡ []
set_in_both_none [] = refl
set_in_both_none (x ∷ xs) = refl
