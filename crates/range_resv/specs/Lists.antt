-- The works of a batch, apart by what is decided of them.
use Rattle.std.specs.Prelude.{List, [], ◌∷◌}
use Rattle.batch_rules.specs.declared.verdicts.Verdict.{Verdict}
use Rattle.batch_rules.specs.declared.verdicts.Verdict.TheVariants.{Finish, Wait}

-- of a list those at whose place it waits, and those at whose place it finishes
abbrev pub waiting_among : {X : Type 0} → List X → List Verdict → List X
waiting_among (x ∷ xs) (Finish raw ∷ verdicts) = waiting_among xs verdicts
waiting_among (x ∷ xs) (Wait cause ∷ verdicts) = x ∷ waiting_among xs verdicts
waiting_among xs verdicts = []

abbrev pub finishing_among : {X : Type 0} → List X → List Verdict → List X
finishing_among (x ∷ xs) (Finish raw ∷ verdicts) = x ∷ finishing_among xs verdicts
finishing_among (x ∷ xs) (Wait cause ∷ verdicts) = finishing_among xs verdicts
finishing_among xs verdicts = []
