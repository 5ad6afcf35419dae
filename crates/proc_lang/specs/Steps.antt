-- Statements without memory: what contracts see of a statement and of a block. The words are those of the Rust types, where they
-- are explained; the three statements that read a row are one form here, with what each does where there is none.
use Rattle.std.specs.Prelude.{ℕ, List, ◌+◌}
use Rattle.proc_lang.specs.Terms.{Term}

-- where the row is absent, `Get` traps, `Need` fails with this code, and `Find` blanks its registers; whether there was a row, it
-- tells by this one
pub data Absence : Type 0 where
  Traps : Absence
  Fails : ℕ → Absence
  Blanks : ℕ → Absence

mutual
  pub data Step : Type 0 where
    Let : ℕ → Term → Step
    Read : Absence → ℕ → List Term → List ℕ → Step
    Put : ℕ → List Term → List Term → Step
    Del : ℕ → List Term → Step
    If : Term → Steps → Steps → Step
    Each : ℕ → Steps → Step
    Give : Term → Step
    Fail : ℕ → Step

  pub data Steps : Type 0 where
    NoMore : Steps
    More : Step → Steps → Steps

-- how many statements there are, those in blocks included, and one more for each statement and block
abbrev mutual
  pub step_size : Step → ℕ
  step_size (Let r e) = 1
  step_size (Read absence t ks rs) = 1
  step_size (Put t ks es) = 1
  step_size (Del t ks) = 1
  step_size (If e a b) = 1 + steps_size a + steps_size b
  step_size (Each n body) = 1 + steps_size body
  step_size (Give e) = 1
  step_size (Fail code) = 1

  pub steps_size : Steps → ℕ
  steps_size NoMore = 1
  steps_size (More s rest) = 1 + step_size s + steps_size rest
