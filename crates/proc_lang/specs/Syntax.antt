-- The statements of a block without memory.
use Rattle.std.specs.Prelude.{ℕ, List, [], ◌∷◌, ◌<◌, map}
use Rattle.std.specs.List.{All}
use Rattle.proc_lang.specs.declared.statements.Stmt.{Stmt}
use Rattle.proc_lang.specs.declared.statements.Stmt.TheVariants as stmt
use Rattle.proc_lang.specs.Steps.{Step, Steps, NoMore, More, step_size}
use Rattle.proc_lang.specs.Steps as step
use Rattle.proc_lang.specs.TermOf.{term_of}

abbrev pub step_of : Stmt → Step
step_of (stmt.Let r e) = step.Let r (term_of e)
step_of (stmt.Get t ks rs) = step.Read step.Traps t ks rs
step_of (stmt.Need t ks rs code) = step.Read (step.Fails code) t ks rs
step_of (stmt.Find t ks rs flag) = step.Read (step.Blanks flag) t ks rs
step_of (stmt.Put t ks es) = step.Put t ks es
step_of (stmt.Del t ks) = step.Del t ks
step_of (stmt.If e a b) = step.If (term_of e) a b
step_of (stmt.Each n body) = step.Each n body
step_of (stmt.Give e) = step.Give (term_of e)
step_of (stmt.Fail code) = step.Fail code

-- one after another
abbrev pub in_turn : List Step → Steps
in_turn [] = NoMore
in_turn (s ∷ rest) = More s (in_turn rest)

abbrev pub steps_of : List Stmt → Steps
steps_of stmts = in_turn (map step_of stmts)

-- each statement is smaller than n
abbrev pub AllSmaller : List Stmt → ℕ → Type 0
AllSmaller stmts n = All (λ s. step_size (step_of s) < n) stmts
