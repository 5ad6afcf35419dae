-- The blocks within a block are smaller than it.
use Rattle.std.specs.Prelude.{◌≤◌, List, [], ◌∷◌}
use Rattle.std.proofs.Common.{arith}
use denote.Param.Weighed.{most}
use Rattle.proc_lang.specs.declared.statements.Stmt.{Stmt}
use Rattle.proc_lang.specs.declared.statements.Stmt.TheVariants.{Let, Get, Need, Find, Put, Del, If, Each, Give, Fail}
use Rattle.proc_lang.specs.declared.statements.Block.TheDeep.{deep-Stmt}
use Rattle.proc_lang.specs.Steps.{step_size, steps_size}
use Rattle.proc_lang.specs.Syntax.{step_of, steps_of}

deep_le-size : (s : Stmt) → deep-Stmt s ≤ step_size (step_of s)
deep_le-size (Let r e) = omega arith
deep_le-size (Get t ks rs) = omega arith
deep_le-size (Need t ks rs code) = omega arith
deep_le-size (Find t ks rs flag) = omega arith
deep_le-size (Put t ks es) = omega arith
deep_le-size (Del t ks) = omega arith
deep_le-size (If e a b) = omega arith
deep_le-size (Each n body) = omega arith
deep_le-size (Give e) = omega arith
deep_le-size (Fail code) = omega arith

pub most_le-size : (stmts : List Stmt) → most deep-Stmt stmts ≤ steps_size (steps_of stmts)
most_le-size [] = omega arith
most_le-size (s ∷ rest) = omega (arith, deep_le-size s, most_le-size rest)
