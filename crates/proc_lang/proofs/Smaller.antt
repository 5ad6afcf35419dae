-- Each statement of a block is smaller than the block.
use Rattle.std.proofs.Common.{ℕ, zero, suc, ◌<◌, List, [], ◌∷◌, length, arith}
use Rattle.std.specs.Prelude.{slice_index_or}
use Rattle.proc_lang.specs.declared.statements.Stmt.{Stmt}
use Rattle.proc_lang.specs.Steps.{step_size, steps_size}
use Rattle.proc_lang.specs.Syntax.{step_of, steps_of}

pub all_smaller : (stmts : List Stmt) (k : ℕ) (d : Stmt) → k < length stmts → step_size (step_of (slice_index_or stmts k d)) < steps_size (steps_of stmts)
all_smaller [] k d p = absurd (omega arith)
all_smaller (s ∷ rest) zero d p = omega arith
all_smaller (s ∷ rest) (suc k) d p = let h : step_size (step_of (slice_index_or rest k d)) < steps_size (steps_of rest) = all_smaller rest k d (omega arith) in
    omega arith
