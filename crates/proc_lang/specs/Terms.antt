-- Expressions without memory: what contracts see of an expression. The words are those of the Rust type, where they are explained.
-- Expressions of one shape are one form here, so that what holds of a shape is said once.
use Rattle.std.specs.Prelude.{ℕ, ℤ, List, ◌+◌}
use Rattle.proc_lang.specs.declared.operators.Operand.{Operand}
use Rattle.proc_lang.specs.declared.operators.UnaryOp.{UnaryOp}
use Rattle.proc_lang.specs.declared.operators.BinaryOp.{BinaryOp}

pub data Term : Type 0 where
  Num : ℤ → Term
  Text : List ℕ → Term
  Me : Term
  Named : Operand → ℕ → Term
  Unary : UnaryOp → Term → Term
  Binary : BinaryOp → Term → Term → Term
  MulDiv : Term → Term → Term → Term
  Front : Term → Term → ℕ → Term

-- how many nodes it has
abbrev pub term_size : Term → ℕ
term_size (Num z) = 1
term_size (Text bytes) = 1
term_size Me = 1
term_size (Named from n) = 1
term_size (Unary o a) = 1 + term_size a
term_size (Binary o a b) = 1 + term_size a + term_size b
term_size (MulDiv a b c) = 1 + term_size a + term_size b + term_size c
term_size (Front a b n) = 1 + term_size a + term_size b
