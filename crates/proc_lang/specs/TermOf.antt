-- The term of an expression.
use Rattle.proc_lang.specs.declared.expressions.Expr.{Expr}
use Rattle.proc_lang.specs.declared.expressions.Expr.TheVariants as expr
use Rattle.proc_lang.specs.declared.operators.Operand.TheVariants as source
use Rattle.proc_lang.specs.declared.operators.UnaryOp.TheVariants as unary
use Rattle.proc_lang.specs.declared.operators.BinaryOp.TheVariants as binary
use Rattle.proc_lang.specs.declared.operators.Shape.{Shape}
use Rattle.proc_lang.specs.declared.operators.Shape.TheVariants as shape
use Rattle.proc_lang.specs.Terms.{Term}
use Rattle.proc_lang.specs.Terms as term

abbrev pub term_of : Expr → Term
term_of (expr.Num z) = term.Num z
term_of (expr.Text bytes) = term.Text bytes
term_of (expr.Reg n) = term.Named source.Reg n
term_of (expr.Arg n) = term.Named source.Arg n
term_of (expr.Item n) = term.Named source.Item n
term_of (expr.Len n) = term.Named source.Len n
term_of expr.Me = term.Me
term_of (expr.Add' p a q b) = term.Binary binary.Add (term_of a) (term_of b)
term_of (expr.Sub' p a q b) = term.Binary binary.Sub (term_of a) (term_of b)
term_of (expr.Mul' p a q b) = term.Binary binary.Mul (term_of a) (term_of b)
term_of (expr.Div' p a q b) = term.Binary binary.Div (term_of a) (term_of b)
term_of (expr.Mod' p a q b) = term.Binary binary.Mod (term_of a) (term_of b)
term_of (expr.MulDiv' p a q b r c) = term.MulDiv (term_of a) (term_of b) (term_of c)
term_of (expr.Eq' p a q b) = term.Binary binary.Eq (term_of a) (term_of b)
term_of (expr.Ne' p a q b) = term.Binary binary.Ne (term_of a) (term_of b)
term_of (expr.Lt' p a q b) = term.Binary binary.Lt (term_of a) (term_of b)
term_of (expr.Le' p a q b) = term.Binary binary.Le (term_of a) (term_of b)
term_of (expr.And' p a q b) = term.Binary binary.And (term_of a) (term_of b)
term_of (expr.Or' p a q b) = term.Binary binary.Or (term_of a) (term_of b)
term_of (expr.Not' p a) = term.Unary unary.Not (term_of a)
term_of (expr.Cat' p a q b) = term.Binary binary.Cat (term_of a) (term_of b)
term_of (expr.Front' p a q b n) = term.Front (term_of a) (term_of b) n
term_of (expr.Show' p a) = term.Unary unary.Show (term_of a)

-- and of one that is seen by its shape
abbrev pub shape_term : Shape → Term
shape_term (shape.Num z) = term.Num z
shape_term (shape.Text bytes) = term.Text bytes.now
shape_term shape.Me = term.Me
shape_term (shape.Named from n) = term.Named from n
shape_term (shape.Unary o a) = term.Unary o (term_of a.now)
shape_term (shape.Binary o a b) = term.Binary o (term_of a.now) (term_of b.now)
shape_term (shape.MulDiv a b c) = term.MulDiv (term_of a.now) (term_of b.now) (term_of c.now)
shape_term (shape.Front a b n) = term.Front (term_of a.now) (term_of b.now) n
