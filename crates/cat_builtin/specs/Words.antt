-- Small words of which the catalogues are written.
use Rattle.std.specs.Prelude.{ℕ, pos, List, replicate, slice_set}
use Rattle.aria_base.specs.declared.values.Kind.{Kind}
use Rattle.aria_base.specs.declared.values.Kind.TheVariants as kind
use Rattle.aria_base.specs.declared.schemas.Table.{Table}
use Rattle.proc_lang.specs.declared.procs.ArgKind.{ArgKind}
use Rattle.proc_lang.specs.declared.procs.ArgKind.TheVariants as arg
use Rattle.proc_lang.specs.declared.operators.Operand.TheVariants as source
use Rattle.proc_lang.specs.declared.operators.UnaryOp.TheVariants as unary
use Rattle.proc_lang.specs.declared.operators.BinaryOp.TheVariants as binary
use Rattle.proc_lang.specs.Terms.{Term, Num, Named, Unary, Binary}
use Rattle.proc_lang.specs.Steps.{Step, Traps, Fails, Let, Read}

-- so many whole numbers, as key parts, columns or registers
abbrev pub all_ints : ℕ → List Kind
all_ints n = replicate n kind.Int

-- the same, but for a text at this place
abbrev pub with_text : ℕ → List Kind → List Kind
with_text place kinds = slice_set kinds place kind.Text

-- so many arguments, all whole numbers
abbrev pub int_args : ℕ → List ArgKind
int_args n = replicate n arg.Int

-- a table with so many whole numbers in its keys
abbrev pub table_of : List ℕ → ℕ → List Kind → Table
table_of name parts columns = record { name = name; key = all_ints parts; cols = columns }

-- ---- expressions and reads, by the words of the language

abbrev pub Reg : ℕ → Term
Reg n = Named source.Reg n

abbrev pub Arg : ℕ → Term
Arg n = Named source.Arg n

abbrev pub Item : ℕ → Term
Item n = Named source.Item n

abbrev pub Len : ℕ → Term
Len n = Named source.Len n

abbrev pub Show : Term → Term
Show a = Unary unary.Show a

abbrev pub Add : Term → Term → Term
Add a b = Binary binary.Add a b

abbrev pub Sub : Term → Term → Term
Sub a b = Binary binary.Sub a b

abbrev pub Mul : Term → Term → Term
Mul a b = Binary binary.Mul a b

abbrev pub Div : Term → Term → Term
Div a b = Binary binary.Div a b

abbrev pub Eq : Term → Term → Term
Eq a b = Binary binary.Eq a b

abbrev pub Ne : Term → Term → Term
Ne a b = Binary binary.Ne a b

abbrev pub Le : Term → Term → Term
Le a b = Binary binary.Le a b

abbrev pub And : Term → Term → Term
And a b = Binary binary.And a b

abbrev pub Cat : Term → Term → Term
Cat a b = Binary binary.Cat a b

abbrev pub Get : ℕ → List Term → List ℕ → Step
Get table key registers = Read Traps table key registers

abbrev pub Need : ℕ → List Term → List ℕ → ℕ → Step
Need table key registers code = Read (Fails code) table key registers

-- ---- what they share

abbrev pub int : ℕ → Term
int n = Num (pos n)

-- what a register holds, and this much more
abbrev pub more : ℕ → Term → Term
more register by = Add (Reg register) by

-- a register becomes this much more
abbrev pub raise : ℕ → Term → Step
raise register by = Let register (more register by)
