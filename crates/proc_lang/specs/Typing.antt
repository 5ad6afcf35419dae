-- When a procedure is well typed under a schema, and else which statement fails first, and why. Statements are looked at in the
-- order in which they are written, an `if` or `each` before its blocks. Of a statement the first failure counts: how deep it lies,
-- its table, its key's length, its columns' number, its expressions from the left, their kinds, and the registers that it sets.
use Rattle.std.specs.Prelude.{ℕ, ◌+◌, ◌==◌, ◌&&◌, Bool, true, false, not, nat_lt, is_some, List, [], ◌∷◌, ◌++◌, map, length}
use Rattle.std.specs.Prelude.{slice_get, slice_index_or, slice_set, Option, Some, None, Result}
use Rattle.std.specs.declared.result.Result.TheVariants.{Ok, Err}
use Rattle.std.specs.Result.{IsOk}
use Rattle.std.specs.Cmp.Lexicographic.{pointwise}
use Rattle.aria_base.specs.declared.values.Kind.{Kind}
use Rattle.aria_base.specs.declared.values.Kind.TheVariants.{Int, Text}
use Rattle.aria_base.specs.declared.schemas.Table.{Table}
use Rattle.proc_lang.specs.declared.procs.ArgKind.{ArgKind}
use Rattle.proc_lang.specs.declared.procs.ArgKind.TheVariants as arg
use Rattle.proc_lang.specs.declared.procs.Proc.{Proc}
use Rattle.proc_lang.specs.declared.flaws.TheConstants.{UNKNOWN_TABLE, KEY_LENGTH, COLUMNS, KIND, REGISTER, ARGUMENT, NESTING}
use Rattle.proc_lang.specs.declared.limits.TheConstants.{MOST_BLOCKS}
use Rattle.proc_lang.specs.declared.operators.Operand.{Operand}
use Rattle.proc_lang.specs.declared.operators.Operand.TheVariants as source
use Rattle.proc_lang.specs.declared.operators.UnaryOp.{UnaryOp}
use Rattle.proc_lang.specs.declared.operators.UnaryOp.TheVariants as unary
use Rattle.proc_lang.specs.declared.operators.BinaryOp.{BinaryOp}
use Rattle.proc_lang.specs.declared.operators.BinaryOp.TheVariants as binary
use Rattle.proc_lang.specs.Terms.{Term}
use Rattle.proc_lang.specs.Terms as term
use Rattle.proc_lang.specs.Steps.{Absence, Traps, Fails, Blanks, Step, Steps, NoMore, More}
use Rattle.proc_lang.specs.Steps as step
use Rattle.proc_lang.specs.Values.{got, both}

-- what is found of a part of a statement, or the cause for which it fails
abbrev pub Typed : Type 0 → Type 0
Typed A = Result A ℕ

abbrev pub found : {A : Type 0} → ℕ → Option A → Typed A
found cause None = Err cause
found cause (Some x) = Ok x

abbrev pub wanted : ℕ → Bool → Typed (Unit {0})
wanted cause true = Ok tt
wanted cause false = Err cause

-- what a statement may name: the tables, the kinds of the arguments and the registers; inside an `each` how many numbers its tuples
-- have; and how many blocks lie around the statement
pub record Scope : Type 0 where
  pub tables : List Table
  pub args : List ArgKind
  pub regs : List Kind
  pub tuple : Option ℕ
  pub blocks : ℕ

-- which of the registers are set
abbrev pub Set : Type 0
Set = List Bool

abbrev pub same_kind : Kind → Kind → Bool
same_kind Int Int = true
same_kind Int Text = false
same_kind Text Int = false
same_kind Text Text = true

-- ---- expressions

abbrev pub plain_kind : ArgKind → Typed Kind
plain_kind arg.Int = Ok Int
plain_kind arg.Text = Ok Text
plain_kind (arg.List width) = Err ARGUMENT

abbrev pub width_of : ArgKind → Typed ℕ
width_of arg.Int = Err ARGUMENT
width_of arg.Text = Err ARGUMENT
width_of (arg.List width) = Ok width

-- the kind of an argument that is no list, and how many numbers the tuples of one that is a list have
abbrev pub argument_kind : Scope → ℕ → Typed Kind
argument_kind s n = got (found ARGUMENT (slice_get s.args n)) plain_kind

abbrev pub argument_width : Scope → ℕ → Typed ℕ
argument_width s n = got (found ARGUMENT (slice_get s.args n)) width_of

abbrev pub item_kind : Scope → ℕ → Typed Kind
item_kind s n = got (found ARGUMENT s.tuple) (λ width. got (wanted ARGUMENT (nat_lt n width)) (λ _. Ok Int))

abbrev pub register_kind : Scope → Set → ℕ → Typed Kind
register_kind s set n = got (wanted REGISTER (slice_index_or set n false)) (λ _. found REGISTER (slice_get s.regs n))

-- operands of the kind `takes` make a value of the kind `gives`
abbrev pub by_one : Kind → Kind → Typed Kind → Typed Kind
by_one takes gives operand = got operand (λ k. got (wanted KIND (same_kind k takes)) (λ _. Ok gives))

abbrev pub by_two : Kind → Kind → Typed (Kind × Kind) → Typed Kind
by_two takes gives operands = got operands (λ p. got (wanted KIND (same_kind p.0 takes && same_kind p.1 takes)) (λ _. Ok gives))

abbrev pub by_three : Typed ((Kind × Kind) × Kind) → Typed Kind
by_three operands = got operands (λ p. got (wanted KIND (same_kind p.0.0 Int && same_kind p.0.1 Int && same_kind p.1 Int)) (λ _. Ok Int))

-- operands of one kind, whichever it is
abbrev pub by_equals : Typed (Kind × Kind) → Typed Kind
by_equals operands = got operands (λ p. got (wanted KIND (same_kind p.0 p.1)) (λ _. Ok Int))

abbrev pub named_kind : Scope → Set → Operand → ℕ → Typed Kind
named_kind s set source.Reg n = register_kind s set n
named_kind s set source.Arg n = argument_kind s n
named_kind s set source.Item n = item_kind s n
named_kind s set source.Len n = got (argument_width s n) (λ _. Ok Int)

abbrev pub unary_kind : UnaryOp → Typed Kind → Typed Kind
unary_kind unary.Not operand = by_one Int Int operand
unary_kind unary.Show operand = by_one Int Text operand

abbrev pub binary_kind : BinaryOp → Typed (Kind × Kind) → Typed Kind
binary_kind binary.Eq operands = by_equals operands
binary_kind binary.Ne operands = by_equals operands
binary_kind binary.Cat operands = by_two Text Text operands
binary_kind other operands = by_two Int Int operands

-- the kind of an expression's value. A node's own argument, item or register is looked at first, then its operands from the left,
-- then their kinds
abbrev pub kind_of : Scope → Set → Term → Typed Kind
kind_of s set (term.Num z) = Ok Int
kind_of s set (term.Text bytes) = Ok Text
kind_of s set term.Me = Ok Int
kind_of s set (term.Named from n) = named_kind s set from n
kind_of s set (term.Unary o a) = unary_kind o (kind_of s set a)
kind_of s set (term.Binary o a b) = binary_kind o (both (kind_of s set a) (kind_of s set b))
kind_of s set (term.MulDiv a b c) = by_three (both (both (kind_of s set a) (kind_of s set b)) (kind_of s set c))
kind_of s set (term.Front a b most) = by_two Text Text (both (kind_of s set a) (kind_of s set b))

-- the kinds of a list, from the left, behind those that are done
abbrev pub kinds_after : Scope → Set → List Kind → List Term → Typed (List Kind)
kinds_after s set done [] = Ok done
kinds_after s set done (t ∷ ts) = got (kind_of s set t) (λ k. kinds_after s set (done ++ k ∷ []) ts)

-- they are those that are wanted
abbrev pub agree : List Kind → Typed (List Kind) → Typed (Unit {0})
agree takes kinds = got kinds (λ ks. wanted KIND (pointwise same_kind ks takes))

-- ---- registers that a statement sets

-- a value of this kind into a register
abbrev pub set_one : Scope → ℕ → Kind → Set → Typed Set
set_one s n k set =
    got (found REGISTER (slice_get s.regs n)) (λ holds. got (wanted KIND (same_kind holds k)) (λ _. Ok (slice_set set n true)))

-- values of these kinds into registers, from the left
abbrev pub set_all : Scope → List ℕ → List Kind → Set → Typed Set
set_all s [] ks set = Ok set
set_all s (n ∷ ns) [] set = Ok set
set_all s (n ∷ ns) (k ∷ ks) set = got (set_one s n k set) (set_all s ns ks)

-- set in both blocks of an `if`
abbrev pub set_in_both : Set → Set → Set
set_in_both [] ys = []
set_in_both (x ∷ xs) [] = []
set_in_both (x ∷ xs) (y ∷ ys) = (x && y) ∷ set_in_both xs ys

-- ---- statements

-- the table, with as many key parts as it has
abbrev pub keyed : Scope → ℕ → ℕ → Typed Table
keyed s t parts =
    got (found UNKNOWN_TABLE (slice_get s.tables t)) (λ table. got (wanted KEY_LENGTH (parts == length table.key)) (λ _. Ok table))

-- and with as many columns
abbrev pub shaped : Scope → ℕ → ℕ → ℕ → Typed Table
shaped s t parts columns = got (keyed s t parts) (λ table. got (wanted COLUMNS (columns == length table.cols)) (λ _. Ok table))

-- a row into registers
abbrev pub reads : Scope → ℕ → List Term → List ℕ → Set → Typed Set
reads s t ks rs set =
    got (shaped s t (length ks) (length rs)) (λ table. got (agree table.key (kinds_after s set [] ks)) (λ _. set_all s rs table.cols set))

-- and whether there was one, where that is told
abbrev pub tells : Scope → Absence → Set → Typed Set
tells s Traps set = Ok set
tells s (Fails code) set = Ok set
tells s (Blanks flag) set = set_one s flag Int set

abbrev pub writes : Scope → ℕ → List Term → List Term → Set → Typed Set
writes s t ks es set =
    got (shaped s t (length ks) (length es))
    (λ table. got (agree (table.key ++ table.cols) (got (kinds_after s set [] ks) (λ kinds. kinds_after s set kinds es))) (λ _. Ok set))

abbrev pub deletes : Scope → ℕ → List Term → Set → Typed Set
deletes s t ks set = got (keyed s t (length ks)) (λ table. got (agree table.key (kinds_after s set [] ks)) (λ _. Ok set))

-- the test of an `if`
abbrev pub tests : Scope → Set → Term → Typed (Unit {0})
tests s set e = got (wanted NESTING (nat_lt s.blocks MOST_BLOCKS)) (λ _. got (kind_of s set e) (λ k. wanted KIND (same_kind k Int)))

-- how many numbers the tuples of an `each` have
abbrev pub goes_over : Scope → ℕ → Typed ℕ
goes_over s n = got (wanted NESTING (nat_lt s.blocks MOST_BLOCKS && not (is_some s.tuple))) (λ _. argument_width s n)

-- ---- which statement fails

-- the number of the next statement, and which registers are set before it
pub record Reached : Type 0 where
  pub next : ℕ
  pub set : Set

-- the statement that fails, and why
pub record Flaw : Type 0 where
  pub place : ℕ
  pub cause : ℕ

abbrev pub at_place : {A : Type 0} → ℕ → Typed A → Result A Flaw
at_place place (Ok x) = Ok x
at_place place (Err cause) = Err (record { place = place; cause = cause })

-- behind a statement without blocks
abbrev pub passed : Reached → Typed Set → Result Reached Flaw
passed r typed = got (at_place r.next typed) (λ set. Ok (record { next = r.next + 1; set = set }))

-- inside a block, and inside one that goes over tuples
abbrev pub inside : Scope → Scope
inside s = record { tables = s.tables; args = s.args; regs = s.regs; tuple = s.tuple; blocks = s.blocks + 1 }

abbrev pub inside_each : Scope → ℕ → Scope
inside_each s width = record { tables = s.tables; args = s.args; regs = s.regs; tuple = Some width; blocks = s.blocks + 1 }

abbrev mutual
  pub typed_step : Scope → Step → Reached → Result Reached Flaw
  typed_step s (step.Let n e) r = passed r (got (kind_of s r.set e) (λ k. set_one s n k r.set))
  typed_step s (step.Read absence t ks rs) r = passed r (got (reads s t ks rs r.set) (tells s absence))
  typed_step s (step.Put t ks es) r = passed r (writes s t ks es r.set)
  typed_step s (step.Del t ks) r = passed r (deletes s t ks r.set)
  typed_step s (step.If e a b) r =
      got (at_place r.next (tests s r.set e)) (λ _.
      got (typed_steps (inside s) a (record { next = r.next + 1; set = r.set })) (λ first.
      got (typed_steps (inside s) b (record { next = first.next; set = r.set })) (λ second.
      Ok (record { next = second.next; set = set_in_both first.set second.set }))))
  typed_step s (step.Each n body) r =
      got (at_place r.next (goes_over s n)) (λ width.
      got (typed_steps (inside_each s width) body (record { next = r.next + 1; set = r.set })) (λ last.
      Ok (record { next = last.next; set = r.set })))
  typed_step s (step.Give e) r = passed r (got (kind_of s r.set e) (λ _. Ok r.set))
  typed_step s (step.Fail code) r = passed r (Ok r.set)

  pub typed_steps : Scope → Steps → Reached → Result Reached Flaw
  typed_steps s NoMore r = Ok r
  typed_steps s (More first rest) r = got (typed_step s first r) (typed_steps s rest)

-- ---- procedures

-- the body lies in no block; no register is set before it
abbrev pub scope_of : List Table → Proc → Scope
scope_of tables p = record { tables = tables; args = p.args; regs = p.regs; tuple = None; blocks = 0 }

abbrev pub at_start : Proc → Reached
at_start p = record { next = 0; set = map (λ _. false) p.regs }

abbrev pub typed_proc : List Table → Proc → Result Reached Flaw
typed_proc tables p = typed_steps (scope_of tables p) p.body (at_start p)

abbrev pub IsWellTyped : List Table → Proc → Type 0
IsWellTyped tables p = IsOk (typed_proc tables p)
