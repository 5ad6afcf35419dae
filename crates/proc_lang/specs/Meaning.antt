-- The meaning of a procedure: its body as a tree of accesses. Each statement is one line, with what remains of the run as its
-- continuation.
use Rattle.std.specs.Prelude.{ℕ, ℤ, pos, ◌+◌, ◌+ℤ◌, ◌-ℤ◌, ◌*ℤ◌, Bool, true, false, not, ◌&&◌, ◌||◌, nat_lt, nat_le, int_lt}
use Rattle.std.specs.Prelude.{int_le, if◌then◌else◌, List, [], ◌∷◌, ◌++◌, length, map, take, slice_get, slice_index_or, slice_set}
use Rattle.std.specs.Prelude.{Option, Some, None}
use Rattle.std.specs.declared.result.Result.TheVariants.{Ok, Err}
use Rattle.std.specs.Fmt.{signed_decimal}
use Rattle.aria_base.specs.Orders.{Cells}
use Rattle.aria_base.specs.Kinds.{value_kind}
use Rattle.aria_base.specs.declared.values.Value.{Value}
use Rattle.aria_base.specs.declared.values.Value.TheVariants as value
use Rattle.aria_base.specs.declared.values.Kind.{Kind}
use Rattle.aria_base.specs.declared.keys.Key.{Key}
use Rattle.aria_base.specs.declared.keys.Part.{Part}
use Rattle.aria_base.specs.declared.keys.Part.TheVariants as part
use Rattle.aria_base.specs.declared.calls.Request.{Request}
use Rattle.batch_rules.specs.Trees.{Tree, Ends, Reads, Writes}
use Rattle.proc_lang.specs.declared.ends.End.{End}
use Rattle.proc_lang.specs.declared.ends.End.TheVariants as end
use Rattle.proc_lang.specs.declared.ends.Trap.TheVariants.{Absent, Many}
use Rattle.aria_base.specs.declared.limits.TheConstants.{MOST_PARTS, MOST_COLUMNS}
use Rattle.proc_lang.specs.declared.limits.TheConstants.{MOST_ACCESSES, MOST_GIVEN}
use Rattle.proc_lang.specs.declared.operators.Operand.{Operand}
use Rattle.proc_lang.specs.declared.operators.Operand.TheVariants as source
use Rattle.proc_lang.specs.declared.operators.UnaryOp.{UnaryOp}
use Rattle.proc_lang.specs.declared.operators.UnaryOp.TheVariants as unary
use Rattle.proc_lang.specs.declared.operators.BinaryOp.{BinaryOp}
use Rattle.proc_lang.specs.declared.operators.BinaryOp.TheVariants as binary
use Rattle.proc_lang.specs.Terms.{Term}
use Rattle.proc_lang.specs.Terms as term
use Rattle.proc_lang.specs.Steps.{Absence, Traps, Fails, Blanks, Step, Steps, NoMore, More}
use Rattle.proc_lang.specs.Steps as step
use Rattle.proc_lang.specs.Values.{Got, got, both, int_of, text_of, is_true, truth, blank, same_value, number, divided, remainder}
use Rattle.proc_lang.specs.Values.{joined, front, me_of, value_of_arg, tuples_of}

-- ---- operators

abbrev pub by_unary : UnaryOp → Value → Value
by_unary unary.Not v = truth (not (is_true v))
by_unary unary.Show v = value.Text (signed_decimal (int_of v))

abbrev pub by_binary : BinaryOp → Value × Value → Got Value
by_binary binary.Add p = number (int_of p.0 +ℤ int_of p.1)
by_binary binary.Sub p = number (int_of p.0 -ℤ int_of p.1)
by_binary binary.Mul p = number (int_of p.0 *ℤ int_of p.1)
by_binary binary.Div p = divided (int_of p.0) (int_of p.1)
by_binary binary.Mod p = remainder (int_of p.0) (int_of p.1)
by_binary binary.Eq p = Ok (truth (same_value p.0 p.1))
by_binary binary.Ne p = Ok (truth (not (same_value p.0 p.1)))
by_binary binary.Lt p = Ok (truth (int_lt (int_of p.0) (int_of p.1)))
by_binary binary.Le p = Ok (truth (int_le (int_of p.0) (int_of p.1)))
by_binary binary.And p = Ok (truth (is_true p.0 && is_true p.1))
by_binary binary.Or p = Ok (truth (is_true p.0 || is_true p.1))
by_binary binary.Cat p = joined (text_of p.0) (text_of p.1)

-- ---- expressions: the request, the current tuple of an `each`, the registers

abbrev pub named_value : Request → List ℤ → List Value → Operand → ℕ → Value
named_value r item regs source.Reg n = slice_index_or regs n (value.Int (pos 0))
named_value r item regs source.Arg n = value_of_arg (slice_get r.call.args n)
named_value r item regs source.Item n = value.Int (slice_index_or item n (pos 0))
named_value r item regs source.Len n = value.Int (pos (length (tuples_of (slice_get r.call.args n))))

abbrev pub value_of : Request → List ℤ → List Value → Term → Got Value
value_of r item regs (term.Num z) = Ok (value.Int z)
value_of r item regs (term.Text bytes) = Ok (value.Text bytes)
value_of r item regs term.Me = Ok (me_of r.q)
value_of r item regs (term.Named from n) = Ok (named_value r item regs from n)
value_of r item regs (term.Unary o a) = got (value_of r item regs a) (λ v. Ok (by_unary o v))
value_of r item regs (term.Binary o a b) = got (both (value_of r item regs a) (value_of r item regs b)) (by_binary o)
value_of r item regs (term.MulDiv a b c) =
    got (both (both (value_of r item regs a) (value_of r item regs b)) (value_of r item regs c))
    (λ p. divided (int_of p.0.0 *ℤ int_of p.0.1) (int_of p.1))
value_of r item regs (term.Front a b n) =
    got (both (value_of r item regs a) (value_of r item regs b)) (λ p. Ok (front (text_of p.0) (text_of p.1) n))

-- the values of a list, from the left, behind those that are done
abbrev pub values_after : Request → List ℤ → List Value → List Value → List Term → Got (List Value)
values_after r item regs done [] = Ok done
values_after r item regs done (t ∷ ts) = got (value_of r item regs t) (λ v. values_after r item regs (done ++ v ∷ []) ts)

abbrev pub values_of : Request → List ℤ → List Value → List Term → Got (List Value)
values_of r item regs ts = values_after r item regs [] ts

abbrev pub part_of : Value → Part
part_of (value.Int n) = part.Int n
part_of (value.Text bytes) = part.Text bytes

-- the parts of a key; of a list that is no key's the single 0
abbrev pub parts_of : List Value → List Part
parts_of vs = if nat_lt 0 (length vs) && nat_le (length vs) MOST_PARTS then map part_of vs else part.Int (pos 0) ∷ []

abbrev pub key_from : Request → List ℤ → List Value → ℕ → List Term → Got Key
key_from r item regs table ks = got (values_of r item regs ks) (λ vs. Ok (record { table = table; parts = parts_of vs }))

-- a row; of a list that is no row its first columns, as many as a row may have
abbrev pub row_from : Request → List ℤ → List Value → List Term → Got Cells
row_from r item regs es = got (values_of r item regs es) (λ vs. Ok (take MOST_COLUMNS vs))

-- ---- registers

-- the columns into the registers, as far as there are both
abbrev pub set_all : List ℕ → List Value → List Value → List Value
set_all [] row regs = regs
set_all (n ∷ ns) [] regs = regs
set_all (n ∷ ns) (v ∷ vs) regs = set_all ns vs (slice_set regs n v)

-- 0 or the empty text, by what the register holds
abbrev pub blank_one : ℕ → List Value → List Value
blank_one n regs = slice_set regs n (blank (value_kind (slice_index_or regs n (value.Int (pos 0)))))

abbrev pub blank_all : List ℕ → List Value → List Value
blank_all [] regs = regs
blank_all (n ∷ ns) regs = blank_all ns (blank_one n regs)

-- ---- statements

-- a run between two statements: its registers, the values given so far, how many accesses it has made
pub record Frame : Type 0 where
  pub regs : List Value
  pub gives : List Value
  pub made : ℕ

abbrev pub Run : Type 0
Run = Tree Key Cells End

abbrev pub Next : Type 0
Next = Frame → Run

abbrev pub set_to : Frame → List Value → Frame
set_to f regs = record { regs = regs; gives = f.gives; made = f.made }

abbrev pub with : {A : Type 0} → Got A → (A → Run) → Run
with (Ok x) go = go x
with (Err trap) go = Ends (end.Trap trap)

-- the test before an access
abbrev pub counted : Frame → Next → Run
counted f go = if nat_lt f.made MOST_ACCESSES then go (record { regs = f.regs; gives = f.gives; made = f.made + 1 })
    else Ends (end.Trap Many)

abbrev pub reads : Got Key → (Frame → Option Cells → Run) → Next
reads key go f = with key (λ key. counted f (λ f. Reads key (go f)))

abbrev pub writes : Got Key → Got (Option Cells) → Next → Next
writes key row next f = with (both key row) (λ p. counted f (λ f. Writes p.0 p.1 (next f)))

-- a row into registers, or this end
abbrev pub read_or : End → List ℕ → Next → Frame → Option Cells → Run
read_or absent rs next f (Some row) = next (set_to f (set_all rs row f.regs))
read_or absent rs next f None = Ends absent

-- a row into registers and 1 into the flag, or blanks and 0
abbrev pub find_in : List ℕ → ℕ → Next → Frame → Option Cells → Run
find_in rs flag next f (Some row) = next (set_to f (slice_set (set_all rs row f.regs) flag (value.Int (pos 1))))
find_in rs flag next f None = next (set_to f (slice_set (blank_all rs f.regs) flag (value.Int (pos 0))))

abbrev pub row_or : Absence → List ℕ → Next → Frame → Option Cells → Run
row_or Traps rs next = read_or (end.Trap Absent) rs next
row_or (Fails code) rs next = read_or (end.Back code) rs next
row_or (Blanks flag) rs next = find_in rs flag next

abbrev pub gives : Next → Frame → Value → Run
gives next f v =
    if nat_lt (length f.gives) MOST_GIVEN then next (record { regs = f.regs; gives = f.gives ++ v ∷ []; made = f.made })
    else Ends (end.Trap Many)

abbrev pub for_each : (List ℤ → Next → Next) → List (List ℤ) → Next → Next
for_each body [] next f = next f
for_each body (t ∷ ts) next f = body t (for_each body ts next) f

abbrev mutual
  pub step_run : Request → Step → List ℤ → Next → Next
  step_run r (step.Let n e) item next f = with (value_of r item f.regs e) (λ v. next (set_to f (slice_set f.regs n v)))
  step_run r (step.Read absence t ks rs) item next f = reads (key_from r item f.regs t ks) (row_or absence rs next) f
  step_run r (step.Put t ks es) item next f =
      writes (key_from r item f.regs t ks) (got (row_from r item f.regs es) (λ row. Ok (Some row))) next f
  step_run r (step.Del t ks) item next f = writes (key_from r item f.regs t ks) (Ok None) next f
  step_run r (step.If e a b) item next f =
      with (value_of r item f.regs e) (λ v. if is_true v then steps_run r a item next f else steps_run r b item next f)
  step_run r (step.Each n body) item next f = for_each (steps_run r body) (tuples_of (slice_get r.call.args n)) next f
  step_run r (step.Give e) item next f = with (value_of r item f.regs e) (gives next f)
  step_run r (step.Fail code) item next f = Ends (end.Back code)

  pub steps_run : Request → Steps → List ℤ → Next → Next
  steps_run r NoMore item next f = next f
  steps_run r (More s rest) item next f = step_run r s item (steps_run r rest item next) f

-- ---- a whole run

-- registers begin with 0 or the empty text
abbrev pub begun : List Kind → Frame
begun kinds = record { regs = map blank kinds; gives = []; made = 0 }

abbrev pub done : Next
done f = Ends (end.Done f.gives)

-- the run of a request by a procedure with this body and these kinds of registers
abbrev pub script : Steps → List Kind → Request → Run
script body kinds r = steps_run r body [] done (begun kinds)

-- whether the run keeps what it wrote
abbrev pub is_done : End → Bool
is_done (end.Done given) = true
is_done (end.Back code) = false
is_done (end.Trap trap) = false
