-- The careful meaning of a procedure: the same language without the defaults that typing rules out. A run is stuck
--   where an operand is of another kind, and where two values of two kinds are compared;
--   at a register that is not there, at one that is read and not set, and at one that is set to a value of another kind;
--   at an argument that is not there or of another kind, and at an item that its tuple does not have;
--   at a key or a row that its table does not take, and at a row that is read into more or fewer registers than it has columns.
-- A trap is an end like any other, and not stuck. Two bounds are not for typing to keep, and stand as they are: `front` takes no more
-- than a text has, and a request number is far below 2^63.
use Rattle.std.specs.Prelude.{ℕ, ℤ, pos, ◌+◌, ◌+ℤ◌, ◌-ℤ◌, ◌*ℤ◌, Bool, true, false, not, ◌&&◌, ◌||◌, nat_lt, int_lt, int_le}
use Rattle.std.specs.Prelude.{if◌then◌else◌, List, [], ◌∷◌, ◌++◌, length, map, slice_get, slice_index_or, slice_set, Option, Some}
use Rattle.std.specs.Prelude.{None}
use Rattle.std.specs.declared.result.Result.TheVariants.{Ok, Err}
use Rattle.std.specs.Cmp.Lexicographic.{pointwise}
use Rattle.std.specs.Fmt.{signed_decimal}
use Rattle.std.specs.Ordering.{int_eq}
use Rattle.std.specs.Str.{bytes_eq}
use Rattle.aria_base.specs.Kinds.{value_kind, part_kind}
use Rattle.aria_base.specs.Orders.{Cells}
use Rattle.aria_base.specs.declared.schemas.Table.{Table}
use Rattle.aria_base.specs.declared.values.Value.{Value}
use Rattle.aria_base.specs.declared.values.Value.TheVariants as value
use Rattle.aria_base.specs.declared.values.Kind.{Kind}
use Rattle.aria_base.specs.declared.keys.Key.{Key}
use Rattle.aria_base.specs.declared.calls.Arg.{Arg}
use Rattle.aria_base.specs.declared.calls.Arg.TheVariants as arg
use Rattle.aria_base.specs.declared.calls.Request.{Request}
use Rattle.batch_rules.specs.Trees.{Tree, Ends, Reads, Writes}
use Rattle.proc_lang.specs.declared.ends.End.{End}
use Rattle.proc_lang.specs.declared.ends.End.TheVariants as end
use Rattle.proc_lang.specs.declared.ends.Trap.TheVariants.{Absent, Many}
use Rattle.proc_lang.specs.declared.limits.TheConstants.{MOST_ACCESSES, MOST_GIVEN}
use Rattle.proc_lang.specs.declared.operators.Operand.{Operand}
use Rattle.proc_lang.specs.declared.operators.Operand.TheVariants as source
use Rattle.proc_lang.specs.declared.operators.UnaryOp.{UnaryOp}
use Rattle.proc_lang.specs.declared.operators.UnaryOp.TheVariants as unary
use Rattle.proc_lang.specs.declared.operators.BinaryOp.{BinaryOp}
use Rattle.proc_lang.specs.declared.operators.BinaryOp.TheVariants as binary
use Rattle.proc_lang.specs.declared.procs.Proc.{Proc}
use Rattle.proc_lang.specs.Terms.{Term}
use Rattle.proc_lang.specs.Terms as term
use Rattle.proc_lang.specs.Steps.{Absence, Traps, Fails, Blanks, Step, Steps, NoMore, More}
use Rattle.proc_lang.specs.Steps as step
use Rattle.proc_lang.specs.Values.{Got, is_true, truth, blank, number, divided, remainder, joined, front, me_of}
use Rattle.proc_lang.specs.Meaning.{part_of}
use Rattle.proc_lang.specs.Typing.{same_kind}
use Rattle.proc_lang.specs.Catalogs.{Plan}

-- ---- evaluations

-- what an evaluation comes to, a value or a trap; None where it is stuck
abbrev pub Sure : Type 0 → Type 0
Sure A = Option (Got A)

-- what is there, else stuck
abbrev pub there : {A : Type 0} → Option A → Sure A
there None = None
there (Some x) = Some (Ok x)

-- what follows on a value
abbrev pub and_then : {A B : Type 0} → Sure A → (A → Sure B) → Sure B
and_then None go = None
and_then (Some (Ok x)) go = go x
and_then (Some (Err trap)) go = Some (Err trap)

-- the first, then the second
abbrev pub pair : {A B : Type 0} → Sure A → Sure B → Sure (A × B)
pair a b = and_then a (λ x. and_then b (λ y. Some (Ok (x, y))))

-- a number, a text, a plain argument, a list of tuples; anything else is stuck
abbrev pub as_int : Value → Sure ℤ
as_int (value.Int n) = Some (Ok n)
as_int (value.Text bytes) = None

abbrev pub as_text : Value → Sure (List ℕ)
as_text (value.Int n) = None
as_text (value.Text bytes) = Some (Ok bytes)

abbrev pub as_plain : Arg → Sure Value
as_plain (arg.Int n) = Some (Ok (value.Int n))
as_plain (arg.Text bytes) = Some (Ok (value.Text bytes))
as_plain (arg.List tuples) = None

abbrev pub as_list : Arg → Sure (List (List ℤ))
as_list (arg.Int n) = None
as_list (arg.Text bytes) = None
as_list (arg.List tuples) = Some (Ok tuples)

-- whether two values of one kind are equal
abbrev pub alike : Value → Value → Sure Bool
alike (value.Int x) (value.Int y) = Some (Ok (int_eq x y))
alike (value.Int x) (value.Text y) = None
alike (value.Text x) (value.Int y) = None
alike (value.Text x) (value.Text y) = Some (Ok (bytes_eq x y))

-- operations on numbers, on texts, and on two values of one kind
abbrev pub on_int : (ℤ → Got Value) → Value → Sure Value
on_int go v = and_then (as_int v) (λ x. Some (go x))

abbrev pub on_ints : (ℤ → ℤ → Got Value) → Value × Value → Sure Value
on_ints go p = and_then (pair (as_int p.0) (as_int p.1)) (λ x. Some (go x.0 x.1))

abbrev pub on_three : (ℤ → ℤ → ℤ → Got Value) → (Value × Value) × Value → Sure Value
on_three go p = and_then (pair (pair (as_int p.0.0) (as_int p.0.1)) (as_int p.1)) (λ x. Some (go x.0.0 x.0.1 x.1))

abbrev pub on_texts : (List ℕ → List ℕ → Got Value) → Value × Value → Sure Value
on_texts go p = and_then (pair (as_text p.0) (as_text p.1)) (λ x. Some (go x.0 x.1))

abbrev pub on_equals : (Bool → Got Value) → Value × Value → Sure Value
on_equals go p = and_then (alike p.0 p.1) (λ same. Some (go same))

abbrev pub plain_argument : Request → ℕ → Sure Value
plain_argument r n = and_then (there (slice_get r.call.args n)) as_plain

abbrev pub list_argument : Request → ℕ → Sure (List (List ℤ))
list_argument r n = and_then (there (slice_get r.call.args n)) as_list

-- ---- operators

abbrev pub careful_unary : UnaryOp → Value → Sure Value
careful_unary unary.Not = on_int (λ x. Ok (truth (not (is_true (value.Int x)))))
careful_unary unary.Show = on_int (λ x. Ok (value.Text (signed_decimal x)))

abbrev pub careful_binary : BinaryOp → Value × Value → Sure Value
careful_binary binary.Add = on_ints (λ x y. number (x +ℤ y))
careful_binary binary.Sub = on_ints (λ x y. number (x -ℤ y))
careful_binary binary.Mul = on_ints (λ x y. number (x *ℤ y))
careful_binary binary.Div = on_ints divided
careful_binary binary.Mod = on_ints remainder
careful_binary binary.Eq = on_equals (λ same. Ok (truth same))
careful_binary binary.Ne = on_equals (λ same. Ok (truth (not same)))
careful_binary binary.Lt = on_ints (λ x y. Ok (truth (int_lt x y)))
careful_binary binary.Le = on_ints (λ x y. Ok (truth (int_le x y)))
careful_binary binary.And = on_ints (λ x y. Ok (truth (is_true (value.Int x) && is_true (value.Int y))))
careful_binary binary.Or = on_ints (λ x y. Ok (truth (is_true (value.Int x) || is_true (value.Int y))))
careful_binary binary.Cat = on_texts joined

-- ---- expressions: the request, the current tuple of an `each`, and the registers; one that is not set is None

abbrev pub careful_named : Request → List ℤ → List (Option Value) → Operand → ℕ → Sure Value
careful_named r item regs source.Reg n = there (slice_index_or regs n None)
careful_named r item regs source.Arg n = plain_argument r n
careful_named r item regs source.Item n = and_then (there (slice_get item n)) (λ z. Some (Ok (value.Int z)))
careful_named r item regs source.Len n = and_then (list_argument r n) (λ tuples. Some (Ok (value.Int (pos (length tuples)))))

abbrev pub careful_value : Request → List ℤ → List (Option Value) → Term → Sure Value
careful_value r item regs (term.Num z) = Some (Ok (value.Int z))
careful_value r item regs (term.Text bytes) = Some (Ok (value.Text bytes))
careful_value r item regs term.Me = Some (Ok (me_of r.q))
careful_value r item regs (term.Named from n) = careful_named r item regs from n
careful_value r item regs (term.Unary o a) = and_then (careful_value r item regs a) (careful_unary o)
careful_value r item regs (term.Binary o a b) =
    and_then (pair (careful_value r item regs a) (careful_value r item regs b)) (careful_binary o)
careful_value r item regs (term.MulDiv a b c) =
    and_then (pair (pair (careful_value r item regs a) (careful_value r item regs b)) (careful_value r item regs c))
    (on_three (λ x y z. divided (x *ℤ y) z))
careful_value r item regs (term.Front a b n) =
    and_then (pair (careful_value r item regs a) (careful_value r item regs b)) (on_texts (λ x y. Ok (front x y n)))

-- the values of a list, from the left, behind those that are done
abbrev pub careful_values : Request → List ℤ → List (Option Value) → List Value → List Term → Sure (List Value)
careful_values r item regs done [] = Some (Ok done)
careful_values r item regs done (t ∷ ts) = and_then (careful_value r item regs t) (λ v. careful_values r item regs (done ++ v ∷ []) ts)

abbrev pub careful_key : Request → List ℤ → List (Option Value) → ℕ → List Term → Sure Key
careful_key r item regs table ks =
    and_then (careful_values r item regs [] ks) (λ vs. Some (Ok (record { table = table; parts = map part_of vs })))

abbrev pub careful_row : Request → List ℤ → List (Option Value) → List Term → Sure (Option Cells)
careful_row r item regs es = and_then (careful_values r item regs [] es) (λ vs. Some (Ok (Some vs)))

-- ---- what a table and a register take

abbrev pub holds_of : {A : Type 0} → Option A → (A → Bool) → Bool
holds_of None test = false
holds_of (Some x) test = test x

abbrev pub same_kinds : List Kind → List Kind → Bool
same_kinds = pointwise same_kind

-- the columns of a row that there is
abbrev pub has_columns : Table → Option Cells → Bool
has_columns table None = true
has_columns table (Some row) = same_kinds (map value_kind row) table.cols

-- the table is there, and takes the key and the row
abbrev pub has_place : List Table → Key → Option Cells → Bool
has_place tables key row =
    holds_of (slice_get tables key.table) (λ table. same_kinds (map part_kind key.parts) table.key && has_columns table row)

-- the register is there, and takes the value
abbrev pub fits_register : List Kind → ℕ → Value → Bool
fits_register kinds n v = holds_of (slice_get kinds n) (same_kind (value_kind v))

-- ---- statements

-- a run between two statements
pub record State : Type 0 where
  pub regs : List (Option Value)
  pub gives : List Value
  pub made : ℕ

-- a run whose end is None where it is stuck
abbrev pub Careful : Type 0
Careful = Tree Key Cells (Option End)

abbrev pub Next : Type 0
Next = State → Careful

abbrev pub set_to : State → List (Option Value) → State
set_to s regs = record { regs = regs; gives = s.gives; made = s.made }

abbrev pub with : {A : Type 0} → Sure A → (A → Careful) → Careful
with None go = Ends None
with (Some (Ok x)) go = go x
with (Some (Err trap)) go = Ends (Some (end.Trap trap))

abbrev pub checked : Bool → Careful → Careful
checked true run = run
checked false run = Ends None

-- the test before an access
abbrev pub counted : Next → Next
counted go s = if nat_lt s.made MOST_ACCESSES then go (record { regs = s.regs; gives = s.gives; made = s.made + 1 })
    else Ends (Some (end.Trap Many))

abbrev pub reads : List Table → Sure Key → (State → Option Cells → Careful) → Next
reads tables key go s = with key (λ key. checked (has_place tables key None) (counted (λ s. Reads key (go s)) s))

abbrev pub writes : List Table → Sure Key → Sure (Option Cells) → Next → Next
writes tables key row next s = with (pair key row) (λ p. checked (has_place tables p.0 p.1) (counted (λ s. Writes p.0 p.1 (next s)) s))

abbrev pub set_one : List Kind → ℕ → Value → Next → Next
set_one kinds n v next s = checked (fits_register kinds n v) (next (set_to s (slice_set s.regs n (Some v))))

-- the columns into the registers, one into each
abbrev pub set_all : List Kind → List ℕ → List Value → Next → Next
set_all kinds [] [] next s = next s
set_all kinds [] (v ∷ vs) next s = Ends None
set_all kinds (n ∷ ns) [] next s = Ends None
set_all kinds (n ∷ ns) (v ∷ vs) next s = set_one kinds n v (set_all kinds ns vs next) s

-- 0 or the empty text into each, by its kind
abbrev pub blank_all : List Kind → List ℕ → Next → Next
blank_all kinds [] next s = next s
blank_all kinds (n ∷ ns) next s = with (there (slice_get kinds n)) (λ kind. set_one kinds n (blank kind) (blank_all kinds ns next) s)

-- a row into registers, or this end
abbrev pub read_or : List Kind → End → List ℕ → Next → State → Option Cells → Careful
read_or kinds absent rs next s (Some row) = set_all kinds rs row next s
read_or kinds absent rs next s None = Ends (Some absent)

-- a row into registers and 1 into the flag, or blanks and 0
abbrev pub find_in : List Kind → List ℕ → ℕ → Next → State → Option Cells → Careful
find_in kinds rs flag next s (Some row) = set_all kinds rs row (set_one kinds flag (value.Int (pos 1)) next) s
find_in kinds rs flag next s None = blank_all kinds rs (set_one kinds flag (value.Int (pos 0)) next) s

abbrev pub row_or : List Kind → Absence → List ℕ → Next → State → Option Cells → Careful
row_or kinds Traps rs next = read_or kinds (end.Trap Absent) rs next
row_or kinds (Fails code) rs next = read_or kinds (end.Back code) rs next
row_or kinds (Blanks flag) rs next = find_in kinds rs flag next

abbrev pub gives : Next → State → Value → Careful
gives next s v =
    if nat_lt (length s.gives) MOST_GIVEN then next (record { regs = s.regs; gives = s.gives ++ v ∷ []; made = s.made })
    else Ends (Some (end.Trap Many))

abbrev pub for_each : (List ℤ → Next → Next) → List (List ℤ) → Next → Next
for_each body [] next s = next s
for_each body (t ∷ ts) next s = body t (for_each body ts next) s

module _ (tables : List Table) (kinds : List Kind) (r : Request) where
  abbrev mutual
    pub careful_step : Step → List ℤ → Next → Next
    careful_step (step.Let n e) item next s = with (careful_value r item s.regs e) (λ v. set_one kinds n v next s)
    careful_step (step.Read absence t ks rs) item next s = reads tables (careful_key r item s.regs t ks) (row_or kinds absence rs next) s
    careful_step (step.Put t ks es) item next s = writes tables (careful_key r item s.regs t ks) (careful_row r item s.regs es) next s
    careful_step (step.Del t ks) item next s = writes tables (careful_key r item s.regs t ks) (Some (Ok None)) next s
    careful_step (step.If e a b) item next s =
        with (and_then (careful_value r item s.regs e) as_int)
        (λ n. if is_true (value.Int n) then careful_steps a item next s else careful_steps b item next s)
    careful_step (step.Each n body) item next s = with (list_argument r n) (λ tuples. for_each (careful_steps body) tuples next s)
    careful_step (step.Give e) item next s = with (careful_value r item s.regs e) (gives next s)
    careful_step (step.Fail code) item next s = Ends (Some (end.Back code))

    pub careful_steps : Steps → List ℤ → Next → Next
    careful_steps NoMore item next s = next s
    careful_steps (More first rest) item next s = careful_step first item (careful_steps rest item next) s

-- ---- a whole run

-- no register is set
abbrev pub begun : List Kind → State
begun kinds = record { regs = map (λ _. None) kinds; gives = []; made = 0 }

abbrev pub done : Next
done s = Ends (Some (end.Done s.gives))

-- the careful run of a request by a procedure under a schema
abbrev pub careful_script : List Table → Proc → Request → Careful
careful_script tables p r = careful_steps tables p.regs r p.body [] done (begun p.regs)

-- and under a catalogue; a request of no procedure is stuck
abbrev pub careful_by : Plan → Option Proc → Request → Careful
careful_by plan None r = Ends None
careful_by plan (Some p) r = careful_script plan.tables p r

abbrev pub careful_run : Plan → Request → Careful
careful_run plan r = careful_by plan (slice_get plan.procs r.call.proc) r
