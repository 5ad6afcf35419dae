-- An expression over values of printed bytes gives such a value.
use Rattle.std.proofs.Common.{ℕ, ℤ, zero, suc, pos, Bool, true, false, cond, nat_lt, List, [], ◌∷◌, ◌++◌, length, map, take, Ok, Err, IfOk, refl}
use Rattle.std.specs.Prelude.{⊤, ◌&&◌, nat_le, min, ◌+ℤ◌, ◌-ℤ◌, ◌*ℤ◌, slice_get}
use Rattle.std.specs.List.{AllByRecursion}
use Rattle.std.specs.Ordering.{int_eq}
use Rattle.aria_base.specs.declared.calls.Arg.{Arg}
use Rattle.aria_base.specs.declared.calls.Arg.TheVariants as arg
use Rattle.aria_base.specs.declared.calls.Request.{Request}
use Rattle.aria_base.specs.declared.keys.Part.TheVariants as part
use Rattle.aria_base.specs.declared.values.Value.{Value}
use Rattle.aria_base.specs.declared.values.Value.TheVariants as value
use Rattle.aria_base.specs.declared.limits.TheConstants.{LONGEST_TEXT, MOST_PARTS, MOST_COLUMNS}
use Rattle.proc_lang.specs.declared.ends.Trap.TheVariants.{Overflow, Zero, Long}
use Rattle.proc_lang.specs.declared.operators.Operand.{Operand}
use Rattle.proc_lang.specs.declared.operators.Operand.TheVariants as source
use Rattle.proc_lang.specs.declared.operators.UnaryOp.{UnaryOp}
use Rattle.proc_lang.specs.declared.operators.UnaryOp.TheVariants as unary
use Rattle.proc_lang.specs.declared.operators.BinaryOp.{BinaryOp}
use Rattle.proc_lang.specs.declared.operators.BinaryOp.TheVariants as binary
use Rattle.proc_lang.specs.Terms.{Term}
use Rattle.proc_lang.specs.Terms as term
use Rattle.proc_lang.specs.Values.{Got, got, both, int_of, text_of, is_i64, number, divided, remainder, quotient, front, value_of_arg}
use Rattle.proc_lang.specs.Meaning.{by_unary, by_binary, named_value, value_of, values_after, values_of, part_of, parts_of, key_from, row_from}
use Rattle.output_laws.proofs.Texts.{Printed, PrintedArg, PrintedCall, PrintedCells, PrintedKey, PrintedPart, PrintedValue, all_joined, all_mapped, all_taken, at_or, joined_printed, signed_printed, taken_printed}

-- the texts that stand in an expression
abbrev pub PrintedTerm : Term → Type 0
PrintedTerm (term.Num z) = ⊤
PrintedTerm (term.Text bytes) = Printed bytes
PrintedTerm term.Me = ⊤
PrintedTerm (term.Named from n) = ⊤
PrintedTerm (term.Unary o a) = PrintedTerm a
PrintedTerm (term.Binary o a b) = PrintedTerm a × PrintedTerm b
PrintedTerm (term.MulDiv a b c) = PrintedTerm a × PrintedTerm b × PrintedTerm c
PrintedTerm (term.Front a b n) = PrintedTerm a × PrintedTerm b

-- ---- what follows on a result

pub got_holds : {A B : Type 0} (P : A → Type 0) (Q : B → Type 0) (r : Got A) (go : A → Got B) → IfOk r P → ((x : A) → P x → IfOk (go x) Q) → IfOk (got r go) Q
got_holds P Q (Ok x) go h k = k x h
got_holds P Q (Err e) go h k = tt

pub both_hold : {A B : Type 0} (P : A → Type 0) (Q : B → Type 0) (r : Got A) (s : Got B) → IfOk r P → IfOk s Q → IfOk (both r s) (λ p. P p.0 × Q p.1)
both_hold P Q (Ok x) (Ok y) h k = (h, k)
both_hold P Q (Ok x) (Err e) h k = tt
both_hold P Q (Err e) s h k = tt

-- ---- operators

abbrev Gives : Got Value → Type 0
Gives r = IfOk r PrintedValue

number_when : (b : Bool) (z : ℤ) → Gives (cond b (Ok (value.Int z)) (Err Overflow))
number_when true z = tt
number_when false z = tt

number_gives : (z : ℤ) → Gives (number z)
number_gives z = number_when (is_i64 z) z

zero_when : (b : Bool) (r : Got Value) → Gives r → Gives (cond b (Err Zero) r)
zero_when true r h = tt
zero_when false r h = h

divided_gives : (x y : ℤ) → Gives (divided x y)
divided_gives x y = zero_when (int_eq y (pos 0)) (number (quotient x y)) (number_gives (quotient x y))

remainder_gives : (x y : ℤ) → Gives (remainder x y)
remainder_gives x y = zero_when (int_eq y (pos 0)) (Ok (value.Int (x -ℤ y *ℤ quotient x y))) tt

joined_when : (b : Bool) (bytes : List ℕ) → Printed bytes → Gives (cond b (Ok (value.Text bytes)) (Err Long))
joined_when true bytes h = h
joined_when false bytes h = tt

text_printed : (v : Value) → PrintedValue v → Printed (text_of v)
text_printed (value.Int n) h = refl
text_printed (value.Text bytes) h = h

unary_gives : (o : UnaryOp) (v : Value) → PrintedValue (by_unary o v)
unary_gives unary.Not v = tt
unary_gives unary.Show v = signed_printed (int_of v)

binary_gives : (o : BinaryOp) (p : Value × Value) → PrintedValue p.0 × PrintedValue p.1 → Gives (by_binary o p)
binary_gives binary.Add p h = number_gives (int_of p.0 +ℤ int_of p.1)
binary_gives binary.Sub p h = number_gives (int_of p.0 -ℤ int_of p.1)
binary_gives binary.Mul p h = number_gives (int_of p.0 *ℤ int_of p.1)
binary_gives binary.Div p h = divided_gives (int_of p.0) (int_of p.1)
binary_gives binary.Mod p h = remainder_gives (int_of p.0) (int_of p.1)
binary_gives binary.Eq p h = tt
binary_gives binary.Ne p h = tt
binary_gives binary.Lt p h = tt
binary_gives binary.Le p h = tt
binary_gives binary.And p h = tt
binary_gives binary.Or p h = tt
binary_gives binary.Cat p h =
    joined_when (nat_le (length (text_of p.0 ++ text_of p.1)) LONGEST_TEXT) (text_of p.0 ++ text_of p.1)
    (joined_printed (text_of p.0) (text_of p.1) (text_printed p.0 h.0) (text_printed p.1 h.1))

-- ---- expressions

arg_gives : (args : List Arg) (n : ℕ) → AllByRecursion PrintedArg args → PrintedValue (value_of_arg (slice_get args n))
arg_gives [] n h = tt
arg_gives (arg.Int z ∷ args) zero h = tt
arg_gives (arg.Text bytes ∷ args) zero h = h.0
arg_gives (arg.List tuples ∷ args) zero h = tt
arg_gives (a ∷ args) (suc n) h = arg_gives args n h.1

module _ (r : Request) (printed : PrintedCall r.call) (item : List ℤ) (regs : List Value) (held : PrintedCells regs) where
  named_gives : (from : Operand) (n : ℕ) → PrintedValue (named_value r item regs from n)
  named_gives source.Reg n = at_or PrintedValue regs n (value.Int (pos 0)) tt held
  named_gives source.Arg n = arg_gives r.call.args n printed
  named_gives source.Item n = tt
  named_gives source.Len n = tt

  pub value_gives : (t : Term) → PrintedTerm t → Gives (value_of r item regs t)
  value_gives (term.Num z) h = tt
  value_gives (term.Text bytes) h = h
  value_gives term.Me h = tt
  value_gives (term.Named from n) h = named_gives from n
  value_gives (term.Unary o a) h = got_holds PrintedValue PrintedValue (value_of r item regs a) (λ v. Ok (by_unary o v)) (value_gives a h)
      (λ v k. unary_gives o v)
  value_gives (term.Binary o a b) h =
      got_holds (λ p. PrintedValue p.0 × PrintedValue p.1) PrintedValue (both (value_of r item regs a) (value_of r item regs b)) (by_binary o)
      (both_hold PrintedValue PrintedValue (value_of r item regs a) (value_of r item regs b) (value_gives a h.0) (value_gives b h.1))
      (λ p k. binary_gives o p k)
  value_gives (term.MulDiv a b c) h =
      let ab = both (value_of r item regs a) (value_of r item regs b) in
      got_holds (λ p. (PrintedValue p.0.0 × PrintedValue p.0.1) × PrintedValue p.1) PrintedValue (both ab (value_of r item regs c))
      (λ p. divided (int_of p.0.0 *ℤ int_of p.0.1) (int_of p.1))
      (both_hold (λ p. PrintedValue p.0 × PrintedValue p.1) PrintedValue ab (value_of r item regs c)
      (both_hold PrintedValue PrintedValue (value_of r item regs a) (value_of r item regs b) (value_gives a h.0) (value_gives b h.1)) (value_gives c h.2))
      (λ p k. divided_gives (int_of p.0.0 *ℤ int_of p.0.1) (int_of p.1))
  value_gives (term.Front a b n) h =
      got_holds (λ p. PrintedValue p.0 × PrintedValue p.1) PrintedValue (both (value_of r item regs a) (value_of r item regs b))
      (λ p. Ok (front (text_of p.0) (text_of p.1) n))
      (both_hold PrintedValue PrintedValue (value_of r item regs a) (value_of r item regs b) (value_gives a h.0) (value_gives b h.1))
      (λ p k. taken_printed (min n LONGEST_TEXT) (text_of p.0 ++ text_of p.1)
      (joined_printed (text_of p.0) (text_of p.1) (text_printed p.0 k.0) (text_printed p.1 k.1)))

  values_after_give : (done : List Value) (ts : List Term) → PrintedCells done → AllByRecursion PrintedTerm ts
      → IfOk (values_after r item regs done ts) PrintedCells
  values_after_give done [] h k = h
  values_after_give done (t ∷ ts) h k =
      got_holds PrintedValue PrintedCells (value_of r item regs t) (λ v. values_after r item regs (done ++ v ∷ []) ts) (value_gives t k.0)
      (λ v is. values_after_give (done ++ v ∷ []) ts (all_joined PrintedValue done (v ∷ []) h (is, tt)) k.1)

  pub values_give : (ts : List Term) → AllByRecursion PrintedTerm ts → IfOk (values_of r item regs ts) PrintedCells
  values_give ts k = values_after_give [] ts tt k

  pub key_gives : (table : ℕ) (ks : List Term) → AllByRecursion PrintedTerm ks → IfOk (key_from r item regs table ks) PrintedKey
  key_gives table ks k =
      got_holds PrintedCells PrintedKey (values_of r item regs ks) (λ vs. Ok (record { table = table; parts = parts_of vs })) (values_give ks k)
      (λ vs is. parts_when (nat_lt 0 (length vs) && nat_le (length vs) MOST_PARTS) vs is)
    where
      part_printed : (v : Value) → PrintedValue v → PrintedPart (part_of v)
      part_printed (value.Int n) h = tt
      part_printed (value.Text bytes) h = h

      parts_when : (b : Bool) (vs : List Value) → PrintedCells vs → AllByRecursion PrintedPart (cond b (map part_of vs) (part.Int (pos 0) ∷ []))
      parts_when true vs h = all_mapped PrintedValue PrintedPart part_of part_printed vs h
      parts_when false vs h = (tt, tt)

  pub row_gives : (es : List Term) → AllByRecursion PrintedTerm es → IfOk (row_from r item regs es) PrintedCells
  row_gives es k =
      got_holds PrintedCells PrintedCells (values_of r item regs es) (λ vs. Ok (take MOST_COLUMNS vs)) (values_give es k)
      (λ vs is. all_taken PrintedValue MOST_COLUMNS vs is)
