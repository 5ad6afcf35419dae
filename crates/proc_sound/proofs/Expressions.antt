-- An expression's evaluation is not stuck where it is well typed, and its value is of the kind that typing finds.
use Rattle.std.proofs.Common.{◌≡◌, ℕ, ℤ, zero, suc, pos, Bool, true, false, not, ◌&&◌, ◌||◌, ◌+ℤ◌, ◌-ℤ◌, ◌*ℤ◌, int_lt, int_le, nat_lt, nat_le, ◌==◌, List, [], ◌∷◌, ◌++◌, length, map, slice_get, slice_index_or, Option, Some, None, Ok, Err, IfOk, IfSome, refl, sym, ap, ◌∙◌, subst, append_assoc, append-nil}
use Rattle.std.specs.List.{list_all}
use Rattle.std.specs.Fmt.{signed_decimal}
use Rattle.std.specs.Ordering.{int_eq}
use Rattle.std.proofs.lemmas.Bool.{and_parts, cond_both, ltb-true}
use Rattle.std.proofs.lemmas.List.{map-append}
use Rattle.std.proofs.lemmas.Option.{slice_get-get_or, get_or_from_slice_get}
use Rattle.std.proofs.lemmas.Result.{IfOk-weaker}
use Rattle.aria_base.specs.Kinds.{value_kind}
use Rattle.aria_base.specs.declared.limits.TheConstants.{LONGEST_TEXT}
use Rattle.aria_base.specs.declared.calls.Arg.{Arg}
use Rattle.aria_base.specs.declared.calls.Arg.TheVariants as arg
use Rattle.aria_base.specs.declared.calls.Request.{Request}
use Rattle.aria_base.specs.declared.values.Value.{Value}
use Rattle.aria_base.specs.declared.values.Value.TheVariants as value
use Rattle.aria_base.specs.declared.values.Kind.{Kind}
use Rattle.aria_base.specs.declared.values.Kind.TheVariants.{Int, Text}
use Rattle.proc_lang.specs.declared.ends.Trap.TheVariants.{Overflow, Zero, Long}
use Rattle.proc_lang.specs.declared.flaws.TheConstants.{KIND, ARGUMENT, REGISTER}
use Rattle.proc_lang.specs.declared.procs.ArgKind.{ArgKind}
use Rattle.proc_lang.specs.declared.procs.ArgKind.TheVariants as kind
use Rattle.proc_lang.specs.declared.operators.Operand.{Operand}
use Rattle.proc_lang.specs.declared.operators.Operand.TheVariants as source
use Rattle.proc_lang.specs.declared.operators.UnaryOp.{UnaryOp}
use Rattle.proc_lang.specs.declared.operators.UnaryOp.TheVariants as unary
use Rattle.proc_lang.specs.declared.operators.BinaryOp.{BinaryOp}
use Rattle.proc_lang.specs.declared.operators.BinaryOp.TheVariants as binary
use Rattle.proc_lang.specs.Terms.{Term}
use Rattle.proc_lang.specs.Terms as term
use Rattle.proc_lang.specs.Values.{Got, got, both, int_of, text_of, is_true, truth, same_value, number, divided, remainder, quotient, joined, front, is_i64, value_of_arg, tuples_of}
use Rattle.proc_lang.specs.Meaning.{by_unary, by_binary, named_value, value_of, values_after}
use Rattle.proc_lang.specs.Typing.{Typed, Scope, Set, found, wanted, plain_kind, width_of, argument_width, by_one, by_two, by_three, by_equals, same_kind, named_kind, unary_kind, binary_kind, kind_of, kinds_after}
use Rattle.proc_lang.specs.Catalogs.{arg_fits, args_fit}
use Rattle.proc_sound.specs.Careful.{Sure, there, and_then, pair, as_int, as_text, as_plain, as_list, alike, on_int, on_ints, on_three, on_texts, on_equals, careful_unary, careful_binary, careful_named, careful_value, careful_values}
use Rattle.proc_sound.specs.Laws.{shape_fits}
use Rattle.proc_sound.proofs.Lists.{same_kind-decides, kind_at, IsSet}
use Rattle.proc_sound.proofs.Results.{got_ok, wanted_ok, found_is, IsSure, then_sure, pair_sure, Sound}

-- the value is of the kind
abbrev pub Is : Kind → Value → Type 0
Is k v = value_kind v ≡ k

abbrev Are : Kind × Kind → Value × Value → Type 0
Are k p = Is k.0 p.0 × Is k.1 p.1

abbrev pub Values : List Kind → List Value → Type 0
Values ks vs = map value_kind vs ≡ ks

-- each of the tuples has so many numbers
abbrev pub Tuples : ℕ → List (List ℤ) → Type 0
Tuples width tuples = list_all (λ t. length t == width) tuples ≡ true

-- ---- operators

pair_sound : {K L A B : Type 0} {P : K → A → Type 0} {Q : L → B → Type 0} (ka : Typed K) (kb : Typed L) {ca : Sure A} {cb : Sure B} {va : Got A} {vb : Got B}
    → Sound P ka ca va → Sound Q kb cb vb
    → Sound (λ (k : K × L) x. P k.0 x.0 × Q k.1 x.1) (both ka kb) (pair ca cb) (both va vb)
pair_sound {P = P} {Q = Q} (Ok k) (Ok l) {va = va} {vb = vb} s t = record { holds = pair_sure (P k) (Q l) va vb s.holds t.holds }
pair_sound (Ok k) (Err e) s t = record { holds = tt }
pair_sound (Err e) kb s t = record { holds = tt }

-- operands that pass typing's test make an operation that is not stuck
operator : {K A : Type 0} {P : K → A → Type 0} (test : K → Bool) (g : Kind) (go' : A → Sure Value) (go : A → Got Value)
    → ((k : K) (x : A) → test k ≡ true → P k x → IsSure (Is g) (go' x) (go x))
    → (typed : Typed K) {c : Sure A} {v : Got A} → Sound P typed c v
    → Sound Is (got typed (λ k. got (wanted KIND (test k)) (λ _. Ok g))) (and_then c go') (got v go)
operator {P = P} test g go' go ok (Ok k) {c} {v} s = record {
  holds =
      wanted_ok KIND (test k) (λ _. Ok g) (λ k. IsSure (Is k) (and_then c go') (got v go)) (λ e. then_sure (P k) (Is g) v go' go s.holds (λ x p. ok k x e p));
}
operator test g go' go ok (Err e) s = record { holds = tt }

same_is : (k l : Kind) (v : Value) → same_kind k l ≡ true → Is k v → Is l v
same_is k l v e is = is ∙ (same_kind-decides k l).0 e

pub as_int_is : (v : Value) → Is Int v → as_int v ≡ Some (Ok (int_of v))
as_int_is (value.Int n) e = refl
as_int_is (value.Text bytes) e = cc

as_text_is : (v : Value) → Is Text v → as_text v ≡ Some (Ok (text_of v))
as_text_is (value.Int n) e = cc
as_text_is (value.Text bytes) e = refl

alike_is : (v w : Value) → value_kind v ≡ value_kind w → alike v w ≡ Some (Ok (same_value v w))
alike_is (value.Int x) (value.Int y) e = refl
alike_is (value.Int x) (value.Text y) e = cc
alike_is (value.Text x) (value.Int y) e = cc
alike_is (value.Text x) (value.Text y) e = refl

int_sound : (g : Kind) (op : ℤ → Got Value) → ((x : ℤ) → IfOk (op x) (Is g)) → (ka : Typed Kind) {ca : Sure Value} {va : Got Value} → Sound Is ka ca va
    → Sound Is (by_one Int g ka) (and_then ca (on_int op)) (got va (λ v. op (int_of v)))
int_sound g op ok ka s = operator (λ k. same_kind k Int) g (on_int op) (λ v. op (int_of v))
    (λ k v e is. rw (as_int_is v (same_is k Int v e is)) (record { same = refl; value = ok (int_of v) })) ka s

ints_sound : (op : ℤ → ℤ → Got Value) → ((x y : ℤ) → IfOk (op x y) (Is Int)) → (ka kb : Typed Kind) {ca cb : Sure Value} {va vb : Got Value}
    → Sound Is ka ca va → Sound Is kb cb vb
    → Sound Is (by_two Int Int (both ka kb)) (and_then (pair ca cb) (on_ints op)) (got (both va vb) (λ p. op (int_of p.0) (int_of p.1)))
ints_sound op ok ka kb s t = operator {P = Are} (λ k. same_kind k.0 Int && same_kind k.1 Int) Int (on_ints op) (λ p. op (int_of p.0) (int_of p.1)) (λ k p e is.
    let are = and_parts (same_kind k.0 Int) (same_kind k.1 Int) e in
    rw (as_int_is p.0 (same_is k.0 Int p.0 are.0 is.0), as_int_is p.1 (same_is k.1 Int p.1 are.1 is.1))
    (record { same = refl; value = ok (int_of p.0) (int_of p.1) })) (both ka kb) (pair_sound ka kb s t)

texts_sound : (op : List ℕ → List ℕ → Got Value) → ((x y : List ℕ) → IfOk (op x y) (Is Text)) → (ka kb : Typed Kind) {ca cb : Sure Value} {va vb : Got Value}
    → Sound Is ka ca va → Sound Is kb cb vb
    → Sound Is (by_two Text Text (both ka kb)) (and_then (pair ca cb) (on_texts op)) (got (both va vb) (λ p. op (text_of p.0) (text_of p.1)))
texts_sound op ok ka kb s t = operator {P = Are} (λ k. same_kind k.0 Text && same_kind k.1 Text) Text (on_texts op) (λ p. op (text_of p.0) (text_of p.1))
    (λ k p e is.
    let are = and_parts (same_kind k.0 Text) (same_kind k.1 Text) e in
    rw (as_text_is p.0 (same_is k.0 Text p.0 are.0 is.0), as_text_is p.1 (same_is k.1 Text p.1 are.1 is.1))
    (record { same = refl; value = ok (text_of p.0) (text_of p.1) })) (both ka kb) (pair_sound ka kb s t)

three_sound : (op : ℤ → ℤ → ℤ → Got Value) → ((x y z : ℤ) → IfOk (op x y z) (Is Int)) → (ka kb kc : Typed Kind) {ca cb cd : Sure Value} {va vb vc : Got Value}
    → Sound Is ka ca va → Sound Is kb cb vb → Sound Is kc cd vc
    → Sound Is (by_three (both (both ka kb) kc)) (and_then (pair (pair ca cb) cd) (on_three op))
    (got (both (both va vb) vc) (λ p. op (int_of p.0.0) (int_of p.0.1) (int_of p.1)))
three_sound op ok ka kb kc s t u = operator {P = λ (k : (Kind × Kind) × Kind) (p : (Value × Value) × Value). Are k.0 p.0 × Is k.1 p.1}
    (λ k. same_kind k.0.0 Int && same_kind k.0.1 Int && same_kind k.1 Int) Int (on_three op) (λ p. op (int_of p.0.0) (int_of p.0.1) (int_of p.1)) (λ k p e is.
    let are = and_parts (same_kind k.0.0 Int && same_kind k.0.1 Int) (same_kind k.1 Int) e in
    let first = and_parts (same_kind k.0.0 Int) (same_kind k.0.1 Int) are.0 in
    rw (
      as_int_is p.0.0 (same_is k.0.0 Int p.0.0 first.0 is.0.0),
      as_int_is p.0.1 (same_is k.0.1 Int p.0.1 first.1 is.0.1),
      as_int_is p.1 (same_is k.1 Int p.1 are.1 is.1),
    ) (record { same = refl; value = ok (int_of p.0.0) (int_of p.0.1) (int_of p.1) }))
    (both (both ka kb) kc) (pair_sound (both ka kb) kc (pair_sound ka kb s t) u)

equals_sound : (op : Bool → Got Value) → ((b : Bool) → IfOk (op b) (Is Int)) → (ka kb : Typed Kind) {ca cb : Sure Value} {va vb : Got Value}
    → Sound Is ka ca va → Sound Is kb cb vb
    → Sound Is (by_equals (both ka kb)) (and_then (pair ca cb) (on_equals op)) (got (both va vb) (λ p. op (same_value p.0 p.1)))
equals_sound op ok ka kb s t = operator {P = Are} (λ k. same_kind k.0 k.1) Int (on_equals op) (λ p. op (same_value p.0 p.1)) (λ k p e is.
    rw (alike_is p.0 p.1 (same_is k.0 k.1 p.0 e is.0 ∙ sym is.1)) (record { same = refl; value = ok (same_value p.0 p.1) })) (both ka kb) (pair_sound ka kb s t)

-- ---- what operations give

number_is : (z : ℤ) → IfOk (number z) (Is Int)
number_is z = cond_both (is_i64 z) (Ok (value.Int z)) (Err Overflow) (λ r. IfOk r (Is Int)) (λ e. refl) (λ e. tt)

divided_is : (x y : ℤ) → IfOk (divided x y) (Is Int)
divided_is x y = cond_both (int_eq y (pos 0)) (Err Zero) (number (quotient x y)) (λ r. IfOk r (Is Int)) (λ e. tt) (λ e. number_is (quotient x y))

remainder_is : (x y : ℤ) → IfOk (remainder x y) (Is Int)
remainder_is x y = cond_both (int_eq y (pos 0)) (Err Zero) (Ok (value.Int (x -ℤ y *ℤ quotient x y))) (λ r. IfOk r (Is Int)) (λ e. tt) (λ e. refl)

joined_is : (x y : List ℕ) → IfOk (joined x y) (Is Text)
joined_is x y = cond_both (nat_le (length (x ++ y)) LONGEST_TEXT) (Ok (value.Text (x ++ y))) (Err Long) (λ r. IfOk r (Is Text)) (λ e. refl) (λ e. tt)

-- ---- operators, by their names

unary_sound : (o : UnaryOp) (k : Typed Kind) {c : Sure Value} {v : Got Value} → Sound Is k c v
    → Sound Is (unary_kind o k) (and_then c (careful_unary o)) (got v (λ v. Ok (by_unary o v)))
unary_sound unary.Not = int_sound Int (λ x. Ok (truth (not (is_true (value.Int x))))) (λ x. refl)
unary_sound unary.Show = int_sound Text (λ x. Ok (value.Text (signed_decimal x))) (λ x. refl)

binary_sound : (o : BinaryOp) (ka kb : Typed Kind) {ca cb : Sure Value} {va vb : Got Value} → Sound Is ka ca va → Sound Is kb cb vb
    → Sound Is (binary_kind o (both ka kb)) (and_then (pair ca cb) (careful_binary o)) (got (both va vb) (by_binary o))
binary_sound binary.Add = ints_sound (λ x y. number (x +ℤ y)) (λ x y. number_is (x +ℤ y))
binary_sound binary.Sub = ints_sound (λ x y. number (x -ℤ y)) (λ x y. number_is (x -ℤ y))
binary_sound binary.Mul = ints_sound (λ x y. number (x *ℤ y)) (λ x y. number_is (x *ℤ y))
binary_sound binary.Div = ints_sound divided divided_is
binary_sound binary.Mod = ints_sound remainder remainder_is
binary_sound binary.Eq = equals_sound (λ same. Ok (truth same)) (λ same. refl)
binary_sound binary.Ne = equals_sound (λ same. Ok (truth (not same))) (λ same. refl)
binary_sound binary.Lt = ints_sound (λ x y. Ok (truth (int_lt x y))) (λ x y. refl)
binary_sound binary.Le = ints_sound (λ x y. Ok (truth (int_le x y))) (λ x y. refl)
binary_sound binary.And = ints_sound (λ x y. Ok (truth (is_true (value.Int x) && is_true (value.Int y)))) (λ x y. refl)
binary_sound binary.Or = ints_sound (λ x y. Ok (truth (is_true (value.Int x) || is_true (value.Int y)))) (λ x y. refl)
binary_sound binary.Cat = texts_sound joined joined_is

-- ---- arguments, items and registers

argument_sound : (ks : List ArgKind) (given : List Arg) (n : ℕ) → args_fit ks given ≡ true
    → Sound Is (got (found ARGUMENT (slice_get ks n)) plain_kind) (and_then (there (slice_get given n)) as_plain) (Ok (value_of_arg (slice_get given n)))
argument_sound [] [] n e = record { holds = tt }
argument_sound [] (a ∷ given) n e = record { holds = tt }
argument_sound (k ∷ ks) [] n e = cc
argument_sound (kind.Int ∷ ks) (arg.Int z ∷ given) zero e = record { holds = record { same = refl; value = refl } }
argument_sound (kind.Int ∷ ks) (arg.Text bytes ∷ given) zero e = cc
argument_sound (kind.Int ∷ ks) (arg.List tuples ∷ given) zero e = cc
argument_sound (kind.Text ∷ ks) (arg.Int z ∷ given) zero e = cc
argument_sound (kind.Text ∷ ks) (arg.Text bytes ∷ given) zero e = record { holds = record { same = refl; value = refl } }
argument_sound (kind.Text ∷ ks) (arg.List tuples ∷ given) zero e = cc
argument_sound (kind.List width ∷ ks) (a ∷ given) zero e = record { holds = tt }
argument_sound (k ∷ ks) (a ∷ given) (suc n) e = argument_sound ks given n (and_parts (arg_fits k a) (args_fit ks given) e).1

pub tuples_sound : (ks : List ArgKind) (given : List Arg) (n : ℕ) → args_fit ks given ≡ true
    → Sound Tuples (got (found ARGUMENT (slice_get ks n)) width_of) (and_then (there (slice_get given n)) as_list) (Ok (tuples_of (slice_get given n)))
tuples_sound [] [] n e = record { holds = tt }
tuples_sound [] (a ∷ given) n e = record { holds = tt }
tuples_sound (k ∷ ks) [] n e = cc
tuples_sound (kind.Int ∷ ks) (a ∷ given) zero e = record { holds = tt }
tuples_sound (kind.Text ∷ ks) (a ∷ given) zero e = record { holds = tt }
tuples_sound (kind.List width ∷ ks) (arg.Int z ∷ given) zero e = cc
tuples_sound (kind.List width ∷ ks) (arg.Text bytes ∷ given) zero e = cc
tuples_sound (kind.List width ∷ ks) (arg.List tuples ∷ given) zero e =
    record { holds = record { same = refl; value = (and_parts (list_all (λ t. length t == width) tuples) (args_fit ks given) e).0 } }
tuples_sound (k ∷ ks) (a ∷ given) (suc n) e = tuples_sound ks given n (and_parts (arg_fits k a) (args_fit ks given) e).1

length_sound : (width : Typed ℕ) {c : Sure (List (List ℤ))} {tuples : List (List ℤ)} → Sound Tuples width c (Ok tuples)
    → Sound Is (got width (λ _. Ok Int)) (and_then c (λ tuples. Some (Ok (value.Int (pos (length tuples)))))) (Ok (value.Int (pos (length tuples))))
length_sound (Ok width) s = record { holds = rw s.holds.same (record { same = refl; value = refl }) }
length_sound (Err e) s = record { holds = tt }

item_sound : (tuple : Option ℕ) (item : List ℤ) (n : ℕ) → IfSome tuple (λ width. length item ≡ width)
    → Sound Is (got (found ARGUMENT tuple) (λ width. got (wanted ARGUMENT (nat_lt n width)) (λ _. Ok Int)))
    (and_then (there (slice_get item n)) (λ z. Some (Ok (value.Int z)))) (Ok (value.Int (slice_index_or item n (pos 0))))
item_sound None item n e = record { holds = tt }
item_sound (Some width) item n e = record {
  holds = wanted_ok ARGUMENT (nat_lt n width) (λ _. Ok Int)
      (λ k. IsSure (Is k) (and_then (there (slice_get item n)) (λ z. Some (Ok (value.Int z)))) (Ok (value.Int (slice_index_or item n (pos 0)))))
      (λ l. rw (slice_get-get_or item n (pos 0) (ltb-true n (length item) (ap (nat_lt n) e ∙ l))) (record { same = refl; value = refl }));
}

-- what is known where an expression is evaluated: the tables are within the limits, the arguments fit, the tuple is as wide as its
-- argument's kind says
pub record Context (s : Scope) (r : Request) (item : List ℤ) : Type 0 where
  pub shapes : list_all shape_fits s.tables ≡ true
  pub args : args_fit s.args r.call.args ≡ true
  pub tuple : IfSome s.tuple (λ width. length item ≡ width)

-- the registers of a plain and of a careful run: they are of their kinds, and those that typing finds set are set and equal
pub record Registers (kinds : List Kind) (set : Set) (plain : List Value) (careful : List (Option Value)) : Type 0 where
  pub kinds_are : map value_kind plain ≡ kinds
  pub held : (n : ℕ) → IsSet set n → slice_index_or careful n None ≡ slice_get plain n

module _ {s : Scope} {r : Request} {item : List ℤ} (c : Context s r item) {set : Set} {plain : List Value} {careful : List (Option Value)}
    (regs : Registers s.regs set plain careful) where
  register_sound : (n : ℕ) → Sound Is (got (wanted REGISTER (slice_index_or set n false)) (λ _. found REGISTER (slice_get s.regs n)))
      (there (slice_index_or careful n None)) (Ok (slice_index_or plain n (value.Int (pos 0))))
  register_sound n =
      let Q = λ (k : Kind). IsSure (Is k) (there (slice_index_or careful n None)) (Ok (slice_index_or plain n (value.Int (pos 0)))) in
      record {
        holds = wanted_ok REGISTER (slice_index_or set n false) (λ _. found REGISTER (slice_get s.regs n)) Q (λ e.
            IfOk-weaker (found REGISTER (slice_get s.regs n)) (λ k. slice_get s.regs n ≡ Some k) Q (λ k is.
            let there_is = kind_at plain n k (ap (λ ks. slice_get ks n) regs.kinds_are ∙ is) in
            rw (regs.held n e, there_is.1, get_or_from_slice_get plain n there_is.0 (value.Int (pos 0)) there_is.1)
            (record { same = refl; value = there_is.2 })) (found_is REGISTER (slice_get s.regs n)));
      }

  named_sound : (from : Operand) (n : ℕ) → Sound Is (named_kind s set from n) (careful_named r item careful from n) (Ok (named_value r item plain from n))
  named_sound source.Reg n = register_sound n
  named_sound source.Arg n = argument_sound s.args r.call.args n c.args
  named_sound source.Item n = item_sound s.tuple item n c.tuple
  named_sound source.Len n = length_sound (argument_width s n) (tuples_sound s.args r.call.args n c.args)

  pub sound : (t : Term) → Sound Is (kind_of s set t) (careful_value r item careful t) (value_of r item plain t)
  sound (term.Num z) = record { holds = record { same = refl; value = refl } }
  sound (term.Text bytes) = record { holds = record { same = refl; value = refl } }
  sound term.Me = record { holds = record { same = refl; value = refl } }
  sound (term.Named from n) = named_sound from n
  sound (term.Unary o a) = unary_sound o _ (sound a)
  sound (term.Binary o a b) = binary_sound o _ _ (sound a) (sound b)
  sound (term.MulDiv a b c) = three_sound (λ x y z. divided (x *ℤ y) z) (λ x y z. divided_is (x *ℤ y) z) _ _ _ (sound a) (sound b) (sound c)
  sound (term.Front a b n) = texts_sound (λ x y. Ok (front x y n)) (λ x y. refl) _ _ (sound a) (sound b)

-- ---- lists of expressions

-- the kinds found are those before and more, one an expression, and the values are of them
pub record Found (r : Request) (item : List ℤ) (plain : List Value) (careful : List (Option Value)) (before : List Kind) (ts : List Term)
    (ks : List Kind) : Type 0 where
  pub more : List Kind
  pub are : ks ≡ before ++ more
  pub count : length more ≡ length ts
  pub sure : (done : List Value) → IsSure (Values (map value_kind done ++ more)) (careful_values r item careful done ts) (values_after r item plain done ts)

module _ {s : Scope} {r : Request} {item : List ℤ} (c : Context s r item) {set : Set} {plain : List Value} {careful : List (Option Value)}
    (regs : Registers s.regs set plain careful) where
  pub found_all : (before : List Kind) (ts : List Term) → IfOk (kinds_after s set before ts) (Found r item plain careful before ts)
  found_all before [] = record {
    more = [];
    are = sym (append-nil before);
    count = refl;
    sure =
        λ done. record { same = refl; value = sym (append-nil (map value_kind done)) };
  }
  found_all before (t ∷ ts) = got_ok (kind_of s set t) (λ k. kinds_after s set (before ++ k ∷ []) ts)
      (λ k. IsSure (Is k) (careful_value r item careful t) (value_of r item plain t)) (Found r item plain careful before (t ∷ ts)) (sound c regs t).holds
      (λ k first.
      IfOk-weaker (kinds_after s set (before ++ k ∷ []) ts) (Found r item plain careful (before ++ k ∷ []) ts) (Found r item plain careful before (t ∷ ts))
      (λ ks rest. record {
        more = k ∷ rest.more;
        are = rest.are ∙ append_assoc before (k ∷ []) rest.more;
        count = ap suc rest.count;
        sure = λ done. then_sure (Is k) (Values (map value_kind done ++ k ∷ rest.more)) (value_of r item plain t)
            (λ v. careful_values r item careful (done ++ v ∷ []) ts) (λ v. values_after r item plain (done ++ v ∷ []) ts) first (λ v is.
            subst (λ ks. IsSure (Values ks) (careful_values r item careful (done ++ v ∷ []) ts) (values_after r item plain (done ++ v ∷ []) ts))
            (ap (λ ks. ks ++ rest.more) (map-append value_kind done (v ∷ [])) ∙ append_assoc (map value_kind done) (value_kind v ∷ []) rest.more
            ∙ ap (λ k. map value_kind done ++ k ∷ rest.more) is)
            (rest.sure (done ++ v ∷ [])));
      }) (found_all (before ++ k ∷ []) ts))
