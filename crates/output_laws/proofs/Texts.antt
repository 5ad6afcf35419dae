-- Texts of printed bytes, and what holds such texts alone: values, keys, rows, calls, ends.
use Rattle.std.proofs.Common.{◌≡◌, ℕ, ℤ, zero, suc, pos, negsuc, ◌<◌, Bool, true, false, cond, ◌==◌, List, [], ◌∷◌, ◌++◌, map, take, Option, Some, None, refl, arith}
use Rattle.std.specs.Prelude.{⊤, ◌&&◌, ◌/◌, ◌%◌, nat_le, slice_index_or, slice_set}
use Rattle.std.specs.Fmt.{decimal, signed_decimal, digits, digits_onto, digit_glyph}
use Rattle.std.specs.List.{AllByRecursion, filter}
use Rattle.std.proofs.lemmas.Bool.{and_parts, and_from}
use Rattle.std.proofs.lemmas.Grind.{common_steps}
use Rattle.aria_base.specs.Orders.{Cells}
use Rattle.aria_base.specs.declared.calls.Arg.{Arg}
use Rattle.aria_base.specs.declared.calls.Arg.TheVariants as arg
use Rattle.aria_base.specs.declared.calls.Call.{Call}
use Rattle.aria_base.specs.declared.keys.Key.{Key}
use Rattle.aria_base.specs.declared.keys.Part.{Part}
use Rattle.aria_base.specs.declared.keys.Part.TheVariants as part
use Rattle.aria_base.specs.declared.values.Value.{Value}
use Rattle.aria_base.specs.declared.values.Value.TheVariants as value
use Rattle.proc_lang.specs.declared.ends.End.{End}
use Rattle.proc_lang.specs.declared.ends.End.TheVariants as end
use Rattle.script_text.specs.Forms.{is_printed}

abbrev pub Printed : List ℕ → Type 0
Printed bytes = is_printed bytes ≡ true

abbrev pub PrintedValue : Value → Type 0
PrintedValue (value.Int n) = ⊤
PrintedValue (value.Text bytes) = Printed bytes

abbrev pub PrintedPart : Part → Type 0
PrintedPart (part.Int n) = ⊤
PrintedPart (part.Text bytes) = Printed bytes

abbrev pub PrintedArg : Arg → Type 0
PrintedArg (arg.Int n) = ⊤
PrintedArg (arg.Text bytes) = Printed bytes
PrintedArg (arg.List tuples) = ⊤

abbrev pub PrintedKey : Key → Type 0
PrintedKey key = AllByRecursion PrintedPart key.parts

abbrev pub PrintedCells : Cells → Type 0
PrintedCells row = AllByRecursion PrintedValue row

abbrev pub PrintedRow : Option Cells → Type 0
PrintedRow None = ⊤
PrintedRow (Some row) = PrintedCells row

abbrev pub PrintedCall : Call → Type 0
PrintedCall call = AllByRecursion PrintedArg call.args

abbrev pub PrintedEnd : End → Type 0
PrintedEnd (end.Done gives) = PrintedCells gives
PrintedEnd (end.Back code) = ⊤
PrintedEnd (end.Trap trap) = ⊤

-- ---- bytes

pub joined_printed : (xs ys : List ℕ) → Printed xs → Printed ys → Printed (xs ++ ys)
joined_printed [] ys h k = k
joined_printed (x ∷ xs) ys h k =
    let parts = and_parts (nat_le 32 x && nat_le x 126) (is_printed xs) h in
    and_from (nat_le 32 x && nat_le x 126) (is_printed (xs ++ ys)) parts.0 (joined_printed xs ys parts.1 k)

pub taken_printed : (n : ℕ) (xs : List ℕ) → Printed xs → Printed (take n xs)
taken_printed zero xs h = refl
taken_printed (suc n) [] h = refl
taken_printed (suc n) (x ∷ xs) h =
    let parts = and_parts (nat_le 32 x && nat_le x 126) (is_printed xs) h in
    and_from (nat_le 32 x && nat_le x 126) (is_printed (take n xs)) parts.0 (taken_printed n xs parts.1)

-- ---- numbers

glyph_printed : (d : ℕ) → d < 10 → (nat_le 32 (digit_glyph false d) && nat_le (digit_glyph false d) 126) ≡ true
glyph_printed d h = grind (arith, common_steps, h)

onto_printed : (k n : ℕ) (acc : List ℕ) → Printed acc → Printed (digits_onto k 10 false n acc)
onto_printed zero n acc h = h
onto_printed (suc k) n acc h = by (n / 10 == 0) (onto_printed k (n / 10) (digit_glyph false (n % 10) ∷ acc) more)
  where
    more : Printed (digit_glyph false (n % 10) ∷ acc)
    more = and_from (nat_le 32 (digit_glyph false (n % 10)) && nat_le (digit_glyph false (n % 10)) 126) (is_printed acc)
        (glyph_printed (n % 10) (omega arith)) h

    by : (b : Bool) → Printed (digits_onto k 10 false (n / 10) (digit_glyph false (n % 10) ∷ acc))
        → Printed (cond b (digit_glyph false (n % 10) ∷ acc) (digits_onto k 10 false (n / 10) (digit_glyph false (n % 10) ∷ acc)))
    by true rest = more
    by false rest = rest

pub decimal_printed : (n : ℕ) → Printed (decimal n)
unfolding digits
decimal_printed n = onto_printed 64 n [] refl

pub signed_printed : (z : ℤ) → Printed (signed_decimal z)
signed_printed (pos n) = decimal_printed n
signed_printed (negsuc n) = decimal_printed (suc n)

-- ---- lists

module _ {X : Type 0} (P : X → Type 0) where
  pub all_joined : (xs ys : List X) → AllByRecursion P xs → AllByRecursion P ys → AllByRecursion P (xs ++ ys)
  all_joined [] ys a b = b
  all_joined (x ∷ xs) ys a b = (a.0, all_joined xs ys a.1 b)

  pub all_taken : (n : ℕ) (xs : List X) → AllByRecursion P xs → AllByRecursion P (take n xs)
  all_taken zero xs a = tt
  all_taken (suc n) [] a = tt
  all_taken (suc n) (x ∷ xs) a = (a.0, all_taken n xs a.1)

  pub all_set : (xs : List X) (n : ℕ) (x : X) → P x → AllByRecursion P xs → AllByRecursion P (slice_set xs n x)
  all_set [] n x h a = tt
  all_set (y ∷ ys) zero x h a = (h, a.1)
  all_set (y ∷ ys) (suc n) x h a = (a.0, all_set ys n x h a.1)

  pub all_filtered : (test : X → Bool) (xs : List X) → AllByRecursion P xs → AllByRecursion P (filter test xs)
  all_filtered test [] a = tt
  all_filtered test (x ∷ xs) a = by (test x) (all_filtered test xs a.1)
    where
      by : (b : Bool) → AllByRecursion P (filter test xs) → AllByRecursion P (cond b (x ∷ filter test xs) (filter test xs))
      by true rest = (a.0, rest)
      by false rest = rest

  pub at_or : (xs : List X) (n : ℕ) (x : X) → P x → AllByRecursion P xs → P (slice_index_or xs n x)
  at_or [] n x h a = h
  at_or (y ∷ ys) zero x h a = a.0
  at_or (y ∷ ys) (suc n) x h a = at_or ys n x h a.1

pub all_mapped : {X Y : Type 0} (P : X → Type 0) (Q : Y → Type 0) (f : X → Y) → ((x : X) → P x → Q (f x)) → (xs : List X) → AllByRecursion P xs
    → AllByRecursion Q (map f xs)
all_mapped P Q f each [] a = tt
all_mapped P Q f each (x ∷ xs) a = (each x a.0, all_mapped P Q f each xs a.1)
