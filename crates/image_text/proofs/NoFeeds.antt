-- The compact text of JSON has no line feed, and a printed line has none.
use Rattle.std.proofs.Common.{◌≡◌, ℕ, zero, suc, ℤ, pos, negsuc, ◌+◌, ◌/◌, ◌%◌, ◌<◌, ◌≤◌, List, [], ◌∷◌, ◌++◌, Bool, true, false, cond, inl, inr, refl, ap, sym, ◌∙◌, arith}
use Rattle.std.specs.Prelude.{◌==◌, ◌&&◌, nat_le, nat_lt, not, decimal}
use Rattle.std.specs.List.{list_all}
use Rattle.std.specs.Fmt.{signed_decimal, digits, digits_onto, digit_glyph}
use Rattle.std.proofs.lemmas.Bool.{and_parts, and_from, ne_eqb, leb-true, cases_lt, cases_eq}
use Rattle.std.proofs.lemmas.List.Folds.{list_all-append}
use Rattle.json.specs.Print.{escape_byte, escape, quoted}
use Rattle.json.proofs.Printed.Strings.{escape_byte_plain}
use Rattle.serde_json.specs.Data.{Data, null, boolean, number, string, array, object, Items, no_items, item, Members, no_members, member, unsigned, negative, float}
use Rattle.serde_json.specs.Written.{compact_text, items_text, members_text, comma_if}
use Rattle.script_text.specs.Cuts.{Lacks}
use Rattle.script_text.specs.Forms.{is_printed}

pub joined : (a b : List ℕ) → Lacks 10 a → Lacks 10 b → Lacks 10 (a ++ b)
joined a b p q = list_all-append (λ c. not (c == 10)) a b ∙ and_from _ _ p q

other : (b : ℕ) → 10 < b → not (b == 10) ≡ true
other b h = ap not (ne_eqb b 10 (omega arith))

pub printed_lacks : (line : List ℕ) → is_printed line ≡ true → Lacks 10 line
printed_lacks [] h = refl
printed_lacks (b ∷ line) h =
    let parts = and_parts (nat_le 32 b && nat_le b 126) (list_all (λ c. nat_le 32 c && nat_le c 126) line) h in
    let low : 32 ≤ b = leb-true 32 b (and_parts (nat_le 32 b) (nat_le b 126) parts.0).0 in
    and_from _ _ (other b (omega arith)) (printed_lacks line parts.1)

-- ---- numbers

glyph_lacks : (d : ℕ) → not (digit_glyph false d == 10) ≡ true
glyph_lacks d = by (nat_lt d 10)
  where
    by : (b : Bool) → not (cond b (48 + d) (87 + d) == 10) ≡ true
    by true = other (48 + d) (omega arith)
    by false = other (87 + d) (omega arith)

digits_lack : (k n : ℕ) (behind : List ℕ) → Lacks 10 behind → Lacks 10 (digits_onto k 10 false n behind)
digits_lack zero n behind h = h
digits_lack (suc k) n behind h =
    let more : Lacks 10 (digit_glyph false (n % 10) ∷ behind) = and_from _ _ (glyph_lacks (n % 10)) h in
    by more (digits_lack k (n / 10) (digit_glyph false (n % 10) ∷ behind) more) (n / 10 == 0)
  where
    by : Lacks 10 (digit_glyph false (n % 10) ∷ behind) → Lacks 10 (digits_onto k 10 false (n / 10) (digit_glyph false (n % 10) ∷ behind)) → (b : Bool)
        → Lacks 10 (cond b (digit_glyph false (n % 10) ∷ behind) (digits_onto k 10 false (n / 10) (digit_glyph false (n % 10) ∷ behind)))
    by last more true = last
    by last more false = more

pub decimal_lacks : (n : ℕ) → Lacks 10 (decimal n)
unfolding digits
decimal_lacks n = digits_lack 64 n [] refl

signed_lacks : (z : ℤ) → Lacks 10 (signed_decimal z)
signed_lacks (pos n) = decimal_lacks n
signed_lacks (negsuc n) = decimal_lacks (suc n)

-- ---- texts

abbrev escapes_below : ℕ → Bool
escapes_below zero = true
escapes_below (suc n) = list_all (λ c. not (c == 10)) (escape_byte n) && escapes_below n

escape_below : (n : ℕ) → escapes_below n ≡ true → (x : ℕ) → x < n → Lacks 10 (escape_byte x)
escape_below zero e x h = absurd (omega arith)
escape_below (suc n) e x h =
    let p = and_parts (list_all (λ c. not (c == 10)) (escape_byte n)) (escapes_below n) e in
    elim (cases_eq x n) [ inl same ↦ rw same p.0 | inr different ↦ escape_below n p.1 x (omega arith) ]

all_below : escapes_below 128 ≡ true
unfolding escape_byte
all_below = refl

byte_lacks : (x : ℕ) → Lacks 10 (escape_byte x)
byte_lacks x = elim (cases_lt x 128) [
  | inl small ↦ escape_below 128 all_below x small
  | inr big ↦
      let plain : escape_byte x ≡ x ∷ [] = escape_byte_plain x (λ e. omega arith) (λ e. omega arith) (omega arith) in
      ap (list_all (λ c. not (c == 10))) plain ∙ and_from _ _ (other x (omega arith)) refl
]

escape_lacks : (s : List ℕ) → Lacks 10 (escape s)
escape_lacks [] = refl
escape_lacks (x ∷ s) = joined (escape_byte x) (escape s) (byte_lacks x) (escape_lacks s)

quoted_lacks : (s : List ℕ) → Lacks 10 (quoted s)
quoted_lacks s = joined (escape s) (34 ∷ []) (escape_lacks s) refl

-- ---- values

comma_lacks : (later : Bool) → Lacks 10 (comma_if later)
comma_lacks true = refl
comma_lacks false = refl

mutual
  pub text_lacks : (d : Data) → Lacks 10 (compact_text d)
  text_lacks null = refl
  text_lacks (boolean true) = refl
  text_lacks (boolean false) = refl
  text_lacks (number (unsigned n)) = decimal_lacks n
  text_lacks (number (negative z)) = signed_lacks z
  text_lacks (number (float x)) = refl
  text_lacks (string s) = quoted_lacks s
  text_lacks (array ds) = items_lack false ds
  text_lacks (object ms) = members_lack false ms

  items_lack : (later : Bool) (ds : Items) → Lacks 10 (items_text later ds)
  items_lack later no_items = refl
  items_lack later (item d ds) =
      joined (comma_if later) (compact_text d ++ items_text true ds) (comma_lacks later)
      (joined (compact_text d) (items_text true ds) (text_lacks d) (items_lack true ds))

  members_lack : (later : Bool) (ms : Members) → Lacks 10 (members_text later ms)
  members_lack later no_members = refl
  members_lack later (member k d ms) =
      joined (comma_if later) (quoted k ++ 58 ∷ (compact_text d ++ members_text true ms)) (comma_lacks later)
      (joined (quoted k) (58 ∷ (compact_text d ++ members_text true ms)) (quoted_lacks k)
      (joined (compact_text d) (members_text true ms) (text_lacks d) (members_lack true ms)))
