-- Keys and rows that passed for answers have the kinds of their table.
use Rattle.std.proofs.Common.{◌≡◌, refl, sym, ap, ◌∙◌, ℕ, ◌-◌, min, ℤ, true, ◌&&◌, eqb, List, [], ◌∷◌, ◌++◌, map}
use Rattle.std.proofs.Common.{length}
use Rattle.std.proofs.Common.{replicate, take, drop, true≢false, take-append-drop, length-take, length-drop}
use Rattle.std.specs.Prelude.{slice_set}
use Rattle.std.specs.List.{list_all}
use Rattle.std.proofs.lemmas.Bool.{and_parts, eqb-true}
use Rattle.std.proofs.lemmas.List.{map-set, map-append}
use Rattle.aria_base.specs.Kinds.{part_kind, value_kind}
use Rattle.aria_base.specs.Orders.{Cells}
use Rattle.aria_base.specs.declared.keys.Part.{Part}
use Rattle.aria_base.specs.declared.keys.Part.TheVariants as part
use Rattle.aria_base.specs.declared.values.Kind.TheVariants as kind
use Rattle.aria_base.specs.declared.values.Value.TheVariants as value
use Rattle.tpcc_routines.specs.Answers.{is_number, is_text, is_number_part, are_numbers, is_customer}
use Rattle.tpcc_routines.specs.Routines.{with_number}

all_numbers : (row : Cells) → list_all is_number row ≡ true → map value_kind row ≡ replicate (length row) kind.Int
all_numbers [] e = refl
all_numbers (value.Int n ∷ row) e = ap (λ kinds. kind.Int ∷ kinds) (all_numbers row e)
all_numbers (value.Text bytes ∷ row) e = absurd (true≢false (sym e))

all_texts : (row : Cells) → list_all is_text row ≡ true → map value_kind row ≡ replicate (length row) kind.Text
all_texts [] e = refl
all_texts (value.Text bytes ∷ row) e = ap (λ kinds. kind.Text ∷ kinds) (all_texts row e)
all_texts (value.Int n ∷ row) e = absurd (true≢false (sym e))

all_number_parts : (parts : List Part) → list_all is_number_part parts ≡ true → map part_kind parts ≡ replicate (length parts) kind.Int
all_number_parts [] e = refl
all_number_parts (part.Int n ∷ parts) e = ap (λ kinds. kind.Int ∷ kinds) (all_number_parts parts e)
all_number_parts (part.Text bytes ∷ parts) e = absurd (true≢false (sym e))

pub numbers_kinds : (columns : ℕ) (row : Cells) → are_numbers columns row ≡ true → map value_kind row ≡ replicate columns kind.Int
numbers_kinds columns row e =
    let both = and_parts (eqb (length row) columns) (list_all is_number row) e in
    all_numbers row both.1 ∙ ap (λ n. replicate n kind.Int) (eqb-true (length row) columns both.0)

pub parts_kinds : (count : ℕ) (parts : List Part) → eqb (length parts) count ≡ true → list_all is_number_part parts ≡ true
    → map part_kind parts ≡ replicate count kind.Int
parts_kinds count parts some all = all_number_parts parts all ∙ ap (λ n. replicate n kind.Int) (eqb-true (length parts) count some)

pub customer_kinds : (row : Cells) → is_customer row ≡ true → map value_kind row ≡ replicate 7 kind.Int ++ kind.Text ∷ []
customer_kinds row e =
    let parts = and_parts (eqb (length row) 8) (list_all is_number (take 7 row) && list_all is_text (drop 7 row)) e in
    let both = and_parts (list_all is_number (take 7 row)) (list_all is_text (drop 7 row)) parts.1 in
    let eight : length row ≡ 8 = eqb-true (length row) 8 parts.0 in
    let seven : length (take 7 row) ≡ 7 = length-take 7 row ∙ ap (min 7) eight in
    let one : length (drop 7 row) ≡ 1 = length-drop 7 row ∙ ap (λ n. n - 7) eight in
    ap (map value_kind) (sym (take-append-drop 7 row)) ∙ map-append value_kind (take 7 row) (drop 7 row)
    ∙ (λ i. all_numbers (take 7 row) both.0 i ++ all_texts (drop 7 row) both.1 i)
    ∙ (λ i. replicate (seven i) kind.Int ++ replicate (one i) kind.Text)

-- a number set in a row
pub with_number-kinds : (row : Cells) (column : ℕ) (n : ℤ) → map value_kind (with_number column n row) ≡ slice_set (map value_kind row) column kind.Int
with_number-kinds row column n = map-set value_kind row column (value.Int n)
