-- What the rows come to, with one fact more.
use Rattle.std.proofs.Common.{◌≡◌, refl, ap, sym, ◌∙◌, ℕ, ◌+◌, ◌<◌, Bool, true, false, if◌then◌else◌, ℤ, pos, ◌+ℤ◌, arith}
use Rattle.std.proofs.Common.{List, [], ◌∷◌, ◌++◌, length, map, take, get_or, Option, Some, None, length-append}
use Rattle.std.proofs.lemmas.List.{append-nil, map-append, take_more}
use Rattle.std.proofs.lemmas.List.Elements.{filter_map-append}
use Rattle.std.proofs.lemmas.List.Sums.{fold-append}
use Rattle.std.proofs.lemmas.Int.{ints}
use Rattle.std.specs.List.{filter_map, cons_option}
use Rattle.std.specs.Int.{int_max, int_min}
use Rattle.std.specs.Ordering.{int_eq}
use Rattle.tpcc_audit.specs.declared.facts.District.{District}
use Rattle.tpcc_audit.specs.declared.facts.Fact.{Fact}
use Rattle.tpcc_audit.specs.declared.facts.Fact.TheVariants as fact
use Rattle.tpcc_audit.specs.declared.tallies.Tally.{Tally}
use Rattle.tpcc_audit.specs.declared.books.Books.{Books}
use Rattle.tpcc_audit.specs.Books.{total, greatest, least, greater, lesser, warehouses, districts, paid_to, same, tally_of, with_order, with_open, with_line, with_found, counted, paid_behind, Keeps, IsNoted}
use Rattle.tpcc_audit.specs.Books.{order_of, due_of, open_of, line_of, paid_within, warehouse_row, district_row}

greatest-more : (xs : List ℤ) (x : ℤ) → greatest (xs ++ x ∷ []) ≡ greater (greatest xs) x
greatest-more [] x = refl
greatest-more (y ∷ ys) x = ap Some (fold-append int_max y ys (x ∷ []))

least-more : (xs : List ℤ) (x : ℤ) → least (xs ++ x ∷ []) ≡ lesser (least xs) x
least-more [] x = refl
least-more (y ∷ ys) x = ap Some (fold-append int_min y ys (x ∷ []))

plus-nothing : (x : ℤ) → x +ℤ pos 0 ≡ pos 0 +ℤ x
plus-nothing x = omega (arith, ints)

plus-plus : (x y z : ℤ) → x +ℤ (y +ℤ z) ≡ (x +ℤ y) +ℤ z
plus-plus x y z = omega (arith, ints)

total-more : (xs : List ℤ) (x : ℤ) → total (xs ++ x ∷ []) ≡ total xs +ℤ x
total-more [] x = plus-nothing x
total-more (y ∷ ys) x = ap (λ s. y +ℤ s) (total-more ys x) ∙ plus-plus y (total ys) x

length-more : {X : Type 0} (xs : List X) (x : X) → length (xs ++ x ∷ []) ≡ length xs + 1
length-more xs x = length-append xs (x ∷ [])

-- what a tally is made of
abbrev tally : List ℤ → List ℤ → List ℤ → List District → Tally
tally orders opens dues lines = record {
  greatest_order = greatest orders;
  greatest_open = greatest opens;
  least_open = least opens;
  open_count = length opens;
  due = total dues;
  lines = length lines;
}

abbrev found : {X : Type 0} → Option X → List X
found None = []
found (Some x) = x ∷ []

found-one : {X : Type 0} (x : Option X) → cons_option x [] ≡ found x
found-one None = refl
found-one (Some x) = refl

more : {X : Type 0} (h : Fact → Option X) (told : List Fact) (f : Fact) → filter_map h (told ++ f ∷ []) ≡ filter_map h told ++ found (h f)
more h told f = filter_map-append h told (f ∷ []) ∙ ap (λ xs. filter_map h told ++ xs) (found-one (h f))

none-more : (O P D : List ℤ) (L : List District) → tally (O ++ []) (P ++ []) (D ++ []) (L ++ []) ≡ tally O P D L
none-more O P D L = λ i. tally (append-nil O i) (append-nil P i) (append-nil D i) (append-nil L i)

order-more : (b : Bool) (O P D : List ℤ) (L : List District) (order lines : ℤ)
    → tally (O ++ found (if b then Some order else None)) (P ++ []) (D ++ found (if b then Some lines else None)) (L ++ [])
    ≡ (if b then with_order (tally O P D L) order lines else tally O P D L)
order-more true O P D L order lines = λ i. record {
  greatest_order = greatest-more O order i;
  greatest_open = greatest (append-nil P i);
  least_open = least (append-nil P i);
  open_count = length (append-nil P i);
  due = total-more D lines i;
  lines = length (append-nil L i);
}
order-more false O P D L order lines = none-more O P D L

opened-more : (b : Bool) (O P D : List ℤ) (L : List District) (order : ℤ)
    → tally (O ++ []) (P ++ found (if b then Some order else None)) (D ++ []) (L ++ [])
    ≡ (if b then with_open (tally O P D L) order else tally O P D L)
opened-more true O P D L order = λ i. record {
  greatest_order = greatest (append-nil O i);
  greatest_open = greatest-more P order i;
  least_open = least-more P order i;
  open_count = length-more P order i;
  due = total (append-nil D i);
  lines = length (append-nil L i);
}
opened-more false O P D L order = none-more O P D L

line-more : (b : Bool) (O P D : List ℤ) (L : List District) (at : District)
    → tally (O ++ []) (P ++ []) (D ++ []) (L ++ found (if b then Some at else None))
    ≡ (if b then with_line (tally O P D L) else tally O P D L)
line-more true O P D L at = λ i. record {
  greatest_order = greatest (append-nil O i);
  greatest_open = greatest (append-nil P i);
  least_open = least (append-nil P i);
  open_count = length (append-nil P i);
  due = total (append-nil D i);
  lines = length-more L at i;
}
line-more false O P D L at = none-more O P D L

module _ (q : District) (told : List Fact) where
  parts : (f : Fact) → tally_of q (told ++ f ∷ [])
      ≡ tally (filter_map (order_of q) told ++ found (order_of q f)) (filter_map (open_of q) told ++ found (open_of q f))
      (filter_map (due_of q) told ++ found (due_of q f)) (filter_map (line_of q) told ++ found (line_of q f))
  parts f = λ i. tally (more (order_of q) told f i) (more (open_of q) told f i) (more (due_of q) told f i) (more (line_of q) told f i)

  by_kind : (f : Fact) → tally (filter_map (order_of q) told ++ found (order_of q f)) (filter_map (open_of q) told ++ found (open_of q f))
      (filter_map (due_of q) told ++ found (due_of q f)) (filter_map (line_of q) told ++ found (line_of q f)) ≡ counted f q (tally_of q told)
  by_kind (fact.Warehouse row) = none-more (filter_map (order_of q) told) (filter_map (open_of q) told) (filter_map (due_of q) told)
      (filter_map (line_of q) told)
  by_kind (fact.District row) = none-more (filter_map (order_of q) told) (filter_map (open_of q) told) (filter_map (due_of q) told)
      (filter_map (line_of q) told)
  by_kind (fact.Open at order) = opened-more (same at q) (filter_map (order_of q) told) (filter_map (open_of q) told) (filter_map (due_of q) told)
      (filter_map (line_of q) told) order
  by_kind (fact.Order at order lines) = order-more (same at q) (filter_map (order_of q) told) (filter_map (open_of q) told) (filter_map (due_of q) told)
      (filter_map (line_of q) told) order lines
  by_kind (fact.Line at) = line-more (same at q) (filter_map (order_of q) told) (filter_map (open_of q) told) (filter_map (due_of q) told)
      (filter_map (line_of q) told) at
  by_kind fact.Other = none-more (filter_map (order_of q) told) (filter_map (open_of q) told) (filter_map (due_of q) told) (filter_map (line_of q) told)

  pub tally-more : (f : Fact) → tally_of q (told ++ f ∷ []) ≡ counted f q (tally_of q told)
  tally-more f = parts f ∙ by_kind f

with-found : {X : Type 0} (xs : List X) (x : Option X) → xs ++ found x ≡ with_found xs x
with-found xs None = append-nil xs
with-found xs (Some x) = refl

warehouses-more : (told : List Fact) (f : Fact) → warehouses (told ++ f ∷ []) ≡ with_found (warehouses told) (warehouse_row f)
warehouses-more told f = more warehouse_row told f ∙ with-found (warehouses told) (warehouse_row f)

districts-more : (told : List Fact) (f : Fact) → districts (told ++ f ∷ []) ≡ with_found (districts told) (district_row f)
districts-more told f = more district_row told f ∙ with-found (districts told) (district_row f)

paid-more : (w : ℤ) (told : List Fact) (f : Fact) → paid_to w (told ++ f ∷ []) ≡ total (filter_map (paid_within w) told ++ found (paid_within w f))
paid-more w told f = ap total (more (paid_within w) told f)

paid-raised : (b : Bool) (xs : List ℤ) (ytd : ℤ) → total (xs ++ found (if b then Some ytd else None)) ≡ (if b then total xs +ℤ ytd else total xs)
paid-raised true xs ytd = total-more xs ytd
paid-raised false xs ytd = ap total (append-nil xs)

pub paid-one : (w : ℤ) (told : List Fact) (f : Fact) → paid_to w (told ++ f ∷ []) ≡ paid_behind w f (paid_to w told)
paid-one w told (fact.Warehouse row) = paid-more w told (fact.Warehouse row) ∙ paid-raised false (filter_map (paid_within w) told) (pos 0)
paid-one w told (fact.District row) = paid-more w told (fact.District row) ∙ paid-raised (int_eq row.at.w w) (filter_map (paid_within w) told) row.ytd
paid-one w told (fact.Open at order) = paid-more w told (fact.Open at order) ∙ paid-raised false (filter_map (paid_within w) told) (pos 0)
paid-one w told (fact.Order at order lines) = paid-more w told (fact.Order at order lines) ∙ paid-raised false (filter_map (paid_within w) told) (pos 0)
paid-one w told (fact.Line at) = paid-more w told (fact.Line at) ∙ paid-raised false (filter_map (paid_within w) told) (pos 0)
paid-one w told fact.Other = paid-more w told fact.Other ∙ paid-raised false (filter_map (paid_within w) told) (pos 0)

-- books that took one more fact
pub kept-more : (before after : Books) (told : List Fact) (f : Fact) → IsNoted before f after → Keeps before told → Keeps after (told ++ f ∷ [])
kept-more before after told f noted kept = record {
  warehouses = noted.warehouses ∙ ap (λ xs. with_found xs (warehouse_row f)) kept.warehouses ∙ sym (warehouses-more told f);
  districts = noted.districts ∙ ap (λ xs. with_found xs (district_row f)) kept.districts ∙ sym (districts-more told f);
  paid = λ w. noted.paid w ∙ ap (paid_behind w f) (kept.paid w) ∙ sym (paid-one w told f);
  tallies = λ q. noted.tallies q ∙ ap (counted f q) (kept.tallies q) ∙ sym (tally-more q told f);
}

-- what the rows before the next one tell, and that one
pub told-more : {X Y : Type 0} (g : Y → Fact) (h : X → Y) (xs : List X) (i : ℕ) (x : X) (f : Fact) → i < length xs → f ≡ g (h (get_or xs i x))
    → map g (map h (take (i + 1) xs)) ≡ map g (map h (take i xs)) ++ f ∷ []
told-more g h xs i x f below is =
    ap (λ ts. map g (map h ts)) (take_more xs i x below)
    ∙ ap (map g) (map-append h (take i xs) (get_or xs i x ∷ []))
    ∙ map-append g (map h (take i xs)) (h (get_or xs i x) ∷ [])
    ∙ ap (λ y. map g (map h (take i xs)) ++ y ∷ []) (sym is)
