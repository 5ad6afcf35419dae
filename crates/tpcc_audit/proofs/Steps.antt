-- What a fact does to a tally and to what was paid, and that the order of facts is of no matter.
use Rattle.std.proofs.Common.{◌≡◌, refl, ap, sym, ◌∙◌, ◌+◌, Bool, true, false, if◌then◌else◌, ℤ, pos, ◌+ℤ◌, arith}
use Rattle.std.proofs.Common.{List, [], ◌∷◌, ◌++◌, map, append_assoc, Option, Some, None}
use Rattle.std.proofs.lemmas.List.{append-nil}
use Rattle.std.proofs.lemmas.Int.{ints, clamps}
use Rattle.std.specs.Int.{int_max, int_min}
use Rattle.std.specs.Ordering.{int_eq}
use Rattle.tpcc_load.specs.Rows.{Row}
use Rattle.tpcc_audit.specs.declared.facts.District.{District}
use Rattle.tpcc_audit.specs.declared.facts.Fact.{Fact}
use Rattle.tpcc_audit.specs.declared.facts.Fact.TheVariants as fact
use Rattle.tpcc_audit.specs.declared.tallies.Tally.{Tally}
use Rattle.tpcc_audit.specs.Facts.{fact_of}
use Rattle.tpcc_audit.specs.Books.{same, greater, lesser, with_order, with_open, with_line, counted, paid_behind, tally_of, paid_to}
use Rattle.tpcc_audit.proofs.Notes.{tally-more, paid-one}
use Rattle.tpcc_audit.proofs.Laid.{after}

-- ---- tallies

max-swap : (z x y : ℤ) → int_max (int_max z x) y ≡ int_max (int_max z y) x
max-swap z x y = omega (arith, ints, clamps)

max-flip : (x y : ℤ) → int_max x y ≡ int_max y x
max-flip x y = omega (arith, ints, clamps)

min-swap : (z x y : ℤ) → int_min (int_min z x) y ≡ int_min (int_min z y) x
min-swap z x y = omega (arith, ints, clamps)

min-flip : (x y : ℤ) → int_min x y ≡ int_min y x
min-flip x y = omega (arith, ints, clamps)

greater-swap : (m : Option ℤ) (x y : ℤ) → greater (greater m x) y ≡ greater (greater m y) x
greater-swap None x y = ap Some (max-flip x y)
greater-swap (Some z) x y = ap Some (max-swap z x y)

lesser-swap : (m : Option ℤ) (x y : ℤ) → lesser (lesser m x) y ≡ lesser (lesser m y) x
lesser-swap None x y = ap Some (min-flip x y)
lesser-swap (Some z) x y = ap Some (min-swap z x y)

plus-swap : (z x y : ℤ) → (z +ℤ x) +ℤ y ≡ (z +ℤ y) +ℤ x
plus-swap z x y = omega (arith, ints)

order-order : (t : Tally) (o l o' l' : ℤ) → with_order (with_order t o' l') o l ≡ with_order (with_order t o l) o' l'
order-order t o l o' l' = λ i. record {
  greatest_order = greater-swap t.greatest_order o' o i;
  greatest_open = t.greatest_open;
  least_open = t.least_open;
  open_count = t.open_count;
  due = plus-swap t.due l' l i;
  lines = t.lines;
}

opened-twice : (t : Tally) (o o' : ℤ) → with_open (with_open t o') o ≡ with_open (with_open t o) o'
opened-twice t o o' = λ i. record {
  greatest_order = t.greatest_order;
  greatest_open = greater-swap t.greatest_open o' o i;
  least_open = lesser-swap t.least_open o' o i;
  open_count = t.open_count + 1 + 1;
  due = t.due;
  lines = t.lines;
}

swap-by : {A : Type 0} (b c : Bool) (F G : A → A) (t : A) → F (G t) ≡ G (F t)
    → (if b then F (if c then G t else t) else (if c then G t else t)) ≡ (if c then G (if b then F t else t) else (if b then F t else t))
swap-by true true F G t h = h
swap-by true false F G t h = refl
swap-by false true F G t h = refl
swap-by false false F G t h = refl

module _ (q : District) where
  abbrev pub count : Fact → Tally → Tally
  count f t = counted f q t

  pub count-calm : (t : Tally) → count fact.Other t ≡ t
  count-calm t = refl

  pub count-commutes : (f g : Fact) (t : Tally) → count f (count g t) ≡ count g (count f t)
  count-commutes (fact.Warehouse row) g t = refl
  count-commutes (fact.District row) g t = refl
  count-commutes fact.Other g t = refl
  count-commutes (fact.Open a o) (fact.Warehouse row) t = refl
  count-commutes (fact.Open a o) (fact.District row) t = refl
  count-commutes (fact.Open a o) fact.Other t = refl
  count-commutes (fact.Open a o) (fact.Open b p) t = swap-by (same a q) (same b q) (λ t. with_open t o) (λ t. with_open t p) t (opened-twice t o p)
  count-commutes (fact.Open a o) (fact.Order b p l) t = swap-by (same a q) (same b q) (λ t. with_open t o) (λ t. with_order t p l) t refl
  count-commutes (fact.Open a o) (fact.Line b) t = swap-by (same a q) (same b q) (λ t. with_open t o) with_line t refl
  count-commutes (fact.Order a o l) (fact.Warehouse row) t = refl
  count-commutes (fact.Order a o l) (fact.District row) t = refl
  count-commutes (fact.Order a o l) fact.Other t = refl
  count-commutes (fact.Order a o l) (fact.Open b p) t = swap-by (same a q) (same b q) (λ t. with_order t o l) (λ t. with_open t p) t refl
  count-commutes (fact.Order a o l) (fact.Order b p m) t =
      swap-by (same a q) (same b q) (λ t. with_order t o l) (λ t. with_order t p m) t (order-order t o l p m)
  count-commutes (fact.Order a o l) (fact.Line b) t = swap-by (same a q) (same b q) (λ t. with_order t o l) with_line t refl
  count-commutes (fact.Line a) (fact.Warehouse row) t = refl
  count-commutes (fact.Line a) (fact.District row) t = refl
  count-commutes (fact.Line a) fact.Other t = refl
  count-commutes (fact.Line a) (fact.Open b p) t = swap-by (same a q) (same b q) with_line (λ t. with_open t p) t refl
  count-commutes (fact.Line a) (fact.Order b p m) t = swap-by (same a q) (same b q) with_line (λ t. with_order t p m) t refl
  count-commutes (fact.Line a) (fact.Line b) t = swap-by (same a q) (same b q) with_line with_line t refl

  tally-from : (rows : List Row) (told : List Fact) → tally_of q (told ++ map fact_of rows) ≡ after count rows (tally_of q told)
  tally-from [] told = ap (tally_of q) (append-nil told)
  tally-from (r ∷ rs) told =
      ap (tally_of q) (sym (append_assoc told (fact_of r ∷ []) (map fact_of rs))) ∙ tally-from rs (told ++ fact_of r ∷ [])
      ∙ ap (after count rs) (tally-more q told (fact_of r))

  pub tally-after : (rows : List Row) → tally_of q (map fact_of rows) ≡ after count rows (tally_of q [])
  tally-after rows = tally-from rows []

-- ---- what was paid

module _ (w : ℤ) where
  abbrev pub pay : Fact → ℤ → ℤ
  pay f sum = paid_behind w f sum

  pub pay-calm : (sum : ℤ) → pay fact.Other sum ≡ sum
  pay-calm sum = refl

  pub pay-commutes : (f g : Fact) (sum : ℤ) → pay f (pay g sum) ≡ pay g (pay f sum)
  pay-commutes (fact.Warehouse row) g sum = refl
  pay-commutes (fact.Open at order) g sum = refl
  pay-commutes (fact.Order at order lines) g sum = refl
  pay-commutes (fact.Line at) g sum = refl
  pay-commutes fact.Other g sum = refl
  pay-commutes (fact.District row) (fact.Warehouse other) sum = refl
  pay-commutes (fact.District row) (fact.Open at order) sum = refl
  pay-commutes (fact.District row) (fact.Order at order lines) sum = refl
  pay-commutes (fact.District row) (fact.Line at) sum = refl
  pay-commutes (fact.District row) fact.Other sum = refl
  pay-commutes (fact.District row) (fact.District other) sum =
      swap-by (int_eq row.at.w w) (int_eq other.at.w w) (λ sum. sum +ℤ row.ytd) (λ sum. sum +ℤ other.ytd) sum (plus-swap sum other.ytd row.ytd)

  paid-from : (rows : List Row) (told : List Fact) → paid_to w (told ++ map fact_of rows) ≡ after pay rows (paid_to w told)
  paid-from [] told = ap (paid_to w) (append-nil told)
  paid-from (r ∷ rs) told =
      ap (paid_to w) (sym (append_assoc told (fact_of r ∷ []) (map fact_of rs))) ∙ paid-from rs (told ++ fact_of r ∷ [])
      ∙ ap (after pay rs) (paid-one w told (fact_of r))

  pub paid-after : (rows : List Row) → paid_to w (map fact_of rows) ≡ after pay rows (pos 0)
  paid-after rows = paid-from rows []
