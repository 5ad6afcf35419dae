-- The finding on books is that on the facts that they keep.
use Rattle.std.proofs.Common.{◌≡◌, refl, ap, sym, ◌∙◌, List, [], ◌∷◌, ◌++◌, map}
use Rattle.tpcc_audit.specs.declared.books.Books.{Books}
use Rattle.tpcc_audit.specs.declared.conditions.Condition.{Condition}
use Rattle.tpcc_audit.specs.declared.conditions.Condition.TheVariants as condition
use Rattle.tpcc_audit.specs.declared.facts.DistrictRow.{DistrictRow}
use Rattle.tpcc_audit.specs.declared.facts.WarehouseRow.{WarehouseRow}
use Rattle.tpcc_audit.specs.declared.facts.Fact.{Fact}
use Rattle.tpcc_audit.specs.declared.findings.Audit.{Audit}
use Rattle.tpcc_audit.specs.declared.findings.Audit.TheVariants.{Holds, Fails}
use Rattle.tpcc_audit.specs.Books.{Keeps, paid_in, tally_in}
use Rattle.tpcc_audit.specs.Conditions.{first, either, amount, at_district, at_districts, at_warehouses, finding}

either-either : (a b c : Audit) → either (either a b) c ≡ either a (either b c)
either-either Holds b c = refl
either-either (Fails n w d wanted found) b c = refl

first-append : (xs ys : List Audit) → first (xs ++ ys) ≡ either (first xs) (first ys)
first-append [] ys = refl
first-append (x ∷ xs) ys = ap (either x) (first-append xs ys) ∙ sym (either-either x (first xs) (first ys))

module _ (kept : Books) (told : List Fact) (k : Keeps kept told) where
  pub amounts-found : (rows : List WarehouseRow) (a : Audit) → rows ≡ kept.warehouses.items
      → a ≡ first (map (λ row. amount row (paid_in kept.paid row.w)) rows) → a ≡ first (at_warehouses told)
  amounts-found rows a are is =
      is ∙ ap (λ rows. first (map (λ row. amount row (paid_in kept.paid row.w)) rows)) are
      ∙ (λ i. first (map (λ row. amount row (k.paid row.w i)) (k.warehouses i)))

  pub districts-found : (c : Condition) (rows : List DistrictRow) (a : Audit) → rows ≡ kept.districts.items
      → a ≡ first (map (λ row. at_district c row (tally_in kept.tallies row.at)) rows) → a ≡ first (at_districts c told)
  districts-found c rows a are is =
      is ∙ ap (λ rows. first (map (λ row. at_district c row (tally_in kept.tallies row.at)) rows)) are
      ∙ (λ i. first (map (λ row. at_district c row (k.tallies row.at i)) (k.districts i)))

-- the four conditions, one behind the other
pub all-found : (told : List Fact) (a n g l : Audit) → a ≡ first (at_warehouses told) → n ≡ first (at_districts condition.Numbers told)
    → g ≡ first (at_districts condition.Gaps told) → l ≡ first (at_districts condition.Lines told) → either (either (either a n) g) l ≡ finding told
all-found told a n g l ea en eg el =
    let ws = at_warehouses told in
    let ns = at_districts condition.Numbers told in
    let gs = at_districts condition.Gaps told in
    let ls = at_districts condition.Lines told in
    (λ i. either (either (either (ea i) (en i)) (eg i)) (el i))
    ∙ ap (λ x. either (either x (first gs)) (first ls)) (sym (first-append ws ns))
    ∙ ap (λ x. either x (first ls)) (sym (first-append (ws ++ ns) gs))
    ∙ sym (first-append (ws ++ ns ++ gs) ls)
