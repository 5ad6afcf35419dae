-- What an audit finds where the oldest open order of a district is open no longer.
use Rattle.std.proofs.Common.{◌≡◌, refl, sym, ap, subst, ◌∙◌, ℕ, zero, suc, ◌+◌, ℤ, pos, ◌+ℤ◌, ◌-ℤ◌, Bool, true, false}
use Rattle.std.proofs.Common.{if◌then◌else◌, List, [], ◌∷◌}
use Rattle.std.proofs.Common.{◌++◌, map, length, Option, Some, None, true≢false, arith}
use Rattle.std.specs.Int.{int_max, int_min}
use Rattle.std.specs.List.{filter_map, fold}
use Rattle.std.specs.Ordering.{int_eq, int_cmp}
use Rattle.std.specs.Prelude.{int_lt, ◌<ℤ◌, ◌≤ℤ◌}
use Rattle.std.proofs.lemmas.Bool.{and_parts}
use Rattle.std.proofs.lemmas.Cmp.{int_eq_equiv}
use Rattle.std.proofs.lemmas.Int.{ints}
use Rattle.std.proofs.lemmas.Map.Lookups.{exact_signed}
use Rattle.std.proofs.lemmas.Map.Views.{tells_apart}
use Rattle.tpcc_audit.specs.declared.conditions.Condition.TheVariants as condition
use Rattle.tpcc_audit.specs.declared.facts.District.{District}
use Rattle.tpcc_audit.specs.declared.facts.DistrictRow.{DistrictRow}
use Rattle.tpcc_audit.specs.declared.facts.Fact.{Fact}
use Rattle.tpcc_audit.specs.declared.findings.Audit.{Audit}
use Rattle.tpcc_audit.specs.declared.findings.Audit.TheVariants.{Holds, Fails}
use Rattle.tpcc_audit.specs.Books.{greatest, least, total, warehouses, districts, paid_to, same, order_of, due_of, open_of, line_of}
use Rattle.tpcc_audit.specs.Books.{tally_of, or_nothing}
use Rattle.tpcc_audit.specs.Conditions.{either, first, compared, amount, agrees_if_any, numbers, reach, span, gaps, lines}
use Rattle.tpcc_audit.specs.Conditions.{at_districts}
use Rattle.tpcc_audit.specs.Conditions.{at_warehouses, finding}
use Rattle.tpcc_sound.proofs.Rising.{rises, least-first, greatest-behind, span-enough, less-is}

-- ---- findings that hold

abbrev is_holds : Audit → Bool
is_holds Holds = true
is_holds (Fails c w d wanted found) = false

pub fails-not : (c : ℕ) (w d wanted found : ℤ) → Fails c w d wanted found ≡ Holds → ⊥
fails-not c w d wanted found e = true≢false (sym (ap is_holds e))

pub either-parts : (a b : Audit) → either a b ≡ Holds → (a ≡ Holds) × (b ≡ Holds)
either-parts Holds b e = (refl, e)
either-parts (Fails c w d wanted found) b e = absurd (fails-not c w d wanted found e)

pub either-holds : (a b : Audit) → a ≡ Holds → b ≡ Holds → either a b ≡ Holds
either-holds a b e f = ap (λ a. either a b) e ∙ f

abbrev pub AllHold : List Audit → Type 0
AllHold [] = Unit {0}
AllHold (a ∷ more) = (a ≡ Holds) × AllHold more

pub all-hold : (found : List Audit) → first found ≡ Holds → AllHold found
all-hold [] e = tt
all-hold (a ∷ more) e = let parts = either-parts a (first more) e in (parts.0, all-hold more parts.1)

pub first-holds : (found : List Audit) → AllHold found → first found ≡ Holds
first-holds [] all = refl
first-holds (a ∷ more) all = either-holds a (first more) all.0 (first-holds more all.1)

pub parted : (xs ys : List Audit) → AllHold (xs ++ ys) → AllHold xs × AllHold ys
parted [] ys all = (tt, all)
parted (x ∷ xs) ys all = let rest = parted xs ys all.1 in ((all.0, rest.0), rest.1)

pub joined : (xs ys : List Audit) → AllHold xs → AllHold ys → AllHold (xs ++ ys)
joined [] ys one other = other
joined (x ∷ xs) ys one other = (one.0, joined xs ys one.1 other)

-- what follows at each row
each-row : {R : Type 0} (f h : R → Audit) (rows : List R) → ((r : R) → f r ≡ Holds → h r ≡ Holds) → AllHold (map f rows) → AllHold (map h rows)
each-row f h [] so all = tt
each-row f h (r ∷ rows) so all = (so r all.0, each-row f h rows so all.1)

pub compared-is : (n : ℕ) (at : District) (a b : ℤ) → compared n at a b ≡ Holds → a ≡ b
compared-is n at a b e = elim (int_eq a b) as (λ t. int_eq a b ≡ t → (if t then Holds else Fails n at.w at.d a b) ≡ Holds → a ≡ b) [
  | true ↦ λ is _. tells_apart {R = int_cmp} exact_signed a b is
  | false ↦ λ _ fails. absurd (fails-not n at.w at.d a b fails)
] refl e

pub compared-holds : (n : ℕ) (at : District) (a b : ℤ) → a ≡ b → compared n at a b ≡ Holds
compared-holds n at a b e =
    ap (λ x. compared n at a x) (sym e) ∙ ap (λ t. if t then Holds else Fails n at.w at.d a a) (int_eq_equiv.refl a)

pub same-is : (at q : District) → same at q ≡ true → at ≡ q
same-is at q e =
    let parts = and_parts (int_eq at.w q.w) (int_eq at.d q.d) e in
    let w = tells_apart {R = int_cmp} exact_signed at.w q.w parts.0 in
    let d = tells_apart {R = int_cmp} exact_signed at.d q.d parts.1 in
    λ i. record { w = w i; d = d i }

-- ---- one district

-- the condition on numbers and that on gaps, by the numbers of the orders and of those that are open
abbrev numbers_by : DistrictRow → List ℤ → List ℤ → Audit
numbers_by row orders opens =
    either (compared 2 row.at (row.next -ℤ pos 1) (or_nothing (greatest orders))) (agrees_if_any 2 row.at (row.next -ℤ pos 1) (greatest opens))

abbrev gaps_by : DistrictRow → List ℤ → Audit
gaps_by row opens = span row (length opens) (least opens) (greatest opens)

numbers-less : (row : DistrictRow) (orders : List ℤ) (o : ℤ) (os : List ℤ) → rises o os ≡ true → numbers_by row orders (o ∷ os) ≡ Holds
    → numbers_by row orders os ≡ Holds
numbers-less row orders o [] up e =
    either-holds (compared 2 row.at (row.next -ℤ pos 1) (or_nothing (greatest orders))) Holds
    (either-parts (compared 2 row.at (row.next -ℤ pos 1) (or_nothing (greatest orders))) (agrees_if_any 2 row.at (row.next -ℤ pos 1) (Some o)) e).0 refl
numbers-less row orders o (x ∷ xs) up e =
    let parts = and_parts (int_lt o x) (rises x xs) up in
    ap (λ m. either (compared 2 row.at (row.next -ℤ pos 1) (or_nothing (greatest orders))) (agrees_if_any 2 row.at (row.next -ℤ pos 1) (Some m)))
    (sym (greatest-behind o x xs parts.0)) ∙ e

fewer : (o x top : ℤ) (n : ℕ) → reach o top ≡ pos (suc (suc n)) → o <ℤ x → (x +ℤ pos n) ≤ℤ top → reach x top ≡ pos (suc n)
fewer o x top n all less enough = omega (arith, ints, all, less, enough)

gaps-less : (row : DistrictRow) (o : ℤ) (os : List ℤ) → rises o os ≡ true → gaps_by row (o ∷ os) ≡ Holds → gaps_by row os ≡ Holds
gaps-less row o [] up e = refl
gaps-less row o (x ∷ xs) up e =
    let parts = and_parts (int_lt o x) (rises x xs) up in
    let all : reach o (fold int_max x xs) ≡ pos (suc (suc (length xs))) =
    (λ i. reach (sym (least-first o (x ∷ xs) up) i) (sym (greatest-behind o x xs parts.0) i))
    ∙ compared-is 3 row.at (reach (fold int_min o (x ∷ xs)) (fold int_max o (x ∷ xs))) (pos (suc (suc (length xs)))) e in
    compared-holds 3 row.at (reach (fold int_min x xs) (fold int_max x xs)) (pos (suc (length xs)))
    (ap (λ low. reach low (fold int_max x xs)) (least-first x xs parts.1)
    ∙ fewer o x (fold int_max x xs) (length xs) all (less-is o x parts.0) (span-enough x xs parts.1))

-- ---- the whole

-- The second list of facts tells the same as the first, but that the least open order of a district is missing.
pub record IsClosed (at : District) (o : ℤ) (os : List ℤ) (told left : List Fact) : Type 0 where
  pub warehouses : warehouses left ≡ warehouses told
  pub districts : districts left ≡ districts told
  pub paid : (w : ℤ) → paid_to w left ≡ paid_to w told
  pub orders : (q : District) → filter_map (order_of q) left ≡ filter_map (order_of q) told
  pub due : (q : District) → filter_map (due_of q) left ≡ filter_map (due_of q) told
  pub lines : (q : District) → filter_map (line_of q) left ≡ filter_map (line_of q) told
  pub others : (q : District) → same at q ≡ false → filter_map (open_of q) left ≡ filter_map (open_of q) told
  pub before : filter_map (open_of at) told ≡ o ∷ os
  pub after : filter_map (open_of at) left ≡ os
  pub rising : rises o os ≡ true

module _ (at : District) (o : ℤ) (os : List ℤ) (told left : List Fact) (c : IsClosed at o os told left) where
  amounts-hold : AllHold (at_warehouses told) → AllHold (at_warehouses left)
  amounts-hold all = subst AllHold (λ i. map (λ row. amount row (sym (c.paid row.w) i)) (sym c.warehouses i)) all

  before-at : (q : District) → at ≡ q → filter_map (open_of q) told ≡ o ∷ os
  before-at q here = subst (λ q. filter_map (open_of q) told ≡ o ∷ os) here c.before

  after-at : (q : District) → at ≡ q → filter_map (open_of q) left ≡ os
  after-at q here = subst (λ q. filter_map (open_of q) left ≡ os) here c.after

  numbers-at : (row : DistrictRow) → numbers row (tally_of row.at told) ≡ Holds → numbers row (tally_of row.at left) ≡ Holds
  numbers-at row e =
      let q = row.at in
      elim (same at q) as (λ b. same at q ≡ b → numbers_by row (filter_map (order_of q) left) (filter_map (open_of q) left) ≡ Holds) [
        | true ↦ λ is. (λ i. numbers_by row (c.orders q i) (after-at q (same-is at q is) i))
            ∙ numbers-less row (filter_map (order_of q) told) o os c.rising
            (ap (numbers_by row (filter_map (order_of q) told)) (sym (before-at q (same-is at q is))) ∙ e)
        | false ↦ λ other. (λ i. numbers_by row (c.orders q i) (c.others q other i)) ∙ e
      ] refl

  gaps-at : (row : DistrictRow) → gaps row (tally_of row.at told) ≡ Holds → gaps row (tally_of row.at left) ≡ Holds
  gaps-at row e =
      let q = row.at in
      elim (same at q) as (λ b. same at q ≡ b → gaps_by row (filter_map (open_of q) left) ≡ Holds) [
        | true ↦ λ is. ap (gaps_by row) (after-at q (same-is at q is))
            ∙ gaps-less row o os c.rising (ap (gaps_by row) (sym (before-at q (same-is at q is))) ∙ e)
        | false ↦ λ other. ap (gaps_by row) (c.others q other) ∙ e
      ] refl

  lines-at : (row : DistrictRow) → lines row (tally_of row.at told) ≡ Holds → lines row (tally_of row.at left) ≡ Holds
  lines-at row e = (λ i. compared 4 row.at (total (c.due row.at i)) (pos (length (c.lines row.at i)))) ∙ e

  numbers-hold : AllHold (at_districts condition.Numbers told) → AllHold (at_districts condition.Numbers left)
  numbers-hold all =
      let f : DistrictRow → Audit = λ row. numbers row (tally_of row.at told) in
      let h : DistrictRow → Audit = λ row. numbers row (tally_of row.at left) in
      subst (λ rows. AllHold (map h rows)) (sym c.districts) (each-row f h (districts told) numbers-at all)

  gaps-hold : AllHold (at_districts condition.Gaps told) → AllHold (at_districts condition.Gaps left)
  gaps-hold all =
      let f : DistrictRow → Audit = λ row. gaps row (tally_of row.at told) in
      let h : DistrictRow → Audit = λ row. gaps row (tally_of row.at left) in
      subst (λ rows. AllHold (map h rows)) (sym c.districts) (each-row f h (districts told) gaps-at all)

  lines-hold : AllHold (at_districts condition.Lines told) → AllHold (at_districts condition.Lines left)
  lines-hold all =
      let f : DistrictRow → Audit = λ row. lines row (tally_of row.at told) in
      let h : DistrictRow → Audit = λ row. lines row (tally_of row.at left) in
      subst (λ rows. AllHold (map h rows)) (sym c.districts) (each-row f h (districts told) lines-at all)

  -- where the audit holds before, it holds behind
  pub closed-holds : finding told ≡ Holds → finding left ≡ Holds
  closed-holds e =
      let ws = at_warehouses told in
      let ns = at_districts condition.Numbers told in
      let gs = at_districts condition.Gaps told in
      let ls = at_districts condition.Lines told in
      let l = parted (ws ++ ns ++ gs) ls (all-hold (ws ++ ns ++ gs ++ ls) e) in
      let g = parted (ws ++ ns) gs l.0 in
      let n = parted ws ns g.0 in
      let ws2 = at_warehouses left in
      let ns2 = at_districts condition.Numbers left in
      let gs2 = at_districts condition.Gaps left in
      let ls2 = at_districts condition.Lines left in
      first-holds (ws2 ++ ns2 ++ gs2 ++ ls2) (joined (ws2 ++ ns2 ++ gs2) ls2 (joined (ws2 ++ ns2) gs2
      (joined ws2 ns2 (amounts-hold n.0) (numbers-hold n.1)) (gaps-hold g.1)) (lines-hold l.1))
