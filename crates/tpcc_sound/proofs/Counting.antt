-- What a row that is put does to the tallies of districts and to what was paid to warehouses.
use Rattle.std.proofs.Common.{◌≡◌, refl, sym, ap, ◌∙◌, Bool, true, false, cond, true≢false, if◌then◌else◌, ℤ, pos, ◌+ℤ◌, arith}
use Rattle.std.proofs.Common.{List, [], ◌∷◌, Option, Some, None, is_none}
use Rattle.std.specs.Ordering.{int_eq}
use Rattle.std.specs.FinMap as fin
use Rattle.std.specs.FinMap.Entries as list
use Rattle.std.proofs.lemmas.Int.{ints}
use Rattle.aria_base.proofs.Orders.{key_cmp_total}
use Rattle.aria_base.specs.Orders.{key_cmp, Cells, Database}
use Rattle.aria_base.specs.declared.keys.Key.{Key}
use Rattle.tpcc_audit.specs.declared.facts.District.{District}
use Rattle.tpcc_audit.specs.declared.facts.Fact.{Fact}
use Rattle.tpcc_audit.specs.declared.facts.Fact.TheVariants as fact
use Rattle.tpcc_audit.specs.declared.tallies.Tally.{Tally}
use Rattle.tpcc_audit.specs.Books.{counted, paid_behind, tally_of, paid_to}
use Rattle.tpcc_audit.specs.Facts.{fact_of, facts_of}
use Rattle.tpcc_audit.proofs.Laid.{after, after-step, put-new}
use Rattle.tpcc_audit.proofs.Steps.{count, count-calm, count-commutes, tally-after, pay, pay-calm, pay-commutes, paid-after}
use Rattle.tpcc_sound.proofs.Entries.{Rows, ties, tied, changed, entries-changed}

pub same-Some : (x y : Cells) → Some x ≡ Some y → x ≡ y
same-Some x y e = ap (or_that x) e
  where
    or_that : Cells → Option Cells → Cells
    or_that x (Some y) = y
    or_that x None = x

-- ---- a row at a key that had none

module _ {A : Type 0} (step : Fact → A → A) (calm : (t : A) → step fact.Other t ≡ t)
    (commutes : (f g : Fact) (t : A) → step f (step g t) ≡ step g (step f t)) where
  pub after-new : (db : Database) (k : Key) (v : Cells) (t : A) → fin.get db k ≡ None
      → after step (fin.entries (fin.insert db k v)) t ≡ step (fact_of (k, v)) (after step (fin.entries db) t)
  after-new db k v t none =
      ap (λ es. after step es t) (fin.entries-insert key_cmp_total db k v)
      ∙ put-new step calm commutes k v (fin.entries db) t (sym (fin.get-entries db k) ∙ none)
      ∙ after-step step calm commutes (fin.entries db) (fact_of (k, v)) t

pub tally-new : (q : District) (db : Database) (k : Key) (v : Cells) → fin.get db k ≡ None
    → tally_of q (facts_of (fin.insert db k v)) ≡ counted (fact_of (k, v)) q (tally_of q (facts_of db))
tally-new q db k v none =
    tally-after q (fin.entries (fin.insert db k v))
    ∙ after-new (count q) (count-calm q) (count-commutes q) db k v (tally_of q []) none
    ∙ ap (count q (fact_of (k, v))) (sym (tally-after q (fin.entries db)))

pub paid-new : (w : ℤ) (db : Database) (k : Key) (v : Cells) → fin.get db k ≡ None
    → paid_to w (facts_of (fin.insert db k v)) ≡ paid_behind w (fact_of (k, v)) (paid_to w (facts_of db))
paid-new w db k v none =
    paid-after w (fin.entries (fin.insert db k v))
    ∙ after-new (pay w) (pay-calm w) (pay-commutes w) db k v (pos 0) none
    ∙ ap (pay w (fact_of (k, v))) (sym (paid-after w (fin.entries db)))

-- ---- another row at a key that had one

-- what is counted differs by a shift that all steps leave alone
module _ {A : Type 0} (step : Fact → A → A) (shift : A → A) (moves : (f : Fact) (t : A) → step f (shift t) ≡ shift (step f t)) where
  shifted : (es : Rows) (t : A) → after step es (shift t) ≡ shift (after step es t)
  shifted [] t = refl
  shifted (e ∷ es) t = ap (after step es) (moves (fact_of e) t) ∙ shifted es (step (fact_of e) t)

  after-changed : (k : Key) (v old : Cells) (es : Rows) (t : A) → ((t : A) → step (fact_of (k, v)) t ≡ shift (step (fact_of (k, old)) t))
      → list.find key_cmp k es ≡ Some old → after step (changed k v es) t ≡ shift (after step es t)
  after-changed k v old [] t differs found = absurd (true≢false (ap is_none found))
  after-changed k v old (e ∷ es) t differs found =
      elim (ties k e.0) as (λ b. ties k e.0 ≡ b → cond b (Some e.1) (list.find key_cmp k es) ≡ Some old
      → after step (cond b ((e.0, v) ∷ es) (e ∷ changed k v es)) t ≡ shift (after step (e ∷ es) t)) [
        | true ↦ λ is some.
            ap (after step es) (ap (λ x. step (fact_of (x, v)) t) (sym (tied k e.0 is)) ∙ differs t
            ∙ (λ i. shift (step (fact_of (tied k e.0 is i, sym (same-Some e.1 old some) i)) t)))
            ∙ shifted es (step (fact_of e) t)
        | false ↦ λ other rest. after-changed k v old es (step (fact_of e) t) differs rest
      ] refl found

  pub after-put : (db : Database) (k : Key) (v old : Cells) (t : A) → ((t : A) → step (fact_of (k, v)) t ≡ shift (step (fact_of (k, old)) t))
      → fin.get db k ≡ Some old → after step (fin.entries (fin.insert db k v)) t ≡ shift (after step (fin.entries db) t)
  after-put db k v old t differs there =
      ap (λ es. after step es t) (entries-changed db k v old there)
      ∙ after-changed k v old (fin.entries db) t differs (sym (fin.get-entries db k) ∙ there)

pub tally-changed : (q : District) (db : Database) (k : Key) (v old : Cells)
    → ((t : Tally) → counted (fact_of (k, v)) q t ≡ counted (fact_of (k, old)) q t) → fin.get db k ≡ Some old
    → tally_of q (facts_of (fin.insert db k v)) ≡ tally_of q (facts_of db)
tally-changed q db k v old alike there =
    tally-after q (fin.entries (fin.insert db k v))
    ∙ after-put (count q) (λ t. t) (λ f t. refl) db k v old (tally_of q []) alike there
    ∙ sym (tally-after q (fin.entries db))

moves-by : (w by : ℤ) (f : Fact) (t : ℤ) → paid_behind w f (t +ℤ by) ≡ paid_behind w f t +ℤ by
moves-by w by (fact.Warehouse row) t = refl
moves-by w by (fact.District row) t = at (int_eq row.at.w w)
  where
    at : (b : Bool) → (if b then (t +ℤ by) +ℤ row.ytd else t +ℤ by) ≡ (if b then t +ℤ row.ytd else t) +ℤ by
    at true = omega (arith, ints)
    at false = refl
moves-by w by (fact.Open at order) t = refl
moves-by w by (fact.Order at order lines) t = refl
moves-by w by (fact.Line at) t = refl
moves-by w by fact.Other t = refl

pub paid-changed : (w by : ℤ) (db : Database) (k : Key) (v old : Cells)
    → ((t : ℤ) → paid_behind w (fact_of (k, v)) t ≡ paid_behind w (fact_of (k, old)) t +ℤ by) → fin.get db k ≡ Some old
    → paid_to w (facts_of (fin.insert db k v)) ≡ paid_to w (facts_of db) +ℤ by
paid-changed w by db k v old differs there =
    paid-after w (fin.entries (fin.insert db k v))
    ∙ after-put (pay w) (λ t. t +ℤ by) (moves-by w by) db k v old (pos 0) differs there
    ∙ ap (λ t. t +ℤ by) (sym (paid-after w (fin.entries db)))

-- ---- a row of a table that no audit looks at

pub tally-other : (q : District) (db : Database) (k : Key) (v : Cells) → ((row : Cells) → fact_of (k, row) ≡ fact.Other)
    → tally_of q (facts_of (fin.insert db k v)) ≡ tally_of q (facts_of db)
tally-other q db k v other = at (fin.get db k) refl
  where
    at : (o : Option Cells) → fin.get db k ≡ o → tally_of q (facts_of (fin.insert db k v)) ≡ tally_of q (facts_of db)
    at None none = tally-new q db k v none ∙ ap (λ f. counted f q (tally_of q (facts_of db))) (other v)
    at (Some old) there = tally-changed q db k v old (λ t. (λ i. counted (other v i) q t) ∙ (λ i. counted (sym (other old) i) q t)) there

pub paid-other : (w : ℤ) (db : Database) (k : Key) (v : Cells) → ((row : Cells) → fact_of (k, row) ≡ fact.Other)
    → paid_to w (facts_of (fin.insert db k v)) ≡ paid_to w (facts_of db)
paid-other w db k v other = at (fin.get db k) refl
  where
    at : (o : Option Cells) → fin.get db k ≡ o → paid_to w (facts_of (fin.insert db k v)) ≡ paid_to w (facts_of db)
    at None none = paid-new w db k v none ∙ ap (λ f. paid_behind w f (paid_to w (facts_of db))) (other v)
    at (Some old) there =
        paid-changed w (pos 0) db k v old
        (λ t. (λ i. paid_behind w (other v i) t) ∙ plus-none t ∙ (λ i. paid_behind w (sym (other old) i) t +ℤ pos 0)) there
        ∙ sym (plus-none (paid_to w (facts_of db)))
      where
        plus-none : (t : ℤ) → t ≡ t +ℤ pos 0
        plus-none t = omega (arith, ints)
