-- Rows that are laid into a database, each at a key of its own as far as an audit looks at it: what their facts come to does not
-- depend on the order of their keys.
use Rattle.std.proofs.Common.{◌≡◌, refl, ap, sym, subst, ◌∙◌, ℕ, ◌+◌, ◌≤◌, Bool, true, false, cond, arith}
use Rattle.std.proofs.Common.{List, [], ◌∷◌, ◌++◌, Some, None}
use Rattle.std.specs.Prelude.{T}
use Rattle.std.specs.List.{AllByRecursion}
use Rattle.std.specs.declared.cmp.Ordering.TheVariants.{Less, Equal, Greater}
use Rattle.std.specs.Ordering.{is_eq}
use Rattle.std.specs.FinMap as fin
use Rattle.std.specs.FinMap.Entries.{put, by_order}
use Rattle.aria_base.specs.Orders.{key_cmp, Cells, Database}
use Rattle.aria_base.specs.declared.keys.Key.{Key}
use Rattle.aria_base.proofs.Orders.{key_cmp_total, key_cmp-IsAntisymmetric}
use Rattle.tbl_rows.proofs.Searched.{apart_stays}
use Rattle.tpcc_load.specs.Rows.{Row, laid}
use Rattle.tpcc_audit.specs.declared.facts.Fact.{Fact}
use Rattle.tpcc_audit.specs.declared.facts.Fact.TheVariants as fact
use Rattle.tpcc_audit.specs.Facts.{fact_of}
use Rattle.tpcc_audit.proofs.Ranks.{is_seen, rank, other_fact, Rises, Rises_by, IsAbsentFrom}

true-false : true ≡ false → ⊥
true-false e = subst T e tt

tied-key : (a b : Key) → key_cmp a b ≡ Equal → a ≡ b
tied-key a b h = key_cmp-IsAntisymmetric a b h

-- ---- what all facts have

module _ (P : Fact → Type 0) where
  abbrev pub EachTells : List Row → Type 0
  EachTells rows = AllByRecursion (λ r. P (fact_of r)) rows

  each-put : (k : Key) (row : Cells) (es : List Row) → P (fact_of (k, row)) → EachTells es → EachTells (put key_cmp k row es)
  each-put k row [] p all = (p, tt)
  each-put k row (e ∷ es) p all =
      elim (key_cmp k e.0) as (λ o. key_cmp k e.0 ≡ o → EachTells (by_order o ((k, row) ∷ e ∷ es) ((e.0, row) ∷ es) (e ∷ put key_cmp k row es))) [
        | Less ↦ λ _. (p, all)
        | Equal ↦ λ o. (subst (λ q. P (fact_of (q, row))) (tied-key k e.0 o) p, all.1)
        | Greater ↦ λ _. (all.0, each-put k row es p all.1)
      ] refl

  pub each-laid : (rows : List Row) (db : Database) → EachTells rows → EachTells (fin.entries db) → EachTells (fin.entries (laid db rows))
  each-laid [] db all before = before
  each-laid (r ∷ rs) db all before =
      each-laid rs (fin.insert db r.0 r.1) all.1
      (subst EachTells (sym (fin.entries-insert key_cmp_total db r.0 r.1)) (each-put r.0 r.1 (fin.entries db) all.0 before))

-- ---- what all facts come to

-- after each row's step, from the front
abbrev pub after : {A : Type 0} → (Fact → A → A) → List Row → A → A
after step [] t = t
after step (r ∷ rs) t = after step rs (step (fact_of r) t)

pub after-append : {A : Type 0} (step : Fact → A → A) (xs ys : List Row) (t : A) → after step (xs ++ ys) t ≡ after step ys (after step xs t)
after-append step [] ys t = refl
after-append step (x ∷ xs) ys t = after-append step xs ys (step (fact_of x) t)

module _ {A : Type 0} (step : Fact → A → A) (calm : (t : A) → step fact.Other t ≡ t)
    (commutes : (f g : Fact) (t : A) → step f (step g t) ≡ step g (step f t)) where
  pub after-step : (rs : List Row) (f : Fact) (t : A) → after step rs (step f t) ≡ step f (after step rs t)
  after-step [] f t = refl
  after-step (r ∷ rs) f t = ap (after step rs) (commutes (fact_of r) f t) ∙ after-step rs f (step (fact_of r) t)

  calm-row : (r : Row) (t : A) → is_seen r.0 ≡ false → step (fact_of r) t ≡ t
  calm-row r t h = ap (λ f. step f t) (other_fact r h) ∙ calm t

  pub after-unseen : (rs : List Row) (t : A) → AllByRecursion (λ r. is_seen r.0 ≡ false) rs → after step rs t ≡ t
  after-unseen [] t all = refl
  after-unseen (r ∷ rs) t all = ap (after step rs) (calm-row r t all.0) ∙ after-unseen rs t all.1

  pub put-new : (k : Key) (row : Cells) (es : List Row) (t : A) → fin.find key_cmp k es ≡ None
      → after step (put key_cmp k row es) t ≡ after step es (step (fact_of (k, row)) t)
  put-new k row [] t none = refl
  put-new k row (e ∷ es) t none =
      elim (key_cmp k e.0) as (λ o. cond (is_eq o) (Some e.1) (fin.find key_cmp k es) ≡ None
      → after step (by_order o ((k, row) ∷ e ∷ es) ((e.0, row) ∷ es) (e ∷ put key_cmp k row es)) t ≡ after step (e ∷ es) (step (fact_of (k, row)) t)) [
        | Less ↦ λ _. refl
        | Equal ↦ λ some. cc
        | Greater ↦ λ rest. put-new k row es (step (fact_of e) t) rest ∙ ap (after step es) (commutes (fact_of (k, row)) (fact_of e) t)
      ] none

  put-unseen : (k : Key) (row : Cells) (es : List Row) (t : A) → is_seen k ≡ false → after step (put key_cmp k row es) t ≡ after step es t
  put-unseen k row [] t h = calm-row (k, row) t h
  put-unseen k row (e ∷ es) t h =
      elim (key_cmp k e.0) as (λ o. key_cmp k e.0 ≡ o
      → after step (by_order o ((k, row) ∷ e ∷ es) ((e.0, row) ∷ es) (e ∷ put key_cmp k row es)) t ≡ after step (e ∷ es) t) [
        | Less ↦ λ _. ap (λ u. after step es (step (fact_of e) u)) (calm-row (k, row) t h)
        | Equal ↦ λ o.
            let h' : is_seen e.0 ≡ false = ap is_seen (sym (tied-key k e.0 o)) ∙ h in
            ap (after step es) (calm-row (e.0, row) t h' ∙ sym (calm-row e t h'))
        | Greater ↦ λ _. put-unseen k row es (step (fact_of e) t) h
      ] refl

  step-row : (b : Bool) (r : Row) (rs : List Row) (db : Database) (low high : ℕ) (t : A) → is_seen r.0 ≡ b → IsAbsentFrom low db
      → Rises_by b low r.0 (λ n. Rises n rs high) → ((low : ℕ) → IsAbsentFrom low (fin.insert db r.0 r.1) → Rises low rs high
      → after step (fin.entries (laid (fin.insert db r.0 r.1) rs)) t ≡ after step rs (after step (fin.entries (fin.insert db r.0 r.1)) t))
      → after step (fin.entries (laid (fin.insert db r.0 r.1) rs)) t ≡ after step rs (step (fact_of r) (after step (fin.entries db) t))
  step-row true r rs db low high t s absent rises rest =
      rest (rank r.0 + 1)
      (λ q seen above. fin.get-insert key_cmp_total db r.0 r.1 q
      ∙ apart_stays q r.0 (Some r.1) (fin.get db q) (λ e. subst (λ k. rank r.0 + 1 ≤ rank k → ⊥) (sym e) (λ h. omega (arith, h)) above)
      ∙ absent q seen (omega (arith, above, rises.0)))
      rises.1
      ∙ ap (after step rs) (ap (λ es. after step es t) (fin.entries-insert key_cmp_total db r.0 r.1)
      ∙ put-new r.0 r.1 (fin.entries db) t (sym (fin.get-entries db r.0) ∙ absent r.0 s rises.0)
      ∙ after-step (fin.entries db) (fact_of r) t)
  step-row false r rs db low high t s absent rises rest =
      rest low
      (λ q seen above. fin.get-insert key_cmp_total db r.0 r.1 q
      ∙ apart_stays q r.0 (Some r.1) (fin.get db q) (λ e. true-false (sym seen ∙ ap is_seen e ∙ s))
      ∙ absent q seen above)
      rises
      ∙ ap (after step rs) (ap (λ es. after step es t) (fin.entries-insert key_cmp_total db r.0 r.1)
      ∙ put-unseen r.0 r.1 (fin.entries db) t s ∙ sym (calm-row r (after step (fin.entries db) t) s))

  pub after-laid : (rows : List Row) (db : Database) (low high : ℕ) (t : A) → IsAbsentFrom low db → Rises low rows high
      → after step (fin.entries (laid db rows)) t ≡ after step rows (after step (fin.entries db) t)
  after-laid [] db low high t absent rises = refl
  after-laid (r ∷ rs) db low high t absent rises =
      step-row (is_seen r.0) r rs db low high t refl absent rises (λ n absent' rises'. after-laid rs (fin.insert db r.0 r.1) n high t absent' rises')
