-- Rows that leave alone what is counted, and the one of several numbers whose rows do not.
use Rattle.std.proofs.Common.{◌≡◌, refl, ap, sym, subst, ◌∙◌, ℕ, zero, suc, ◌+◌, ◌<◌, Bool, true, false, nat_lt, ℤ, pos, nat_abs, arith}
use Rattle.std.proofs.Common.{List, [], ◌∷◌, ◌++◌}
use Rattle.rand_pcg.specs.Lcg.{Lcg}
use Rattle.std.specs.Ordering.{int_eq, int_cmp}
use Rattle.std.proofs.lemmas.Cmp.{int_eq_equiv}
use Rattle.std.proofs.lemmas.Map.Lookups.{exact_signed}
use Rattle.std.proofs.lemmas.Map.Views.{tells_apart}
use Rattle.load_gen.specs.Draws.{Drawn}
use Rattle.tpcc_load.specs.Draws.{over}
use Rattle.tpcc_load.specs.Rows.{Row}
use Rattle.tpcc_audit.specs.declared.facts.District.{District}
use Rattle.tpcc_audit.specs.declared.facts.Fact.{Fact}
use Rattle.tpcc_audit.specs.Facts.{fact_of}
use Rattle.tpcc_audit.specs.Books.{same}
use Rattle.tpcc_audit.proofs.Laid.{after, after-append}
use Rattle.tpcc_audit.proofs.Drawn.{Each, each-over}

module _ {A : Type 0} (step : Fact → A → A) where
  -- the row leaves it as it is, whatever it is
  abbrev pub Leaves : Row → Type 0
  Leaves r = (t : A) → step (fact_of r) t ≡ t

  pub after-leaves : (rows : List Row) (t : A) → Each Leaves rows → after step rows t ≡ t
  after-leaves [] t all = refl
  after-leaves (r ∷ rs) t all = ap (after step rs) (all.0 t) ∙ after-leaves rs t all.1

  zoom-by : (b : Bool) (Q : A → Type 0) (j : ℕ) (d : ℕ → Drawn (List Row)) (t : A) (n : ℕ) (xs ys : List Row) → nat_lt j n ≡ b → j < suc n
      → (j < n → Q (after step xs t)) → ((n ≡ j → ⊥) → Each Leaves ys)
      → ((n ≡ j) → Each Leaves xs) → ((n ≡ j) → Q (after step ys t)) → Q (after step (xs ++ ys) t)
  zoom-by true Q j d t n xs ys e h earlier left front here =
      let below : j < n = grind arith in
      subst Q (sym (after-append step xs ys t ∙ after-leaves ys (after step xs t) (left (omega (arith, below))))) (earlier below)
  zoom-by false Q j d t n xs ys e h earlier left front here =
      let is : n ≡ j = grind arith in
      subst Q (sym (after-append step xs ys t ∙ ap (after step ys) (after-leaves xs t (front is)))) (here is)

  -- what is drawn for all numbers but one leaves it, and for that one it comes to something
  pub zoom : (Q : A → Type 0) (j : ℕ) (d : ℕ → Drawn (List Row)) (t : A)
      → ((k : ℕ) → (k ≡ j → ⊥) → (g : Lcg) → Each Leaves (d (k + 1) g).0) → ((g : Lcg) → Q (after step (d (j + 1) g).0 t))
      → (n : ℕ) → j < n → (g : Lcg) → Q (after step (over n d g).0 t)
  unfolding over
  zoom Q j d t others one zero h g = absurd (omega (arith, h))
  zoom Q j d t others one (suc n) h g =
      zoom-by (nat_lt j n) Q j d t n (over n d g).0 (d (n + 1) (over n d g).1).0 refl h
      (λ below. zoom Q j d t others one n below g)
      (λ apart. others n apart (over n d g).1)
      (λ is. each-over Leaves n d (λ k less. others k (omega (arith, less, is))) g)
      (λ is. subst (λ m. Q (after step (d (m + 1) (over n d g).1).0 t)) (sym is) (one (over n d g).1))

-- ---- districts that are not the same

pub int-self : (x : ℤ) → int_eq x x ≡ true
int-self x = int_eq_equiv.refl x

pub int-apart : (a b : ℕ) → (a ≡ b → ⊥) → int_eq (pos a) (pos b) ≡ false
int-apart a b differ =
    elim (int_eq (pos a) (pos b)) as (λ r. int_eq (pos a) (pos b) ≡ r → r ≡ false) [
      | true ↦ λ e. absurd (differ (ap nat_abs (tells_apart {R = int_cmp} exact_signed (pos a) (pos b) e)))
      | false ↦ λ _. refl
    ] refl

pub same-self : (q : District) → same q q ≡ true
same-self q = rw (int-self q.w) (int-self q.d)
