-- The least TID that a word tells, and that the words of several keys tell.
use Rattle.std.proofs.Common.{Bool, ◌%◌, mod-eq_of_lt, ◌≡◌, ℕ, ◌+◌, ◌*◌, ◌/◌, ◌<◌, ◌≤◌, ◌⊎◌, inl, inr, ⊎_elim, List, [], ◌∷◌, cond, min, subst, sym, refl, ap, ◌∙◌, arith, Option, Some, None}
use Rattle.std.proofs.lemmas.Bool.{cases_lt, eq-eqb, ne_eqb, lt-ltb, le-ltb}
use Rattle.std.proofs.lemmas.Nat.{div-mul-add, le-div}
use Rattle.std.proofs.Math.Nat.{mul-add-mod_self_right}
use Rattle.aria_base.specs.Reserved.{number_under, tid_under}
use Rattle.aria_base.specs.declared.limits.TheConstants.{TAG_SPAN}
use Rattle.dep_rules.specs.Words.{earlier_only, lesser}
use Rattle.core_machine.specs.Machines.{least_told}

-- r is the least number of which P holds
abbrev pub LeastOf : (ℕ → Type 0) → Option ℕ → Type 0
LeastOf P None = (i : ℕ) → ¬ P i
LeastOf P (Some j) = P j × ((i : ℕ) → P i → j ≤ i)

pub one_least : (P Q : ℕ → Type 0) → ((i : ℕ) → P i → Q i) → ((i : ℕ) → Q i → P i) → (a b : Option ℕ) → LeastOf P a → LeastOf Q b → a ≡ b
one_least P Q to from None None p q = refl
one_least P Q to from None (Some j) p q = absurd (p j (from j q.0))
one_least P Q to from (Some i) None p q = absurd (q i (to i p.0))
one_least P Q to from (Some i) (Some j) p q = let le = p.1 j (from j q.0) in let ge = q.1 i (to i p.0) in let e : i ≡ j = omega arith in
    ap (λ (n : ℕ). Some n) e

pub least_same : (P Q : ℕ → Type 0) → ((i : ℕ) → P i → Q i) → ((i : ℕ) → Q i → P i) → (r : Option ℕ) → LeastOf P r → LeastOf Q r
least_same P Q to from None p = λ i q. p i (from i q)
least_same P Q to from (Some j) p = (to j p.0, λ i q. p.1 i (from i q))

least_lesser : (P Q : ℕ → Type 0) (a b : Option ℕ) → LeastOf P a → LeastOf Q b → LeastOf (λ i. P i ⊎ Q i) (lesser a b)
least_lesser P Q None None p q = λ i s. ⊎_elim (p i) (q i) s
least_lesser P Q None (Some j) p q = (inr q.0, λ i s. ⊎_elim (λ x. absurd (p i x)) (q.1 i) s)
least_lesser P Q (Some i) None p q = (inl p.0, λ n s. ⊎_elim (p.1 n) (λ x. absurd (q n x)) s)
least_lesser P Q (Some i) (Some j) p q = (
  ⊎_elim
      (λ lt. let e : min i j ≡ i = omega arith in subst (λ n. P n ⊎ Q n) (sym e) (inl p.0))
      (λ ge. let e : min i j ≡ j = omega arith in subst (λ n. P n ⊎ Q n) (sym e) (inr q.0))
      (cases_lt i j),
  λ n s. ⊎_elim (λ x. let le = p.1 n x in omega arith) (λ x. let le = q.1 n x in omega arith) s,
)

least_before : (P : ℕ → Type 0) (tid : ℕ) (a : Option ℕ) → LeastOf P a → LeastOf (λ i. P i × (i < tid)) (earlier_only tid a)
least_before P tid None p = λ i s. p i s.0
least_before P tid (Some j) p = ⊎_elim
    (λ lt. subst (λ b. LeastOf (λ i. P i × (i < tid)) (cond b (Some j) None)) (sym (lt-ltb j tid lt)) ((p.0, lt), λ i s. p.1 i s.0))
    (λ ge. subst (λ b. LeastOf (λ i. P i × (i < tid)) (cond b (Some j) None)) (sym (le-ltb j tid ge))
    (λ i s. let le = p.1 i s.0 in let lt = s.1 in omega arith))
    (cases_lt j tid)

-- a word at or above the next tag tells none
no_tid : (tag word : ℕ) → (tag + 1) * TAG_SPAN ≤ word → tid_under tag word ≡ None
no_tid tag word above =
    let more : tag + 1 ≤ word / TAG_SPAN = le-div (tag + 1) word TAG_SPAN (omega arith) above in
    ap (λ b. cond b (Some (word % TAG_SPAN)) None) (ne_eqb (word / TAG_SPAN) tag (λ e. omega arith))

tid_of : (tag tid : ℕ) → tid < TAG_SPAN → tid_under tag (number_under tag tid) ≡ Some tid
tid_of tag t within = ap (λ b. cond b (Some (number_under tag t % TAG_SPAN)) None)
    (eq-eqb (number_under tag t / TAG_SPAN) tag (div-mul-add tag TAG_SPAN t within))
    ∙ ap (λ (n : ℕ). Some n) (mul-add-mod_self_right tag TAG_SPAN t ∙ mod-eq_of_lt within)

-- A word that is at most the number of each TID that marks it, and is its start or the number of one of them, tells the least of them
pub word_tells : (P : ℕ → Type 0) (tag first word : ℕ) → (tag + 1) * TAG_SPAN ≤ first → ((i : ℕ) → P i → i < TAG_SPAN)
    → ((i : ℕ) → P i → word ≤ number_under tag i)
    → (word ≡ first) ⊎ ((i : ℕ) × P i × (word ≡ number_under tag i)) → LeastOf P (tid_under tag word)
word_tells P tag first word above small lower (inl e) = subst (LeastOf P) (sym (no_tid tag word (omega (arith, e, above))))
    (λ i p. let le = lower i p in let lt = small i p in omega arith)
word_tells P tag first word above small lower (inr (j, p, e)) =
    subst (LeastOf P) (sym (ap (tid_under tag) e ∙ tid_of tag j (small j p))) (p, λ i q. let le = lower i q in omega arith)

module _ {K : Type 0} (tag : ℕ) (words : K → ℕ) (tid : ℕ) (P : K → ℕ → Type 0) where
  -- P holds of the number at one of the keys
  abbrev pub AtOne : List K → ℕ → Type 0
  AtOne [] i = ⊥
  AtOne (k ∷ ks) i = (P k i × (i < tid)) ⊎ AtOne ks i

  least_from : ((k : K) → LeastOf (P k) (tid_under tag (words k))) → (ks : List K) (B : ℕ → Type 0) (best : Option ℕ) → LeastOf B best
      → LeastOf (λ i. B i ⊎ AtOne ks i) (least_told tag words tid best ks)
  least_from each [] B best b = least_same B (λ i. B i ⊎ ⊥) (λ i h. inl h) (λ i h. ⊎_elim (λ h. h) (λ h. absurd h) h) best b
  least_from each (k ∷ ks) B best b = least_same (λ i. (B i ⊎ (P k i × (i < tid))) ⊎ AtOne ks i) (λ i. B i ⊎ AtOne (k ∷ ks) i)
      (λ i h. ⊎_elim (λ h. ⊎_elim (λ h. inl h) (λ h. inr (inl h)) h) (λ h. inr (inr h)) h)
      (λ i h. ⊎_elim (λ h. inl (inl h)) (λ h. ⊎_elim (λ h. inl (inr h)) (λ h. inr h) h) h) _
      (least_from each ks (λ i. B i ⊎ (P k i × (i < tid))) (lesser best (earlier_only tid (tid_under tag (words k))))
      (least_lesser B (λ i. P k i × (i < tid)) best _ b (least_before (P k) tid _ (each k))))

  pub least_of_keys : ((k : K) → LeastOf (P k) (tid_under tag (words k))) → (ks : List K) → LeastOf (AtOne ks) (least_told tag words tid None ks)
  least_of_keys each ks = least_same (λ i. ⊥ ⊎ AtOne ks i) (AtOne ks) (λ i h. ⊎_elim (λ h. absurd h) (λ h. h) h) (λ i h. inr h) _
      (least_from each ks (λ i. ⊥) None (λ i h. h))
