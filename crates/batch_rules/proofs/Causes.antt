-- What a verdict says in words.
use Rattle.std.proofs.Common.{◌≡◌, ℕ, zero, suc, inl, inr, ◌+◌, ◌-◌, ◌<◌, ◌≤◌, List, [], ◌∷◌, ◌++◌, length, Bool, true, false, cond, Some, None, Option, refl, sym, ap, ◌∙◌, subst, arith}
use Rattle.std.specs.Prelude.{IsSomeAnd, slice_get}
use Rattle.std.specs.List.{All, position_from}
use Rattle.std.specs.Str.TwoWay.{IsFirst, Nowhere}
use Rattle.std.proofs.lemmas.Bool.{cases_lt, false≢true}
use Rattle.std.proofs.lemmas.List.Elements.{All-nil, All-cons}
use Rattle.batch_rules.specs.declared.verdicts.Rule.{Rule}
use Rattle.batch_rules.specs.declared.verdicts.Rule.TheVariants.{Plain, Reorder}
use Rattle.batch_rules.specs.declared.verdicts.Cause.TheVariants.{Waw, Raw, Both}
use Rattle.batch_rules.specs.declared.verdicts.Verdict.{Verdict}
use Rattle.batch_rules.specs.declared.verdicts.Verdict.TheVariants.{Finish, Wait}
use Rattle.batch_rules.specs.Verdicts.{Dependencies, verdict_by, least, verdict_on}
use Rattle.batch_rules.specs.Batches.{Judged, judged}
use Rattle.batch_rules.specs.Laws.{IsLeast, Says, VerdictLaw, CauseBelow, WaitsForEarlier}

module _ {S : Type 0} (holds : S → Bool) where
  abbrev at : ℕ → List S → ℕ → Type 0
  at i items j = IsSomeAnd (slice_get items (j - i)) (λ item. holds item ≡ true)

  -- a place behind the first item, as a place in the rest
  later : (i : ℕ) (x : S) (xs : List S) (j : ℕ) → i < j → at (i + 1) xs j ≡ at i (x ∷ xs) j
  later i x xs j h = let e : suc (j - (i + 1)) ≡ j - i = omega arith in ap (λ n. IsSomeAnd (slice_get (x ∷ xs) n) (λ item. holds item ≡ true)) e

  here : (i : ℕ) (x : S) (xs : List S) (j : ℕ) → j ≤ i → (holds x ≡ true) ≡ at i (x ∷ xs) j
  here i x xs j h = let e : zero ≡ j - i = omega arith in ap (λ n. IsSomeAnd (slice_get (x ∷ xs) n) (λ item. holds item ≡ true)) e

  not_before : (i : ℕ) (x : S) (xs : List S) (n : ℕ) → holds x ≡ false → Nowhere (at (i + 1) xs) (i + 1) n → Nowhere (at i (x ∷ xs)) i n
  not_before i x xs n e h k low high p = elim (cases_lt i k) [
    | inl behind ↦ h k (omega arith) high (subst (λ P. P) (sym (later i x xs k behind)) p)
    | inr at_i ↦ false≢true (sym e ∙ subst (λ P. P) (sym (here i x xs k at_i)) p)
  ]

  first_behind : (i : ℕ) (x : S) (xs : List S) (r : Option ℕ) → holds x ≡ false → IsFirst (at (i + 1) xs) (i + 1) (length xs + (i + 1)) r
      → IsFirst (at i (x ∷ xs)) i (length (x ∷ xs) + i) r
  first_behind i x xs None e h = not_before i x xs _ e (λ k low high. h k low (omega arith))
  first_behind i x xs (Some k) e h = (
    record { low = let low = h.0.low in omega arith; high = let high = h.0.high in omega arith; before = not_before i x xs k e h.0.before },
    subst (λ P. P) (later i x xs k (let low = h.0.low in omega arith)) h.1,
  )

  least_from : (i : ℕ) (items : List S) → IsFirst (at i items) i (length items + i) (position_from holds i items)
  least_from i [] = λ k low high. absurd (omega arith)
  least_from i (x ∷ xs) = elim (holds x) as (λ b. holds x ≡ b
      → IsFirst (at i (x ∷ xs)) i (length (x ∷ xs) + i) (cond b (Some i) (position_from holds (i + 1) xs))) [
        | true ↦ λ e. (
          record { low = omega arith; high = omega arith; before = λ k low high. absurd (omega arith) },
          subst (λ P. P) (here i x xs i (omega arith)) e,
        )
        | false ↦ λ e. first_behind i x xs _ e (least_from (i + 1) xs)
      ] refl

  pub least-is : (items : List S) → IsLeast holds items (least holds items)
  least-is items = least_from 1 items

module _ {S : Type 0} (on : Dependencies S) (earlier : List S) (me : S) where
  says : (rule : Rule) (waw raw war : Option ℕ) → IsLeast (on.waw me) earlier waw → IsLeast (on.raw me) earlier raw → IsLeast (on.war me) earlier war
      → Says on earlier me rule (verdict_by rule waw raw war)
  says rule (Some i) raw war w r a = w
  says Plain None (Some j) war w r a = (refl, w, r)
  says Plain None None war w r a = (refl, w, r)
  says Reorder None None war w r a = (w, r)
  says Reorder None (Some j) (Some k) w r a = (refl, w, r, a)
  says Reorder None (Some j) None w r a = (w, a, (j, r))

  pub verdict_says : (rule : Rule) → VerdictLaw on earlier me rule
  verdict_says rule = says rule _ _ _ (least-is (on.waw me) earlier) (least-is (on.raw me) earlier) (least-is (on.war me) earlier)

  below : (rule : Rule) (v : Verdict) → Says on earlier me rule v → CauseBelow (length earlier + 1) v
  below rule (Finish raw) s = tt
  below rule (Wait (Waw j)) s = (s.0.low, s.0.high)
  below rule (Wait (Raw j)) s = (s.2.0.low, s.2.0.high)
  below rule (Wait (Both j k)) s = ((s.2.0.low, s.2.0.high), (s.3.0.low, s.3.0.high))

  pub cause_below : (rule : Rule) → CauseBelow (length earlier + 1) (verdict_on on rule earlier me)
  cause_below rule = below rule _ (verdict_says rule)

module _ {O : Type 0} (on : Dependencies O) (rule : Rule) where
  waits_after : (earlier list : List O) → All (λ d. CauseBelow d.tid d.verdict) (judged on rule earlier list)
  waits_after earlier [] = All-nil (λ (d : Judged O). CauseBelow d.tid d.verdict)
  waits_after earlier (o ∷ os) = All-cons (λ (d : Judged O). CauseBelow d.tid d.verdict) _ _ (cause_below on earlier o rule)
      (waits_after (earlier ++ o ∷ []) os)

  pub waits_for_earlier : (list : List O) → WaitsForEarlier (judged on rule [] list)
  waits_for_earlier list = waits_after [] list
