-- Lists of keys with a common key.
use Rattle.std.proofs.Common.{◌≡◌, List, [], ◌∷◌, true, false, refl, sym, ap, ◌∙◌, Ordering}
use Rattle.std.specs.Prelude.{◌||◌}
use Rattle.std.specs.Ordering.{eq_by_cmp, is_eq}
use Rattle.std.specs.Cmp.{IsTotalOrder, tied_itself}
use Rattle.std.specs.FinMap.{IsAntisymmetric}
use Rattle.std.proofs.lemmas.Bool.{or_left, or_right}
use Rattle.batch_rules.specs.Touches.{is_among}
use Rattle.batch_rules.specs.Verdicts.{meets}
use Rattle.batch_rules.specs.Laws.{Meeting}
use Rattle.batch_rules.proofs.Maps.{same_key}

module _ {K : Type 0} {R : K → K → Ordering} (o : IsTotalOrder R) (anti : IsAntisymmetric R) where
  pub meets-common : (xs ys : List K) → meets R xs ys ≡ true → (k : K) × (is_among R xs k ≡ true) × (is_among R ys k ≡ true)
  meets-common [] ys e = cc
  meets-common (x ∷ xs) ys e = elim (is_among R ys x) as (λ b. is_among R ys x ≡ b → (b || meets R xs ys) ≡ true
      → (k : K) × (is_among R (x ∷ xs) k ≡ true) × (is_among R ys k ≡ true)) [
        | true ↦ λ t e. (x, or_left _ _ (ap is_eq (tied_itself o x)), t)
        | false ↦ λ t e. let rest = meets-common xs ys e in (rest.0, or_right _ _ rest.1, rest.2)
      ] refl e

  meets-from_common : (xs ys : List K) (k : K) → is_among R xs k ≡ true → is_among R ys k ≡ true → meets R xs ys ≡ true
  meets-from_common [] ys k p q = p
  meets-from_common (x ∷ xs) ys k p q = elim (eq_by_cmp R k x) as (λ b. eq_by_cmp R k x ≡ b → (b || is_among R xs k) ≡ true
      → (is_among R ys x || meets R xs ys) ≡ true) [
        | true ↦ λ t p. or_left _ _ (ap (is_among R ys) (sym (same_key anti k x t)) ∙ q)
        | false ↦ λ t p. or_right _ _ (meets-from_common xs ys k p q)
      ] refl p

  pub meeting : (xs ys : List K) → Meeting R xs ys
  meeting xs ys = (meets-common xs ys, λ common. meets-from_common xs ys common.0 common.1 common.2)

  pub apart_at : (xs ys : List K) (k : K) → meets R xs ys ≡ false → is_among R xs k ≡ true → is_among R ys k ≡ false
  apart_at xs ys k e p = elim (is_among R ys k) as (λ b. is_among R ys k ≡ b → b ≡ false) [
    | true ↦ λ q. sym (meets-from_common xs ys k p q)
        ∙ e
    | false ↦ λ q. refl
  ] refl

  pub meets_turned : (xs ys : List K) → meets R xs ys ≡ false → meets R ys xs ≡ false
  meets_turned xs ys e = elim (meets R ys xs) as (λ b. meets R ys xs ≡ b → b ≡ false) [
    | true ↦ λ q. let common = meets-common ys xs q in sym (meets-from_common xs ys common.0 common.2 common.1) ∙ e
    | false ↦ λ q. refl
  ] refl

  -- no key of the one is among the other
  pub meets_none : (xs ys : List K) → ((q : K) → is_among R xs q ≡ true → is_among R ys q ≡ false) → meets R xs ys ≡ false
  meets_none xs ys h = elim (meets R xs ys) as (λ b. meets R xs ys ≡ b → b ≡ false) [
    | true ↦ λ e. let common = meets-common xs ys e in sym common.2 ∙ h common.0 common.1
    | false ↦ λ e. refl
  ] refl
