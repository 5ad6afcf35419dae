-- Sets in parts: two lists of keys meet where their parts at some node do, and the least holder is the least of the nodes' least ones.
use Rattle.std.proofs.Common.{◌≡◌, ℕ, ◌+◌, ◌<◌, ◌≤◌, ⊎_elim, List, [], ◌∷◌, Bool, true, false, cond, Some, None, Option, refl, sym, ap, ◌∙◌, Ordering}
use Rattle.std.proofs.Common.{arith, Contains}
use Rattle.std.specs.Prelude.{◌||◌, ◌&&◌, ◌==◌}
use Rattle.std.specs.List.{list_any, filter, position_from, range_with_len}
use Rattle.std.specs.Ordering.{eq_by_cmp}
use Rattle.std.specs.Cmp.{IsTotalOrder}
use Rattle.std.specs.FinMap.{IsAntisymmetric}
use Rattle.std.proofs.lemmas.Bool.{or_cases, or_left, or_right, and_parts, and_from, eq-eqb}
use Rattle.batch_rules.specs.Touches.{is_among, keys_of}
use Rattle.batch_rules.specs.Verdicts.{meets}
use Rattle.batch_rules.proofs.Maps.{same_key}
use Rattle.batch_rules.proofs.Meets.{meeting, meets-common}
use Rattle.batch_rules.proofs.Lists.{filter-map}
use Rattle.node_rules.specs.Dues.{lesser}
use Rattle.node_rules.proofs.Picks.{has_cases, has_number}

pub same_truth : (a b : Bool) → (a ≡ true → b ≡ true) → (b ≡ true → a ≡ true) → a ≡ b
same_truth true b f g = sym (f refl)
same_truth false true f g = g refl
same_truth false false f g = refl

pub keys-filter : {K X : Type 0} (p : K → Bool) (rows : List (K × X)) → keys_of (filter (λ row. p row.0) rows) ≡ filter p (keys_of rows)
keys-filter p rows = filter-map (λ row. row.0) (λ row. p row.0) p rows (λ k d below. refl)

module _ {K : Type 0} {R : K → K → Ordering} (o : IsTotalOrder R) (anti : IsAntisymmetric R) where
  pub among-filter : (p : K → Bool) (keys : List K) (k : K) → is_among R (filter p keys) k ≡ (p k && is_among R keys k)
  among-filter p [] k = elim (p k) as (λ b. false ≡ (b && false)) [ true ↦ refl | false ↦ refl ]
  among-filter p (x ∷ xs) k = elim (eq_by_cmp R k x) as (λ e. eq_by_cmp R k x ≡ e
      → is_among R (cond (p x) (x ∷ filter p xs) (filter p xs)) k ≡ (p k && (e || is_among R xs k))) [
        | true ↦ λ t. elim (p x) as (λ b. p x ≡ b → is_among R (cond b (x ∷ filter p xs) (filter p xs)) k ≡ (p k && true)) [
          | true ↦ λ h. or_left _ _ t ∙ sym (and_from _ _ (ap p (same_key anti k x t) ∙ h) refl)
          | false ↦ λ h. among-filter p xs k ∙ ap (λ b. b && is_among R xs k) (ap p (same_key anti k x t) ∙ h)
              ∙ sym (ap (λ b. b && true) (ap p (same_key anti k x t) ∙ h))
        ] refl
        | false ↦ λ t. elim (p x) as (λ b. is_among R (cond b (x ∷ filter p xs) (filter p xs)) k ≡ (p k && is_among R xs k)) [
          | true ↦ ap (λ b. b || is_among R (filter p xs) k) t ∙ among-filter p xs k
          | false ↦ among-filter p xs k
        ]
      ] refl

  module _ (home : K → ℕ) (xs ys : List K) where
    abbrev pub meets_at : ℕ → Bool
    meets_at n = meets R (filter (λ k. home k == n) xs) (filter (λ k. home k == n) ys)

    within : (nodes : List ℕ) → list_any meets_at nodes ≡ true → meets R xs ys ≡ true
    within [] e = cc
    within (n ∷ ns) e = ⊎_elim
        (λ here.
        let common = meets-common o anti _ _ here in
        (meeting o anti xs ys).1 (
          common.0,
          (and_parts _ _ (sym (among-filter (λ k. home k == n) xs common.0) ∙ common.1)).1,
          (and_parts _ _ (sym (among-filter (λ k. home k == n) ys common.0) ∙ common.2)).1,
        ))
        (λ later. within ns later)
        (or_cases _ _ e)

    at_home : (k : K) → is_among R xs k ≡ true → is_among R ys k ≡ true → meets_at (home k) ≡ true
    at_home k p q = (meeting o anti _ _).1 (
      k,
      among-filter (λ x. home x == home k) xs k ∙ and_from _ _ (eq-eqb _ _ refl) p,
      among-filter (λ x. home x == home k) ys k ∙ and_from _ _ (eq-eqb _ _ refl) q,
    )

    any_has : (nodes : List ℕ) (n : ℕ) → Contains nodes n → meets_at n ≡ true → list_any meets_at nodes ≡ true
    any_has [] n (k, below, e) h = absurd (omega arith)
    any_has (m ∷ ms) n c h = ⊎_elim (λ same. or_left _ _ (ap meets_at same ∙ h)) (λ rest. or_right _ _ (any_has ms n rest h)) (has_cases m ms n c)

    -- where each key has a node, the lists meet where their parts at some node do
    pub meets_parts : (nodes : ℕ) → ((k : K) → home k < nodes) → list_any meets_at (range_with_len 0 nodes) ≡ meets R xs ys
    meets_parts nodes below = same_truth _ _ (within (range_with_len 0 nodes)) (λ e.
        let common = meets-common o anti xs ys e in
        let lt = below common.0 in
        any_has (range_with_len 0 nodes) (home common.0) (has_number 0 nodes (home common.0) (omega arith) (omega arith))
        (at_home common.0 common.1 common.2))

-- ---- least holders

lesser_first : (i : ℕ) (r : Option ℕ) → ((j : ℕ) → r ≡ Some j → i ≤ j) → lesser (Some i) r ≡ Some i
lesser_first i None h = refl
lesser_first i (Some j) h = let le = h j refl in ap (λ (n : ℕ). Some n) (omega arith)

lesser_last : (i : ℕ) (r : Option ℕ) → ((j : ℕ) → r ≡ Some j → i ≤ j) → lesser r (Some i) ≡ Some i
lesser_last i None h = refl
lesser_last i (Some j) h = let le = h j refl in ap (λ (n : ℕ). Some n) (omega arith)

module _ {S : Type 0} where
  from_place : (p : S → Bool) (i : ℕ) (xs : List S) (j : ℕ) → position_from p i xs ≡ Some j → i ≤ j
  from_place p i [] j e = cc
  from_place p i (x ∷ xs) j e = elim (p x) as (λ b. cond b (Some i) (position_from p (i + 1) xs) ≡ Some j → i ≤ j) [
    | true ↦ λ e. let same : i ≡ j = cc in omega arith
    | false ↦ λ e. let le = from_place p (i + 1) xs j e in omega arith
  ] e

  behind : (p : S → Bool) (i : ℕ) (xs : List S) (j : ℕ) → position_from p (i + 1) xs ≡ Some j → i ≤ j
  behind p i xs j e = let le = from_place p (i + 1) xs j e in omega arith

  pub lesser-or : (p q : S → Bool) (i : ℕ) (xs : List S) → lesser (position_from p i xs) (position_from q i xs) ≡ position_from (λ x. p x || q x) i xs
  lesser-or p q i [] = refl
  lesser-or p q i (x ∷ xs) = elim (p x) as (λ a. lesser (cond a (Some i) (position_from p (i + 1) xs)) (cond (q x) (Some i) (position_from q (i + 1) xs))
      ≡ cond (a || q x) (Some i) (position_from (λ x. p x || q x) (i + 1) xs)) [
        | true ↦ elim (q x) as (λ b. lesser (Some i) (cond b (Some i) (position_from q (i + 1) xs)) ≡ Some i) [
          | true ↦ lesser_first i (Some i) (λ j e. let same : i ≡ j = cc in omega arith)
          | false ↦ lesser_first i _ (behind q i xs)
        ]
        | false ↦ elim (q x) as (λ b. lesser (position_from p (i + 1) xs) (cond b (Some i) (position_from q (i + 1) xs)) ≡ cond b (Some i)
            (position_from (λ x. p x || q x) (i + 1) xs)) [
              | true ↦ lesser_last i _ (behind p i xs)
              | false ↦ lesser-or p q (i + 1) xs
            ]
      ]

  none_at : (i : ℕ) (xs : List S) → position_from (λ x. false) i xs ≡ None
  none_at i [] = refl
  none_at i (x ∷ xs) = none_at (i + 1) xs

  abbrev pub least_over : (ℕ → S → Bool) → ℕ → List S → List ℕ → Option ℕ
  least_over f i xs [] = None
  least_over f i xs (n ∷ ns) = lesser (position_from (f n) i xs) (least_over f i xs ns)

  pub least_over-is : (f : ℕ → S → Bool) (i : ℕ) (xs : List S) (ns : List ℕ) → least_over f i xs ns ≡ position_from (λ x. list_any (λ n. f n x) ns) i xs
  least_over-is f i xs [] = sym (none_at i xs)
  least_over-is f i xs (n ∷ ns) = ap (lesser (position_from (f n) i xs)) (least_over-is f i xs ns) ∙ lesser-or (f n) (λ x. list_any (λ n. f n x) ns) i xs

  pub position_same : (p q : S → Bool) (i : ℕ) (xs : List S) → ((x : S) → p x ≡ q x) → position_from p i xs ≡ position_from q i xs
  position_same p q i [] h = refl
  position_same p q i (x ∷ xs) h = (λ t. cond (h x t) (Some i) (position_from p (i + 1) xs)) ∙ ap (cond (q x) (Some i)) (position_same p q (i + 1) xs h)
