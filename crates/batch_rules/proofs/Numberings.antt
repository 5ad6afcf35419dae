-- Verdicts by equal dependencies, and by numbers of the touched keys.
use Rattle.std.proofs.Common.{◌≡◌, refl, sym, ap, ◌∙◌, ℕ, ◌+◌, ◌<◌, List, [], ◌∷◌, map, length, get_or, Bool, true, false, not, cond, All, arith}
use Rattle.std.specs.Prelude.{◌||◌, nat_eq}
use Rattle.std.specs.List.{position_from}
use Rattle.std.specs.declared.cmp.Ordering.{Ordering}
use Rattle.std.specs.Ordering.{eq_by_cmp, nat_cmp}
use Rattle.std.specs.Cmp.{IsTotalOrder, unsigned_tied}
use Rattle.std.proofs.lemmas.Bool.{false≢true, false_from_ne_true, eq-eqb, eqb-true}
use Rattle.std.proofs.lemmas.Cmp.{eq_by_cmp_equiv}
use Rattle.std.proofs.lemmas.List.Elements.{All-head, All-tail}
use Rattle.std.proofs.lemmas.List.Sums.{passes_at_first}
use Rattle.batch_rules.specs.declared.verdicts.Rule.{Rule}
use Rattle.batch_rules.specs.Touches.{is_among}
use Rattle.batch_rules.specs.Verdicts.{Dependencies, meets, least, verdict_by, by_keys}
use Rattle.batch_rules.specs.Laws.{SameVerdict}
use Rattle.batch_rules.specs.Numberings.{IsOneToOneOn, HasKeysOf, place_in, NumbersDecide}
use Rattle.batch_rules.proofs.Lists.{map_same, position_from-map}

-- the first place by what the test says at each
least_by : {S Z : Type 0} (test : S → Bool) (also : Z → Bool) (xs : List S) (ys : List Z) → map test xs ≡ map also ys → least test xs ≡ least also ys
least_by test also xs ys e = sym (position_from-map (λ b. b) test 1 xs) ∙ ap (position_from (λ b. b) 1) e ∙ position_from-map (λ b. b) also 1 ys

pub same_verdict : {S Z : Type 0} (on : Dependencies S) (earlier : List S) (me : S) (also : Dependencies Z) (others : List Z) (you : Z) (rule : Rule)
    → SameVerdict on earlier me also others you rule
same_verdict on earlier me also others you rule same =
    let waw = least_by (on.waw me) (also.waw you) earlier others same.waw in
    let raw = least_by (on.raw me) (also.raw you) earlier others same.raw in
    let war = least_by (on.war me) (also.war you) earlier others same.war in
    λ i. verdict_by rule (waw i) (raw i) (war i)

module _ {K : Type 0} (R : K → K → Ordering) (keys : List K) (number : K → ℕ) (one : IsOneToOneOn R keys number) where
  abbrev Has : K → Type 0
  Has k = is_among R keys k ≡ true

  pub among_numbers : (ys : List K) (k : K) → Has k → All Has ys → is_among nat_cmp (map number ys) (number k) ≡ is_among R ys k
  among_numbers [] k has all = refl
  among_numbers (y ∷ ys) k has all =
      let here = one k y has (All-head Has y ys all) in
      let rest = among_numbers ys k has (All-tail Has y ys all) in
      λ i. here i || rest i

  pub meets_numbers : (xs ys : List K) → All Has xs → All Has ys → meets nat_cmp (map number xs) (map number ys) ≡ meets R xs ys
  meets_numbers [] ys all other = refl
  meets_numbers (x ∷ xs) ys all other =
      let here = among_numbers ys x (All-head Has x xs all) other in
      let rest = meets_numbers xs ys (All-tail Has x xs all) other in
      λ i. here i || rest i

  -- of one kind of dependency
  meet_all : {S : Type 0} (mine theirs : S → List K) (earlier : List S) (me : S) → HasKeysOf R keys mine (me ∷ earlier) → HasKeysOf R keys theirs (me ∷ earlier)
      → map (λ other. meets nat_cmp (map number (mine me)) (map number (theirs other))) earlier ≡ map (λ other. meets R (mine me) (theirs other)) earlier
  meet_all mine theirs earlier me has_mine has_theirs =
      let behind = All-tail (λ s. All Has (theirs s)) me earlier has_theirs in
      map_same (λ other. meets nat_cmp (map number (mine me)) (map number (theirs other))) (λ other. meets R (mine me) (theirs other)) earlier
      (λ k d below. meets_numbers (mine me) _ (All-head (λ s. All Has (mine s)) me earlier has_mine) (behind k d below))

pub numbers_decide : {K S : Type 0} (R : K → K → Ordering) (keys : List K) (number : K → ℕ) (reads writes : S → List K) (earlier : List S) (me : S)
    (rule : Rule)
    → NumbersDecide R keys number reads writes earlier me rule
numbers_decide R keys number reads writes earlier me rule one r w =
    same_verdict (by_keys nat_cmp (λ s. map number (reads s)) (λ s. map number (writes s))) earlier me (by_keys R reads writes) earlier me rule (record {
      waw = meet_all R keys number one writes writes earlier me w w;
      raw = meet_all R keys number one reads writes earlier me r w;
      war = meet_all R keys number one writes reads earlier me w r;
    })

-- ---- places as numbers

module _ {K : Type 0} {R : K → K → Ordering} (o : IsTotalOrder R) where
  same_place : (x y : K) → eq_by_cmp R x y ≡ true → (keys : List K) → place_in R keys x ≡ place_in R keys y
  same_place x y e [] = refl
  same_place x y e (k ∷ ks) = let here = (eq_by_cmp_equiv o).congr x y k e in let rest = same_place x y e ks in λ i. cond (not (here i)) (1 + rest i) 0

  pub place_within : (keys : List K) (x : K) → is_among R keys x ≡ true → place_in R keys x < length keys
  place_within [] x e = cc
  place_within (k ∷ ks) x e = elim (eq_by_cmp R x k) as (λ b. (b || is_among R ks x) ≡ true → cond (not b) (1 + place_in R ks x) 0 < length (k ∷ ks)) [
    | true ↦ λ e. omega arith
    | false ↦ λ e. let lt = place_within ks x e in omega arith
  ] e

  pub places_one_to_one : (keys : List K) → IsOneToOneOn R keys (place_in R keys)
  places_one_to_one keys x y in_x in_y = unsigned_tied (place_in R keys x) (place_in R keys y)
      ∙ elim (eq_by_cmp R x y) as (λ b. eq_by_cmp R x y ≡ b → nat_eq (place_in R keys x) (place_in R keys y) ≡ b) [
        | true ↦ λ e. eq-eqb (place_in R keys x) (place_in R keys y) (same_place x y e keys)
        | false ↦ λ e. false_from_ne_true _ (λ same. false≢true (sym e ∙ tied (eqb-true (place_in R keys x) (place_in R keys y) same)))
      ] refl
    where
      tied : place_in R keys x ≡ place_in R keys y → eq_by_cmp R x y ≡ true
      tied same =
          let at_x = passes_at_first (eq_by_cmp R x) keys x (place_within keys x in_x) in
          let at_y : eq_by_cmp R y (get_or keys (place_in R keys x) x) ≡ true = ap (λ n. eq_by_cmp R y (get_or keys n x)) same
          ∙ passes_at_first (eq_by_cmp R y) keys x (place_within keys y in_y) in
          (eq_by_cmp_equiv o).congr x (get_or keys (place_in R keys x) x) y at_x ∙ (eq_by_cmp_equiv o).symm (get_or keys (place_in R keys x) x) y ∙ at_y
