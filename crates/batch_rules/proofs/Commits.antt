-- What the verdicts say of two requests that finish, and so of the order in which they are placed.
use Rattle.std.proofs.Common.{◌≡◌, List, [], ◌∷◌, ◌++◌, reverse, Bool, true, false, cond, refl, sym, ap, ◌∙◌, subst, Ordering}
use Rattle.std.specs.Prelude.{if◌then◌else◌, slice_index_or}
use Rattle.std.specs.Cmp.{IsTotalOrder}
use Rattle.std.specs.List.{All, filter}
use Rattle.std.specs.FinMap.{IsAntisymmetric}
use Rattle.std.proofs.lemmas.List.{reverse-append, append_assoc}
use Rattle.std.proofs.lemmas.List.Sorted.{IsPermutation-reverse, All-permutation}
use Rattle.batch_rules.specs.declared.verdicts.Verdict.{Verdict}
use Rattle.batch_rules.specs.declared.verdicts.Verdict.TheVariants.{Finish, Wait}
use Rattle.batch_rules.specs.Verdicts.{Dependencies, by_keys, meets, finishes, goes_ahead, keeps_turn}
use Rattle.batch_rules.specs.Touches.{is_among}
use Rattle.batch_rules.specs.Batches.{placed}
use Rattle.batch_rules.specs.Runs.{TellsApart}
use Rattle.batch_rules.proofs.Meets.{apart_at, meets_turned}
use Rattle.batch_rules.proofs.Lists.{All-filtered}
use Rattle.batch_rules.proofs.Pairs.{Pairs, Pairs_middle}

-- the order of those behind a request that finishes is cut in two by it, whether it goes ahead or keeps its turn
pub placed-cons : {X : Type 0} (verdict_of : X → Verdict) (x : X) (xs : List X)
    → placed verdict_of (x ∷ xs) ≡ (if finishes (verdict_of x) then reverse (filter (λ x. goes_ahead (verdict_of x)) xs) ++ x ∷ filter
    (λ x. keeps_turn (verdict_of x)) xs else placed verdict_of xs)
placed-cons verdict_of x xs =
    let F = filter (λ x. goes_ahead (verdict_of x)) xs in
    let S = filter (λ x. keeps_turn (verdict_of x)) xs in
    elim (verdict_of x) as (λ v. reverse (cond (goes_ahead v) (x ∷ F) F) ++ cond (keeps_turn v)
    (x ∷ S) S ≡ (if finishes v then reverse F ++ x ∷ S else reverse F ++ S)) [
      | Finish ahead ↦ elim ahead as (λ b. reverse (cond (goes_ahead (Finish b)) (x ∷ F) F) ++ cond (keeps_turn (Finish b)) (x ∷ S) S ≡ reverse F ++ x ∷ S) [
        | true ↦ ap (λ l. l ++ S) (reverse-append (x ∷ []) F) ∙ append_assoc (reverse F) (x ∷ []) S
        | false ↦ refl
      ]
      | Wait cause ↦ refl
    ]

-- what holds of what goes ahead, and of the rest, holds of them in turn
module _ {X : Type 0} (verdict_of : X → Verdict) (P : X → Type 0) where
  pub All-ahead : (xs : List X) → All (λ x. goes_ahead (verdict_of x) ≡ true → P x) xs → All P (reverse (filter (λ x. goes_ahead (verdict_of x)) xs))
  All-ahead xs a = let F = filter (λ x. goes_ahead (verdict_of x)) xs in
      All-permutation P F (reverse F) (IsPermutation-reverse F) (All-filtered (λ x. goes_ahead (verdict_of x)) P xs a)

  pub All-in_turn : (xs : List X) → All (λ x. keeps_turn (verdict_of x) ≡ true → P x) xs → All P (filter (λ x. keeps_turn (verdict_of x)) xs)
  All-in_turn xs a = All-filtered (λ x. keeps_turn (verdict_of x)) P xs a

-- what it means for an earlier x that d finishes
pub record IsClean {X : Type 0} (on : Dependencies X) (verdict_of : X → Verdict) (x d : X) : Type 0 where
  pub waw : finishes (verdict_of d) ≡ true → on.waw d x ≡ false
  pub war : goes_ahead (verdict_of d) ≡ true → on.war d x ≡ false
  pub raw : keeps_turn (verdict_of d) ≡ true → on.raw d x ≡ false

-- d may run behind x as it ran on the start: it looked at nothing that x writes, and writes nothing that x writes
pub record IsApart {K X : Type 0} (R : K → K → Ordering) (sees : X → K → Bool) (writes : X → List K) (x d : X) : Type 0 where
  pub sees_none : (k : K) → is_among R (writes x) k ≡ true → sees d k ≡ false
  pub writes_none : meets R (writes d) (writes x) ≡ false

pub ahead_finishes : (v : Verdict) → goes_ahead v ≡ true → finishes v ≡ true
ahead_finishes (Finish raw) e = refl
ahead_finishes (Wait cause) e = e

pub turn_finishes : (v : Verdict) → keeps_turn v ≡ true → finishes v ≡ true
turn_finishes (Finish raw) e = refl
turn_finishes (Wait cause) e = e

-- common keys tell
pub by_keys_tell : {K X : Type 0} {R : K → K → Ordering} → IsTotalOrder R → IsAntisymmetric R → (reads writes : X → List K)
    → TellsApart R (by_keys R reads writes) (λ x. is_among R (reads x)) writes
by_keys_tell o anti reads writes = record {
  waw = λ d x e. e;
  raw = λ d x e k within. apart_at o anti (writes x) (reads d) k (meets_turned o anti (reads d) (writes x) e) within;
  war = λ d x e k within. apart_at o anti (writes d) (reads x) k e within;
}

module _ {K X : Type 0} {R : K → K → Ordering} (o : IsTotalOrder R) (anti : IsAntisymmetric R) (verdict_of : X → Verdict) (on : Dependencies X) (sees : X → K
    → Bool) (writes : X → List K) (tell : TellsApart R on sees writes) where
  before_it : (x d : X) → IsClean on verdict_of x d → goes_ahead (verdict_of d) ≡ true → IsApart R sees writes d x
  before_it x d c ahead = record {
    sees_none = tell.war d x (c.war ahead);
    writes_none = meets_turned o anti (writes d) (writes x) (tell.waw d x (c.waw (ahead_finishes _ ahead)));
  }

  behind_it : (x d : X) → IsClean on verdict_of x d → keeps_turn (verdict_of d) ≡ true → IsApart R sees writes x d
  behind_it x d c turn = record { sees_none = tell.raw d x (c.raw turn); writes_none = tell.waw d x (c.waw (turn_finishes _ turn)) }

  -- of what finishes behind x, that which goes ahead may run before it, and the rest behind it
  pub ahead_apart : (x : X) (xs : List X) → All (IsClean on verdict_of x) xs
      → All (λ d. IsApart R sees writes d x) (reverse (filter (λ d. goes_ahead (verdict_of d)) xs))
  ahead_apart x xs a = All-ahead verdict_of (λ d. IsApart R sees writes d x) xs (λ k d below. before_it x (slice_index_or xs k d) (a k d below))

  pub turn_apart : (x : X) (xs : List X) → All (IsClean on verdict_of x) xs → All (IsApart R sees writes x) (filter (λ d. keeps_turn (verdict_of d)) xs)
  turn_apart x xs a = All-in_turn verdict_of (IsApart R sees writes x) xs (λ k d below. behind_it x (slice_index_or xs k d) (a k d below))

  pub placed_apart : (xs : List X) → Pairs (IsClean on verdict_of) xs → Pairs (IsApart R sees writes) (placed verdict_of xs)
  placed_apart [] p = tt
  placed_apart (x ∷ xs) p =
      let rest = placed_apart xs p.1 in
      subst (Pairs (IsApart R sees writes)) (sym (placed-cons verdict_of x xs))
      (elim (finishes (verdict_of x)) as (λ b. Pairs (IsApart R sees writes)
      (if b then reverse (filter (λ d. goes_ahead (verdict_of d)) xs) ++ x ∷ filter (λ d. keeps_turn (verdict_of d)) xs else placed verdict_of xs)) [
        | true ↦ Pairs_middle (IsApart R sees writes) _ x _ rest (ahead_apart x xs p.0) (turn_apart x xs p.0)
        | false ↦ rest
      ])
