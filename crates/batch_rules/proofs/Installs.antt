-- Write sets that do not meet may be installed in any order.
use Rattle.std.proofs.Common.{◌≡◌, List, [], ◌∷◌, ◌++◌, map, reverse, Bool, true, false, cond, Some, None, Option, refl, sym, ap, ◌∙◌, Ordering}
use Rattle.std.specs.Prelude.{if◌then◌else◌, is_some}
use Rattle.std.specs.Cmp.{IsTotalOrder}
use Rattle.std.specs.List.{All, filter}
use Rattle.std.specs.Option.{unwrap_or}
use Rattle.std.specs.FinMap as fin
use Rattle.std.specs.FinMap.{FinMap, IsAntisymmetric, find, same_map}
use Rattle.std.proofs.lemmas.List.Elements.{All-head, All-tail}
use Rattle.batch_rules.specs.declared.verdicts.Verdict.{Verdict}
use Rattle.batch_rules.specs.Touches.{is_among, keys_of, overwritten, installed}
use Rattle.batch_rules.specs.Verdicts.{Dependencies, meets, finishes, goes_ahead, keeps_turn}
use Rattle.batch_rules.specs.Batches.{placed}
use Rattle.batch_rules.specs.Runs.{TellsApart}
use Rattle.batch_rules.proofs.Commits.{IsClean, placed-cons, ahead_apart}
use Rattle.batch_rules.proofs.Pairs.{Pairs}
use Rattle.batch_rules.proofs.Maps.{get-overwritten}
use Rattle.batch_rules.proofs.Meets.{apart_at}

module _ {K V : Type 0} (R : K → K → Ordering) where
  pub not_found : (ws : List (K × Option V)) (q : K) → is_among R (keys_of ws) q ≡ false → find R q ws ≡ None
  not_found ws q e = elim (find R q ws) as (λ f. is_some f ≡ false → f ≡ None) [ None ↦ λ h. refl | Some row ↦ λ h. cc ] (fin.Entries.is_some-find R q ws ∙ e)

  pub found_among : (ws : List (K × Option V)) (q : K) (row : Option V) → find R q ws ≡ Some row → is_among R (keys_of ws) q ≡ true
  found_among ws q row e = sym (fin.Entries.is_some-find R q ws) ∙ ap is_some e

module _ {K V : Type 0} {R : K → K → Ordering} (o : IsTotalOrder R) (anti : IsAntisymmetric R) where
  -- rows leave the other keys as they are
  pub get-apart : (db : FinMap R V) (ws : List (K × Option V)) (q : K) → is_among R (keys_of ws) q ≡ false → fin.get (overwritten db ws) q ≡ fin.get db q
  get-apart db ws q e = get-overwritten o db ws q ∙ ap (λ f. unwrap_or f (fin.get db q)) (not_found R ws q e)

  swap_rows : (a b : List (K × Option V)) (q : K) (row : Option V) → meets R (keys_of a) (keys_of b) ≡ false
      → unwrap_or (find R q b) (unwrap_or (find R q a) row) ≡ unwrap_or (find R q a) (unwrap_or (find R q b) row)
  swap_rows a b q row e = elim (find R q a) as (λ f. find R q a ≡ f → unwrap_or (find R q b) (unwrap_or f row) ≡ unwrap_or f (unwrap_or (find R q b) row)) [
    | None ↦ λ h. refl
    | Some here ↦ λ h. ap (λ f. unwrap_or f here) (not_found R b q (apart_at o anti (keys_of a) (keys_of b) q e (found_among R a q here h)))
  ] refl

  pub overwritten_swap : (db : FinMap R V) (a b : List (K × Option V)) → meets R (keys_of a) (keys_of b) ≡ false
      → overwritten (overwritten db a) b ≡ overwritten (overwritten db b) a
  overwritten_swap db a b e = same_map o anti _ _ (λ q. get-overwritten o (overwritten db a) b q ∙ ap (unwrap_or (find R q b)) (get-overwritten o db a q)
      ∙ swap_rows a b q (fin.get db q) e
      ∙ sym (get-overwritten o (overwritten db b) a q ∙ ap (unwrap_or (find R q a)) (get-overwritten o db b q)))

module _ {K V X : Type 0} {R : K → K → Ordering} where
  pub installed_same : (f g : X → List (K × Option V)) (m : FinMap R V) (xs : List X) → All (λ x. f x ≡ g x) xs → installed f m xs ≡ installed g m xs
  installed_same f g m [] a = refl
  installed_same f g m (x ∷ xs) a = ap (λ rows. installed f (overwritten m rows) xs) (All-head (λ x. f x ≡ g x) x xs a)
      ∙ installed_same f g (overwritten m (g x)) xs (All-tail (λ x. f x ≡ g x) x xs a)

module _ {K V X : Type 0} {R : K → K → Ordering} (o : IsTotalOrder R) (anti : IsAntisymmetric R) where
  -- rows that meet none of theirs may be installed before them
  pub installed_swap : (f : X → List (K × Option V)) (m : FinMap R V) (rows : List (K × Option V)) (xs : List X)
      → All (λ x. meets R (keys_of rows) (keys_of (f x)) ≡ false) xs
      → installed f (overwritten m rows) xs ≡ overwritten (installed f m xs) rows
  installed_swap f m rows [] a = refl
  installed_swap f m rows (x ∷ xs) a = ap (λ m. installed f m xs)
      (overwritten_swap o anti m rows (f x) (All-head (λ x. meets R (keys_of rows) (keys_of (f x)) ≡ false) x xs a))
      ∙ installed_swap f (overwritten m (f x)) rows xs (All-tail (λ x. meets R (keys_of rows) (keys_of (f x)) ≡ false) x xs a)

  pub installed_apart : (f : X → List (K × Option V)) (m : FinMap R V) (q : K) (xs : List X) → All (λ x. is_among R (keys_of (f x)) q ≡ false) xs
      → fin.get (installed f m xs) q ≡ fin.get m q
  installed_apart f m q [] a = refl
  installed_apart f m q (x ∷ xs) a = installed_apart f (overwritten m (f x)) q xs (All-tail (λ x. is_among R (keys_of (f x)) q ≡ false) x xs a)
      ∙ get-apart o anti m (f x) q (All-head (λ x. is_among R (keys_of (f x)) q ≡ false) x xs a)

module _ {K V X : Type 0} {R : K → K → Ordering} (o : IsTotalOrder R) (anti : IsAntisymmetric R) (rows : X → List (K × Option V)) where
  -- rows that have no key in common with those before them can be moved to the front
  installed_middle : (db : FinMap R V) (us : List X) (x : X) (vs : List X) → All (λ u. meets R (keys_of (rows x)) (keys_of (rows u)) ≡ false) us
      → installed rows db (us ++ x ∷ vs) ≡ installed rows (overwritten db (rows x)) (us ++ vs)
  installed_middle db [] x vs a = refl
  installed_middle db (u ∷ us) x vs a = installed_middle (overwritten db (rows u)) us x vs
      (All-tail (λ u. meets R (keys_of (rows x)) (keys_of (rows u)) ≡ false) u us a)
      ∙ ap (λ db. installed rows db (us ++ vs))
      (sym (overwritten_swap o anti db (rows x) (rows u) (All-head (λ u. meets R (keys_of (rows x)) (keys_of (rows u)) ≡ false) u us a)))

-- rows of images
pub installed-map : {K V X Y : Type 0} {R : K → K → Ordering} (rows : Y → List (K × Option V)) (f : X → Y) (db : FinMap R V) (xs : List X)
    → installed rows db (map f xs) ≡ installed (λ x. rows (f x)) db xs
installed-map rows f db [] = refl
installed-map rows f db (x ∷ xs) = installed-map rows f (overwritten db (rows (f x))) xs

module _ {K V X : Type 0} {R : K → K → Ordering} (o : IsTotalOrder R) (anti : IsAntisymmetric R) (verdict_of : X → Verdict) (on : Dependencies X) (sees : X → K
    → Bool) (rows : X → List (K × Option V)) (tell : TellsApart R on sees (λ x. keys_of (rows x))) where
  -- the rows of what finishes may be installed in the order in which it is placed
  pub installed-placed : (db : FinMap R V) (xs : List X) → Pairs (IsClean on verdict_of) xs
      → installed rows db (placed verdict_of xs) ≡ installed rows db (filter (λ x. finishes (verdict_of x)) xs)
  installed-placed db [] p = refl
  installed-placed db (x ∷ xs) p =
      ap (installed rows db) (placed-cons verdict_of x xs)
      ∙ elim (finishes (verdict_of x)) as (λ b. installed rows db
      (if b then reverse (filter (λ d. goes_ahead (verdict_of d)) xs) ++ x ∷ filter (λ d. keeps_turn (verdict_of d)) xs else placed verdict_of xs)
      ≡ installed rows db (cond b (x ∷ filter (λ x. finishes (verdict_of x)) xs) (filter (λ x. finishes (verdict_of x)) xs))) [
        | true ↦ installed_middle o anti rows db _ x _ (λ k d below.
            (ahead_apart o anti verdict_of on sees (λ x. keys_of (rows x)) tell x xs p.0 k d below).writes_none)
            ∙ installed-placed (overwritten db (rows x)) xs p.1
        | false ↦ installed-placed db xs p.1
      ]
