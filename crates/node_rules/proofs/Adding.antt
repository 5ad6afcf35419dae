-- Messages that are added to those that were sent: the old ones change nothing, and new ones stand behind.
use Rattle.std.proofs.Common.{◌≡◌, ℕ, zero, suc, ◌+◌, ◌≤◌, ⊎_elim, List, [], ◌∷◌, ◌++◌, map, false, refl, sym, ap, ◌∙◌, subst, Ordering, arith, Contains}
use Rattle.std.specs.Prelude.{if◌then◌else◌, flat_map, slice_index_or}
use Rattle.std.specs.List.{All, range_with_len}
use Rattle.std.proofs.lemmas.Bool.{false_from_ne_true}
use Rattle.std.proofs.lemmas.List.{append_assoc, append-nil}
use Rattle.std.proofs.lemmas.List.Elements.{All-head, All-tail, All-map, Contains-append_left, Contains-push_cases, All-contains}
use Rattle.node_rules.specs.Messages.{Message}
use Rattle.node_rules.specs.Nets.{Net, IsNet}
use Rattle.node_rules.specs.Worlds.{is_in, with_new, with_all_new}
use Rattle.node_rules.specs.Counts.{NoneTwice}
use Rattle.node_rules.proofs.Picks.{has_head, has_behind, in_range}
use Rattle.node_rules.proofs.News.{is_in-has}
use Rattle.node_rules.proofs.Counting.{has-is_in}

module _ {K V Q A : Type 0} {R : K → K → Ordering} (net : Net R V Q A) (is : IsNet net) where
  pub add_old : (ms xs : List (Message K V)) → All (Contains ms) xs → with_all_new net ms xs ≡ ms
  add_old ms [] a = refl
  add_old ms (x ∷ xs) a =
      let same : with_new net ms x ≡ ms = ap (λ b. if b then ms else ms ++ x ∷ []) (has-is_in net is ms x (All-head (Contains ms) x xs a)) in
      ap (λ l. with_all_new net l xs) same ∙ add_old ms xs (All-tail (Contains ms) x xs a)

  pub add_new : (ms xs : List (Message K V)) → NoneTwice xs → ((x : Message K V) → Contains xs x → Contains ms x → ⊥) → with_all_new net ms xs ≡ ms ++ xs
  add_new ms [] once off = sym (append-nil ms)
  add_new ms (x ∷ xs) once off =
      let out : is_in net ms x ≡ false = false_from_ne_true (is_in net ms x) (λ e. off x (has_head x xs) (is_in-has net is ms x e)) in
      ap (λ b. with_all_new net (if b then ms else ms ++ x ∷ []) xs) out
      ∙ add_new (ms ++ x ∷ []) xs once.1
      (λ y c d. ⊎_elim (λ before. off y (has_behind x xs y c) before) (λ same. once.0 (subst (Contains xs) (sym same) c))
      (Contains-push_cases ms x y d))
      ∙ append_assoc ms (x ∷ []) xs

  add_both : (ms xs ys : List (Message K V)) → with_all_new net ms (xs ++ ys) ≡ with_all_new net (with_all_new net ms xs) ys
  add_both ms [] ys = refl
  add_both ms (x ∷ xs) ys = add_both (with_new net ms x) xs ys

  -- new ones between old ones
  pub add_middle : (ms us xs vs : List (Message K V)) → All (Contains ms) us → NoneTwice xs → ((x : Message K V) → Contains xs x → Contains ms x → ⊥)
      → All (Contains ms) vs → with_all_new net ms (us ++ xs ++ vs) ≡ ms ++ xs
  add_middle ms us xs vs a once off b =
      add_both ms (us ++ xs) vs
      ∙ ap (λ l. with_all_new net l vs) (add_both ms us xs ∙ ap (λ l. with_all_new net l xs) (add_old ms us a) ∙ add_new ms xs once off)
      ∙ add_old (ms ++ xs) vs (λ k d lt. Contains-append_left ms xs _ (b k d lt))

-- images of different numbers under a function that tells them apart
module _ {X : Type 0} (f : ℕ → X) (back : X → ℕ) (e : (n : ℕ) → back (f n) ≡ n) where
  from_range : (a n : ℕ) → All (λ x. a ≤ back x) (map f (range_with_len a n))
  from_range a n = All-map (λ x. a ≤ back x) f (range_with_len a n) (λ k d lt. let low = (in_range a n k d lt).0 in let same =
      e (slice_index_or (range_with_len a n) k d) in omega arith)

  pub once_map : (a n : ℕ) → NoneTwice (map f (range_with_len a n))
  once_map a zero = tt
  once_map a (suc n) = (
    λ c. let low = All-contains (λ x. a + 1 ≤ back x) (map f (range_with_len (a + 1) n)) (f a) (from_range (a + 1) n) c in let same = e a in
        absurd (omega arith),
    once_map (a + 1) n,
  )

-- parts of a list of lists around one of its items
pub flat_append : {X Y : Type 0} (f : X → List Y) (xs ys : List X) → flat_map f (xs ++ ys) ≡ flat_map f xs ++ flat_map f ys
flat_append f [] ys = refl
flat_append f (x ∷ xs) ys = ap (λ l. f x ++ l) (flat_append f xs ys) ∙ sym (append_assoc (f x) (flat_map f xs) (flat_map f ys))

pub flat_around : {X Y : Type 0} (f : X → List Y) (us : List X) (x : X) (vs : List X) → flat_map f (us ++ x ∷ vs) ≡ flat_map f us ++ f x ++ flat_map f vs
flat_around f us x vs = flat_append f us (x ∷ vs) ∙ sym (append_assoc (flat_map f us) (f x) (flat_map f vs))

pub flat_same : {X Y : Type 0} (f g : X → List Y) (xs : List X) → ((x : X) → Contains xs x → f x ≡ g x) → flat_map f xs ≡ flat_map g xs
flat_same f g [] h = refl
flat_same f g (x ∷ xs) h = (λ i. h x (has_head x xs) i ++ flat_map f xs) ∙ ap (λ l. g x ++ l) (flat_same f g xs (λ y c. h y (has_behind x xs y c)))
