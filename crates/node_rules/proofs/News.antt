-- Messages that are added where they are new.
use Rattle.std.proofs.Common.{◌≡◌, List, [], ◌∷◌, ◌++◌, true, false, refl, sym, subst, Ordering, Contains}
use Rattle.std.specs.Prelude.{◌||◌, if◌then◌else◌}
use Rattle.std.specs.List.{All}
use Rattle.std.proofs.lemmas.List.Elements.{All-head, All-tail, All-nil, All-cons, All-push, Contains-append_left, Contains-push}
use Rattle.node_rules.specs.Messages.{Message}
use Rattle.node_rules.specs.Nets.{Net, IsNet}
use Rattle.node_rules.specs.Worlds.{is_in, with_new, with_all_new}
use Rattle.node_rules.proofs.Picks.{has_head, has_behind}

module _ {K V Q A : Type 0} {R : K → K → Ordering} (net : Net R V Q A) where
  pub new_one : (P : Message K V → Type 0) (ms : List (Message K V)) (m : Message K V) → All P ms → P m → All P (with_new net ms m)
  new_one P ms m a p = elim (is_in net ms m) as (λ b. All P (if b then ms else ms ++ m ∷ [])) [ true ↦ a | false ↦ All-push P ms m a p ]

  pub new_all : (P : Message K V → Type 0) (ms ns : List (Message K V)) → All P ms → All P ns → All P (with_all_new net ms ns)
  new_all P ms [] a b = a
  new_all P ms (n ∷ ns) a b = new_all P (with_new net ms n) ns (new_one P ms n a (All-head P n ns b)) (All-tail P n ns b)

  pub old_one : (ms : List (Message K V)) (m x : Message K V) → Contains ms x → Contains (with_new net ms m) x
  old_one ms m x c = elim (is_in net ms m) as (λ b. Contains (if b then ms else ms ++ m ∷ []) x) [ true ↦ c | false ↦ Contains-append_left ms (m ∷ []) x c ]

  pub old_all : (ms ns : List (Message K V)) (x : Message K V) → Contains ms x → Contains (with_all_new net ms ns) x
  old_all ms [] x c = c
  old_all ms (n ∷ ns) x c = old_all (with_new net ms n) ns x (old_one ms n x c)

  module _ (is : IsNet net) where
    pub is_in-has : (ms : List (Message K V)) (m : Message K V) → is_in net ms m ≡ true → Contains ms m
    is_in-has [] m e = cc
    is_in-has (x ∷ xs) m e = elim (net.is_same m x) as (λ b. net.is_same m x ≡ b → (b || is_in net xs m) ≡ true → Contains (x ∷ xs) m) [
      | true ↦ λ t e. subst (Contains (x ∷ xs)) (sym ((is.same m x).0 t)) (has_head x xs)
      | false ↦ λ t e. has_behind x xs m (is_in-has xs m e)
    ] refl e

    pub has_one : (ms : List (Message K V)) (m : Message K V) → Contains (with_new net ms m) m
    has_one ms m = elim (is_in net ms m) as (λ b. is_in net ms m ≡ b → Contains (if b then ms else ms ++ m ∷ []) m) [
      | true ↦
          λ t. is_in-has ms m t
      | false ↦ λ t. Contains-push ms m
    ] refl

    pub has_all : (ms ns : List (Message K V)) → All (Contains (with_all_new net ms ns)) ns
    has_all ms [] = All-nil (Contains ms)
    has_all ms (n ∷ ns) = All-cons (Contains (with_all_new net ms (n ∷ ns))) n ns (old_all (with_new net ms n) ns n (has_one ms n))
        (has_all (with_new net ms n) ns)
