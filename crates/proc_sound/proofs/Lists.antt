-- Lists of kinds, and a list that is changed at one place.
use Rattle.std.proofs.Common.{◌≡◌, ◌⊎◌, ℕ, zero, suc, Bool, true, false, List, [], ◌∷◌, ◌++◌, length, map, take, drop, slice_get, slice_index_or, slice_set, Option, Some, None, refl, sym, ap, ◌∙◌, inl, inr}
use Rattle.std.specs.List.{list_all}
use Rattle.std.proofs.lemmas.Bool.{and_parts}
use Rattle.std.specs.Cmp.Lexicographic.{pointwise_decides}
use Rattle.std.proofs.Math.Seq.{take-append_seam, drop-append_seam}
use Rattle.std.proofs.lemmas.Option.{same_Some, none-some}
use Rattle.aria_base.specs.Kinds.{value_kind, part_kind}
use Rattle.aria_base.specs.declared.values.Value.{Value}
use Rattle.aria_base.specs.declared.values.Value.TheVariants as value
use Rattle.aria_base.specs.declared.values.Kind.{Kind}
use Rattle.aria_base.specs.declared.values.Kind.TheVariants.{Int, Text}
use Rattle.proc_lang.specs.Meaning.{part_of}
use Rattle.proc_lang.specs.Typing.{same_kind, set_in_both}
use Rattle.proc_sound.specs.Careful.{same_kinds}

-- ---- kinds

pub same_kind-decides : (k l : Kind) → (same_kind k l ≡ true → k ≡ l) × (k ≡ l → same_kind k l ≡ true)
same_kind-decides Int Int = (λ e. refl, λ e. refl)
same_kind-decides Int Text = (λ e. cc, λ e. cc)
same_kind-decides Text Int = (λ e. cc, λ e. cc)
same_kind-decides Text Text = (λ e. refl, λ e. refl)

pub same_kinds-decides : (ks ls : List Kind) → (same_kinds ks ls ≡ true → ks ≡ ls) × (ks ≡ ls → same_kinds ks ls ≡ true)
same_kinds-decides = pointwise_decides same_kind-decides

pub parts_kinds : (vs : List Value) → map part_kind (map part_of vs) ≡ map value_kind vs
parts_kinds [] = refl
parts_kinds (value.Int n ∷ vs) = ap (λ ks. Int ∷ ks) (parts_kinds vs)
parts_kinds (value.Text bytes ∷ vs) = ap (λ ks. Text ∷ ks) (parts_kinds vs)

pub kind_at : (vs : List Value) (n : ℕ) (k : Kind) → slice_get (map value_kind vs) n ≡ Some k → (v : Value) × (slice_get vs n ≡ Some v) × (value_kind v ≡ k)
kind_at [] n k e = absurd (none-some k e)
kind_at (v ∷ vs) zero k e = (v, refl, same_Some _ _ e)
kind_at (v ∷ vs) (suc n) k e = kind_at vs n k e

-- two lists joined are two others joined, if the first ones are as long
pub fronts_same : (xs us ys vs : List Kind) → xs ++ us ≡ ys ++ vs → length xs ≡ length ys → (xs ≡ ys) × (us ≡ vs)
fronts_same xs us ys vs e l = (
  sym (take-append_seam xs us) ∙ (λ i. take (l i) (e i)) ∙ take-append_seam ys vs,
  sym (drop-append_seam xs us) ∙ (λ i. drop (l i) (e i))
      ∙ drop-append_seam ys vs,
)

-- ---- one place

pub all_at : {X : Type 0} (test : X → Bool) (xs : List X) (n : ℕ) (x : X) → list_all test xs ≡ true → slice_get xs n ≡ Some x → test x ≡ true
all_at test [] n x a e = absurd (none-some x e)
all_at test (y ∷ xs) zero x a e = ap test (sym (same_Some _ _ e)) ∙ (and_parts (test y) (list_all test xs) a).0
all_at test (y ∷ xs) (suc n) x a e = all_at test xs n x (and_parts (test y) (list_all test xs) a).1 e

pub set_same : {X : Type 0} (xs : List X) (n : ℕ) (x : X) → slice_get xs n ≡ Some x → slice_set xs n x ≡ xs
set_same [] n x e = refl
set_same (y ∷ xs) zero x e = ap (λ z. z ∷ xs) (sym (same_Some _ _ e))
set_same (y ∷ xs) (suc n) x e = ap (λ zs. y ∷ zs) (set_same xs n x e)

-- a register that was the other list's element is it still when both are changed at one place, and is it at that place
pub kept_set : {X : Type 0} (os : List (Option X)) (xs : List X) (n m : ℕ) (x : X) → length os ≡ length xs → slice_index_or os m None ≡ slice_get xs m
    → slice_index_or (slice_set os n (Some x)) m None ≡ slice_get (slice_set xs n x) m
kept_set [] [] n m x l e = refl
kept_set [] (y ∷ xs) n m x l e = cc
kept_set (o ∷ os) [] n m x l e = cc
kept_set (o ∷ os) (y ∷ xs) zero zero x l e = refl
kept_set (o ∷ os) (y ∷ xs) zero (suc m) x l e = e
kept_set (o ∷ os) (y ∷ xs) (suc n) zero x l e = e
kept_set (o ∷ os) (y ∷ xs) (suc n) (suc m) x l e = kept_set os xs n m x (cc) e

pub held_set : {X : Type 0} (os : List (Option X)) (xs : List X) (n : ℕ) (x : X) → length os ≡ length xs
    → slice_index_or (slice_set os n (Some x)) n None ≡ slice_get (slice_set xs n x) n
held_set [] [] n x l = refl
held_set [] (y ∷ xs) n x l = cc
held_set (o ∷ os) [] n x l = cc
held_set (o ∷ os) (y ∷ xs) zero x l = refl
held_set (o ∷ os) (y ∷ xs) (suc n) x l = held_set os xs n x (cc)

-- ---- which registers are set

abbrev pub IsSet : List Bool → ℕ → Type 0
IsSet set n = slice_index_or set n false ≡ true

pub IsSet-slice_set : (set : List Bool) (n m : ℕ) → IsSet (slice_set set n true) m → IsSet set m ⊎ (m ≡ n)
IsSet-slice_set [] n m e = inl e
IsSet-slice_set (b ∷ set) zero zero e = inr refl
IsSet-slice_set (b ∷ set) zero (suc m) e = inl e
IsSet-slice_set (b ∷ set) (suc n) zero e = inl e
IsSet-slice_set (b ∷ set) (suc n) (suc m) e = elim (IsSet-slice_set set n m e) [ inl s ↦ inl s | inr s ↦ inr (ap suc s) ]

pub IsSet-set_in_both : (xs ys : List Bool) (n : ℕ) → IsSet (set_in_both xs ys) n → IsSet xs n × IsSet ys n
IsSet-set_in_both [] ys n e = cc
IsSet-set_in_both (x ∷ xs) [] n e = cc
IsSet-set_in_both (true ∷ xs) (true ∷ ys) zero e = (refl, refl)
IsSet-set_in_both (true ∷ xs) (false ∷ ys) zero e = cc
IsSet-set_in_both (false ∷ xs) (y ∷ ys) zero e = cc
IsSet-set_in_both (x ∷ xs) (y ∷ ys) (suc n) e = IsSet-set_in_both xs ys n e

pub none_set : {X : Type 0} (xs : List X) (n : ℕ) → ¬ IsSet (map (λ _. false) xs) n
none_set [] n e = cc
none_set (x ∷ xs) zero e = cc
none_set (x ∷ xs) (suc n) e = none_set xs n e
