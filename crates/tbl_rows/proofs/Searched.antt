-- A list of keys with values, searched from its front.
use Rattle.std.proofs.Common.{◌≡◌, ℕ, zero, suc, ◌+◌, ◌<◌, List, [], ◌∷◌, length, Option, Some, None, Bool, cond, true, false, refl, sym, ap, ◌∙◌, arith}
use Rattle.std.specs.Prelude.{slice_index_or, slice_set}
use Rattle.std.specs.Option.{option_or}
use Rattle.std.specs.List.{position, position_from}
use Rattle.std.specs.Ordering.{eq_by_cmp}
use Rattle.std.specs.FinMap as fin
use Rattle.std.proofs.lemmas.List.Quantifiers.{position-Some}
use Rattle.std.proofs.lemmas.Iterator.Adapters.{position_from-zero}
use Rattle.aria_base.specs.Orders.{key_cmp}
use Rattle.aria_base.specs.declared.keys.Key.{Key}
use Rattle.aria_base.proofs.Orders.{same_key}

pub apart_stays : {A : Type 0} (q k : Key) (w x : A) → (q ≡ k → ⊥) → cond (eq_by_cmp key_cmp q k) w x ≡ x
apart_stays q k w x apart =
    elim (eq_by_cmp key_cmp q k) as (λ b. eq_by_cmp key_cmp q k ≡ b → cond b w x ≡ x) [
      | true ↦ λ tied. absurd (apart (same_key q k tied))
      | false ↦ λ _. refl
    ] refl

module _ {X : Type 0} where
  pub or_none : (v : Option X) → option_or v None ≡ v
  or_none None = refl
  or_none (Some v) = refl

  -- whether an entry is at the key
  abbrev pub is_entry_of : Key → Key × X → Bool
  is_entry_of q e = eq_by_cmp key_cmp q e.0

  none_from : (n : ℕ) (es : List (Key × X)) (q : Key) → position_from (is_entry_of q) n es ≡ None → fin.find key_cmp q es ≡ None
  none_from n [] q none = refl
  none_from n (e ∷ es) q none =
      elim (eq_by_cmp key_cmp q e.0) as (λ b. cond b (Some n) (position_from (is_entry_of q) (n + 1) es) ≡ None
      → cond b (Some e.1) (fin.find key_cmp q es) ≡ None) [
        | true ↦ λ some. cc
        | false ↦ λ rest. none_from (n + 1) es q rest
      ] none

  pub find-none : (es : List (Key × X)) (q : Key) → position (is_entry_of q) es ≡ None → fin.find key_cmp q es ≡ None
  find-none es q none = none_from 0 es q (sym (position_from-zero (is_entry_of q) es) ∙ none)

  -- the first entry of the key stands at this place
  pub record IsAt (es : List (Key × X)) (q : Key) (i : ℕ) (d : Key × X) : Type 0 where
    pub below : i < length es
    pub here : is_entry_of q (slice_index_or es i d) ≡ true
    pub before : (k : ℕ) → k < i → is_entry_of q (slice_index_or es k d) ≡ false

  pub is_at-position : (es : List (Key × X)) (q : Key) (i : ℕ) (d : Key × X) → position (is_entry_of q) es ≡ Some i → IsAt es q i d
  is_at-position es q i d some = let p = position-Some (is_entry_of q) es i d some in record { below = p.0; here = p.1; before = p.2 }

  pub later : (e : Key × X) (es : List (Key × X)) (q : Key) (i : ℕ) (d : Key × X) → IsAt (e ∷ es) q (suc i) d → IsAt es q i d
  later e es q i d at = record { below = omega (arith, at.below); here = at.here; before = λ k below. at.before (suc k) (omega (arith, below)) }

  pub find-at : (es : List (Key × X)) (q : Key) (i : ℕ) (d : Key × X) → IsAt es q i d → fin.find key_cmp q es ≡ Some (slice_index_or es i d).1
  find-at [] q i d at = absurd (omega (arith, at.below))
  find-at (e ∷ es) q zero d at = ap (λ b. cond b (Some e.1) (fin.find key_cmp q es)) at.here
  find-at (e ∷ es) q (suc i) d at = ap (λ b. cond b (Some e.1) (fin.find key_cmp q es)) (at.before 0 (omega arith)) ∙ find-at es q i d (later e es q i d at)

  covered : (b : Bool) (v w : X) (found : Option X) → cond b (Some v) found ≡ cond b (Some v) (cond b (Some w) found)
  covered true v w found = refl
  covered false v w found = refl

  -- an entry of another key comes first
  passed : (q k : Key) (e : Key × X) (v : X) (found : Option X) → is_entry_of k e ≡ false
      → cond (eq_by_cmp key_cmp q e.0) (Some e.1) (cond (eq_by_cmp key_cmp q k) (Some v) found) ≡ cond (eq_by_cmp key_cmp q k) (Some v)
      (cond (eq_by_cmp key_cmp q e.0) (Some e.1) found)
  passed q k e v found apart =
      elim (eq_by_cmp key_cmp q k) as (λ b. eq_by_cmp key_cmp q k ≡ b
      → cond (eq_by_cmp key_cmp q e.0) (Some e.1) (cond b (Some v) found) ≡ cond b (Some v) (cond (eq_by_cmp key_cmp q e.0) (Some e.1) found)) [
        | true ↦ λ tied. ap (λ b. cond b (Some e.1) (Some v)) (ap (λ x. eq_by_cmp key_cmp x e.0) (same_key q k tied) ∙ apart)
        | false ↦ λ _. refl
      ] refl

  -- the value at that place is replaced
  pub find-set : (es : List (Key × X)) (k q : Key) (v : X) (i : ℕ) (d : Key × X) → IsAt es k i d
      → fin.find key_cmp q (slice_set es i ((slice_index_or es i d).0, v)) ≡ cond (eq_by_cmp key_cmp q k) (Some v) (fin.find key_cmp q es)
  find-set [] k q v i d at = absurd (omega (arith, at.below))
  find-set (e ∷ es) k q v zero d at =
      covered (eq_by_cmp key_cmp q e.0) v e.1 (fin.find key_cmp q es)
      ∙ ap (λ x. cond (eq_by_cmp key_cmp q x) (Some v) (cond (eq_by_cmp key_cmp q e.0) (Some e.1) (fin.find key_cmp q es))) (sym (same_key k e.0 at.here))
  find-set (e ∷ es) k q v (suc i) d at =
      ap (cond (eq_by_cmp key_cmp q e.0) (Some e.1)) (find-set es k q v i d (later e es k i d at))
      ∙ passed q k e v (fin.find key_cmp q es) (at.before 0 (omega arith))
