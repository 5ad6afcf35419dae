-- The table by keys, when the entry of a key is set. The map goes by the derived order.
use Rattle.std.proofs.Common.{◌≡◌, Bool, true, false, cond, Option, Some, refl, ap, ◌∙◌, subst, sym, Ordering}
use Rattle.std.specs.Ordering.{eq_by_cmp, is_eq}
use Rattle.std.proofs.lemmas.Cmp.{eq_by_cmp_equiv}
use Rattle.aria_base.specs.Orders.{key_cmp}
use Rattle.aria_base.specs.declared.keys.Key.{Key}
use Rattle.aria_base.proofs.Orders.{key_cmp_total, key_cmp-IsAntisymmetric, derived_cmp, derived_same}
use Rattle.batch_rules.proofs.Maps.{same_key}
use Rattle.fallback_locks.specs.declared.lasts.Last.{Last}
use Rattle.fallback_locks.specs.LastWaves.{or_none}

module _ (f g : (Key → Key → Ordering) → Option Last) (q k : Key) (next : Last)
    (set : g derived_cmp ≡ cond (is_eq (derived_cmp k q)) (Some next) (f derived_cmp)) where
  by_key_order : g key_cmp ≡ cond (eq_by_cmp key_cmp q k) (Some next) (f key_cmp)
  by_key_order =
      subst (λ cmp. g cmp ≡ cond (is_eq (cmp k q)) (Some next) (f cmp)) derived_same set
      ∙ ap (λ b. cond b (Some next) (f key_cmp)) ((eq_by_cmp_equiv key_cmp_total).symm k q)

  -- the entry is what this makes of the one before
  pub noted_at : (noted : Bool → Last → Last) → ((last : Last) → noted false last ≡ last) → (q ≡ k → next ≡ noted true (or_none (f key_cmp)))
      → or_none (g key_cmp) ≡ noted (eq_by_cmp key_cmp q k) (or_none (f key_cmp))
  noted_at noted none is = ap or_none by_key_order ∙ elim (eq_by_cmp key_cmp q k) as (λ b. eq_by_cmp key_cmp q k ≡ b
      → or_none (cond b (Some next) (f key_cmp)) ≡ noted b (or_none (f key_cmp))) [
        | true ↦ λ e. is (same_key key_cmp-IsAntisymmetric q k e)
        | false ↦ λ e. sym (none (or_none (f key_cmp)))
      ] refl
