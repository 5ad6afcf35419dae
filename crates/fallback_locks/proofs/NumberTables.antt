-- The list by numbers, when the entry at one number is set.
use Rattle.std.proofs.Common.{◌≡◌, ℕ, ◌<◌, List, length, Bool, true, false, refl, sym, ap, ◌∙◌}
use Rattle.std.specs.Ordering.{eq_by_cmp, nat_cmp}
use Rattle.std.specs.Cmp.{unsigned_tied}
use Rattle.std.proofs.lemmas.Bool.{eqb-true, eqb-false}
use Rattle.std.proofs.lemmas.List.{get_or-set_other}
use Rattle.std.proofs.lemmas.Grind.{get_or-set_at}
use Rattle.std.specs.Prelude.{nat_eq, set}
use Rattle.fallback_locks.specs.declared.lasts.Last.{Last}
use Rattle.fallback_locks.specs.LastWaves.{last_at}

-- the entry is what this makes of the one before
pub noted_at : (noted : Bool → Last → Last) → ((last : Last) → noted false last ≡ last) → (lasts : List Last) (k q : ℕ) → k < length lasts
    → last_at (set lasts k (noted true (last_at lasts k))) q ≡ noted (eq_by_cmp nat_cmp q k) (last_at lasts q)
noted_at noted none lasts k q below =
    (elim (nat_eq q k) as (λ b. nat_eq q k ≡ b → last_at (set lasts k (noted true (last_at lasts k))) q ≡ noted b (last_at lasts q)) [
      | true ↦ λ e. get_or-set_at lasts k q (noted true (last_at lasts k)) (record { reader = 0; writer = 0 }) (eqb-true q k e) below
          ∙ ap (λ n. noted true (last_at lasts n)) (sym (eqb-true q k e))
      | false ↦ λ e. get_or-set_other lasts k q (noted true (last_at lasts k)) (record { reader = 0; writer = 0 }) (eqb-false q k e)
          ∙ sym (none (last_at lasts q))
    ] refl)
    ∙ ap (λ b. noted b (last_at lasts q)) (sym (unsigned_tied q k))
