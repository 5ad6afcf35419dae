-- A word after a mark.
use Rattle.std.proofs.Common.{◌≡◌, ℕ, ◌-◌, ◌^◌, ◌<◌, ◌≤◌, Bool, true, false, cond, min, Option, Some, refl, sym, ap, ◌∙◌, subst, arith}
use Rattle.std.specs.Ordering.{eq_by_cmp, is_eq}
use Rattle.std.specs.Cmp.{eq_by_cmp_equiv}
use Rattle.std.specs.Option.{unwrap_or}
use Rattle.std.specs.BTreeMap.{is_at, get}
use Rattle.aria_base.specs.Orders.{key_cmp}
use Rattle.aria_base.specs.declared.keys.Key.{Key}
use Rattle.aria_base.proofs.Orders.{key_cmp_total, key_cmp-IsAntisymmetric, derived_cmp, derived-is}
use Rattle.batch_rules.proofs.Maps.{same_key}
use Rattle.core_machine.specs.Machines.{marked}
use Rattle.core_machine.specs.Words.{word_in}
use Rattle.core_machine.specs.declared.words.Words.{Words}

pub stays : (w : Words) (k : Key) (n : ℕ) → word_in w k ≤ n → (q : Key) → word_in w q ≡ marked key_cmp (word_in w) (Some k) n q
stays w k n le q = elim (eq_by_cmp key_cmp q k) as (λ b. eq_by_cmp key_cmp q k ≡ b → word_in w q ≡ cond b (min (word_in w q) n) (word_in w q)) [
  | true ↦ λ t. let here : word_in w q ≤ n = subst (λ k. word_in w k ≤ n) (sym (same_key key_cmp-IsAntisymmetric q k t)) le in omega arith
  | false ↦ λ t. refl
] refl

pub falls_to : (v w : Words) (k : Key) (n : ℕ) → n < word_in v k
    → ((q : Key) → get derived_cmp w.map q ≡ cond (is_at (derived_cmp k) q) (Some n) (get derived_cmp v.map q)) → (q : Key)
    → word_in w q ≡ marked key_cmp (word_in v) (Some k) n q
falls_to v w k n above is q = ap (λ r. unwrap_or r (2 ^ 64 - 1)) (is q)
    ∙ ap (λ b. unwrap_or (cond b (Some n) (get derived_cmp v.map q)) (2 ^ 64 - 1)) (ap is_eq (derived-is k q) ∙ (eq_by_cmp_equiv key_cmp_total).symm k q)
    ∙ elim (eq_by_cmp key_cmp q k) as (λ b. eq_by_cmp key_cmp q k ≡ b
    → unwrap_or (cond b (Some n) (get derived_cmp v.map q)) (2 ^ 64 - 1) ≡ cond b (min (word_in v q) n) (word_in v q)) [
      | true ↦ λ t. let here : n < word_in v q = subst (λ k. n < word_in v k) (sym (same_key key_cmp-IsAntisymmetric q k t)) above in omega arith
      | false ↦ λ t. refl
    ] refl
