-- Numbers in two places, of which the second has none of a key that has one in the first.
use Rattle.std.proofs.Common.{◌≡◌, ℕ, Bool, Option, Some, None, cond, true, false, refl, sym, ap, subst, ◌∙◌}
use Rattle.std.specs.Option.{IsSome, option_or}
use Rattle.std.specs.Ordering.{eq_by_cmp}
use Rattle.std.specs.FinMap as fin
use Rattle.aria_base.specs.Orders.{key_cmp}
use Rattle.aria_base.specs.declared.keys.Key.{Key}
use Rattle.aria_base.proofs.Orders.{key_cmp_total, key_cmp-IsAntisymmetric, same_key}
use Rattle.aria_base.proofs.Trees.{find-append}
use Rattle.key_numbering.specs.Beside.{beside, IsApart}
use Rattle.key_numbering.specs.Numbers.{Numbers}

pub get-beside : (near far : Numbers) (q : Key) → fin.get (beside near far) q ≡ option_or (fin.get near q) (fin.get far q)
get-beside near far q =
    fin.get-from_entries key_cmp_total _ q ∙ find-append q (fin.entries near) (fin.entries far)
    ∙ sym (λ i. option_or (fin.get-entries near q i) (fin.get-entries far q i))

pub found-near : (near far : Numbers) (q : Key) (n : ℕ) → fin.get near q ≡ Some n → fin.get (beside near far) q ≡ Some n
found-near near far q n is = get-beside near far q ∙ ap (λ r. option_or r (fin.get far q)) is

pub found-far : (near far : Numbers) (q : Key) → fin.get near q ≡ None → fin.get (beside near far) q ≡ fin.get far q
found-far near far q none = get-beside near far q ∙ ap (λ r. option_or r (fin.get far q)) none

neither : (near far : Option ℕ) → option_or near far ≡ None → (near ≡ None) × (far ≡ None)
neither None far e = (refl, e)
neither (Some n) far e = cc

-- a key with no number has none in either
pub in_neither : (near far : Numbers) (q : Key) → fin.get (beside near far) q ≡ None → (fin.get near q ≡ None) × (fin.get far q ≡ None)
in_neither near far q none = neither (fin.get near q) (fin.get far q) (sym (get-beside near far q) ∙ none)

-- ---- none in either

pub IsApart-bare : (near far : Numbers) → near ≡ fin.empty → IsApart near far
IsApart-bare near far bare q some = let there : IsSome {T = ℕ} None = subst IsSome (ap (λ m. fin.get m q) bare ∙ fin.get-empty key_cmp q) some in cc

pub beside-bare : (near far : Numbers) → near ≡ fin.empty → far ≡ fin.empty → beside near far ≡ fin.empty
beside-bare near far one two = fin.same_map key_cmp_total key_cmp-IsAntisymmetric _ _ (λ q.
    get-beside near far q ∙ ap (λ m. option_or (fin.get m q) (fin.get far q)) one ∙ ap (λ r. option_or r (fin.get far q)) (fin.get-empty key_cmp q)
    ∙ ap (λ m. fin.get m q) two)

-- ---- one more in either

or_put : (b : Bool) (n : ℕ) (near far : Option ℕ) → option_or (cond b (Some n) near) far ≡ cond b (Some n) (option_or near far)
or_put true n near far = refl
or_put false n near far = refl

pub beside-near : (near far : Numbers) (k : Key) (n : ℕ) → beside (fin.insert near k n) far ≡ fin.insert (beside near far) k n
beside-near near far k n = fin.same_map key_cmp_total key_cmp-IsAntisymmetric _ _ (λ q.
    get-beside (fin.insert near k n) far q ∙ ap (λ r. option_or r (fin.get far q)) (fin.get-insert key_cmp_total near k n q)
    ∙ or_put (eq_by_cmp key_cmp q k) n (fin.get near q) (fin.get far q)
    ∙ sym (fin.get-insert key_cmp_total (beside near far) k n q ∙ ap (cond (eq_by_cmp key_cmp q k) (Some n)) (get-beside near far q)))

pub beside-far : (near far : Numbers) (k : Key) (n : ℕ) → fin.get near k ≡ None → beside near (fin.insert far k n) ≡ fin.insert (beside near far) k n
beside-far near far k n none = fin.same_map key_cmp_total key_cmp-IsAntisymmetric _ _ (λ q.
    get-beside near (fin.insert far k n) q ∙ ap (λ r. option_or (fin.get near q) r) (fin.get-insert key_cmp_total far k n q)
    ∙ elim (eq_by_cmp key_cmp q k) as (λ b. eq_by_cmp key_cmp q k ≡ b
    → option_or (fin.get near q) (cond b (Some n) (fin.get far q)) ≡ cond b (Some n) (option_or (fin.get near q) (fin.get far q))) [
      | true ↦ λ tied. ap (λ r. option_or r (Some n)) (ap (fin.get near) (same_key q k tied) ∙ none)
      | false ↦ λ _. refl
    ] refl
    ∙ sym (fin.get-insert key_cmp_total (beside near far) k n q ∙ ap (cond (eq_by_cmp key_cmp q k) (Some n)) (get-beside near far q)))

pub apart-near : (near far : Numbers) (k : Key) (n : ℕ) → IsApart near far → fin.get far k ≡ None → IsApart (fin.insert near k n) far
apart-near near far k n apart none q some =
    elim (eq_by_cmp key_cmp q k) as (λ b. eq_by_cmp key_cmp q k ≡ b → IsSome (cond b (Some n) (fin.get near q)) → fin.get far q ≡ None) [
      | true ↦ λ tied _. ap (fin.get far) (same_key q k tied) ∙ none
      | false ↦ λ _ there. apart q there
    ] refl (subst IsSome (fin.get-insert key_cmp_total near k n q) some)

pub apart-far : (near far : Numbers) (k : Key) (n : ℕ) → IsApart near far → fin.get near k ≡ None → IsApart near (fin.insert far k n)
apart-far near far k n apart none q some =
    fin.get-insert key_cmp_total far k n q
    ∙ elim (eq_by_cmp key_cmp q k) as (λ b. eq_by_cmp key_cmp q k ≡ b → cond b (Some n) (fin.get far q) ≡ None) [
      | true ↦ λ tied. let there : IsSome {T = ℕ} None = subst IsSome (ap (fin.get near) (same_key q k tied) ∙ none) some in cc
      | false ↦ λ _. apart q some
    ] refl
