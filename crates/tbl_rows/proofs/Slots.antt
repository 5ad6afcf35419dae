-- Which bucket a hash has, before and after a bucket is split.
use Rattle.std.proofs.Common.{◌≡◌, ℕ, ◌+◌, ◌-◌, ◌*◌, ◌/◌, ◌%◌, ◌^◌, ◌<◌, ◌≤◌, ◌⊎◌, inl, inr, ⊎_elim, true, false, cond, eqb, ltb, refl, sym, ap, ◌∙◌, arith}
use Rattle.std.specs.Int.Bits.{bit_and}
use Rattle.std.proofs.Math.Pow.{pow-lt}
use Rattle.std.proofs.Math.Nat.{mod-eq_of_lt, mod-lt}
use Rattle.std.proofs.lemmas.Nat.{and_mask, mod-pow-add, pow_pos}
use Rattle.std.proofs.lemmas.Bool.{ne_eqb, ltb-true, ltb-false, cases_eq}
use Rattle.std.specs.Ordering.{eq_by_cmp}
use Rattle.aria_base.specs.Orders.{key_cmp}
use Rattle.aria_base.specs.declared.keys.Key.{Key}
use Rattle.tbl_rows.specs.Hashes.{hash_of}
use Rattle.tbl_rows.specs.Pools.{slot}
use Rattle.tbl_rows.specs.declared.homes.TheConstants.{BUCKET_SHIFT}
use Rattle.aria_base.proofs.Orders.{same_key}

-- keys of two hashes are two
pub hash_apart : (k q : Key) (h g : ℕ) → h ≡ hash_of k → g ≡ hash_of q → (h ≡ g → ⊥) → eqb h g ≡ eq_by_cmp key_cmp k q
hash_apart k q h g of_k of_q apart =
    ne_eqb h g apart
    ∙ elim (eq_by_cmp key_cmp k q) as (λ b. eq_by_cmp key_cmp k q ≡ b → false ≡ b) [
      | true ↦ λ tied. absurd (apart (of_k ∙ ap hash_of (same_key k q tied) ∙ sym of_q))
      | false ↦ λ _. refl
    ] refl

-- what a shift computes
pub shifted : (k : ℕ) → k < 64 → 1 * 2 ^ k % 2 ^ 64 ≡ 2 ^ k
shifted k below = ap (λ n. n % 2 ^ 64) (omega arith) ∙ mod-eq_of_lt (pow-lt below)

pub mask : (word k : ℕ) → k < 64 → bit_and word (1 * 2 ^ k % 2 ^ 64 - 1) ≡ word % 2 ^ k
mask word k below = ap (λ n. bit_and word (n - 1)) (shifted k below) ∙ and_mask word k

-- a hash's bits with one more of them, or without it
abbrev pick : ℕ → ℕ → ℕ → ℕ
pick wide narrow count = cond (ltb wide count) wide narrow

picked : (wide narrow count : ℕ) → ((wide < count) × (pick wide narrow count ≡ wide)) ⊎ ((count ≤ wide) × (pick wide narrow count ≡ narrow))
picked wide narrow count =
    elim (ltb wide count) as (λ b. ltb wide count ≡ b → ((wide < count) × (cond b wide narrow ≡ wide)) ⊎ ((count ≤ wide) × (cond b wide narrow ≡ narrow))) [
      | true ↦ λ e. inl (ltb-true wide count e, refl)
      | false ↦ λ e. inr (ltb-false wide count e, refl)
    ] refl

record Bits (p wide narrow : ℕ) : Type 0 where
  below : narrow < p
  more : (wide ≡ narrow) ⊎ (wide ≡ narrow + p)

pick-below : (p wide narrow count : ℕ) → Bits p wide narrow → p ≤ count → pick wide narrow count < count
pick-below p wide narrow count bits least = ⊎_elim (λ w. omega (arith, w.0, w.1)) (λ n. omega (arith, n.1, bits.below)) (picked wide narrow count)

pick-moved : (p wide narrow count : ℕ) → Bits p wide narrow → p ≤ count → pick wide narrow (count + 1) ≡ count → pick wide narrow count + p ≡ count
pick-moved p wide narrow count bits least moved =
    ⊎_elim
    (λ w. ⊎_elim (λ v. absurd (omega (arith, w.1, v.0, moved)))
    (λ n. ⊎_elim (λ e. absurd (omega (arith, e, bits.below, n.0))) (λ e. omega (arith, e, n.1, w.1, moved)) bits.more) (picked wide narrow count))
    (λ w. absurd (omega (arith, w.1, bits.below, moved)))
    (picked wide narrow (count + 1))

pick-stays : (p wide narrow count : ℕ) → (pick wide narrow (count + 1) ≡ count → ⊥) → pick wide narrow (count + 1) ≡ pick wide narrow count
pick-stays p wide narrow count stays =
    ⊎_elim
    (λ w. ⊎_elim (λ v. w.1 ∙ sym v.1) (λ n. absurd (stays (omega (arith, w.0, w.1, n.0)))) (picked wide narrow count))
    (λ w. ⊎_elim (λ v. absurd (omega (arith, w.0, v.0))) (λ n. w.1 ∙ sym n.1) (picked wide narrow count))
    (picked wide narrow (count + 1))

bits-of : (bits level : ℕ) → Bits (2 ^ level) (bits % 2 ^ (level + 1)) (bits % 2 ^ level)
bits-of bits level =
    let digit = bits / 2 ^ level % 2 in
    let wide : bits % 2 ^ (level + 1) ≡ digit * 2 ^ level + bits % 2 ^ level = ap (λ n. bits % 2 ^ n) (omega arith) ∙ mod-pow-add bits 1 level in
    let few : digit < 2 = mod-lt (bits / 2 ^ level) (omega arith) in
    record {
      below = mod-lt bits (pow_pos level);
      more = ⊎_elim
          (λ e. inl (wide ∙ ap (λ d. d * 2 ^ level + bits % 2 ^ level) e ∙ omega arith))
          (λ apart. let one : digit ≡ 1 = omega (arith, few, apart) in inr (wide ∙ ap (λ d. d * 2 ^ level + bits % 2 ^ level) one ∙ omega arith))
          (cases_eq digit 0);
    }

key-bits : (level : ℕ) (q : Key) → Bits (2 ^ level) (hash_of q / 2 ^ BUCKET_SHIFT % 2 ^ (level + 1)) (hash_of q / 2 ^ BUCKET_SHIFT % 2 ^ level)
key-bits level q = bits-of (hash_of q / 2 ^ BUCKET_SHIFT) level

pub slot-below : (level count : ℕ) (q : Key) → 2 ^ level ≤ count → slot level count q < count
unfolding slot
slot-below level count q least = pick-below _ _ _ count (key-bits level q) least

-- the keys that move when one more bucket is made leave one bucket, and no other key moves
pub slot-moved : (level count : ℕ) (q : Key) → 2 ^ level ≤ count → slot level (count + 1) q ≡ count → slot level count q + 2 ^ level ≡ count
unfolding slot
slot-moved level count q least moved = pick-moved _ _ _ count (key-bits level q) least moved

pub slot-stays : (level count : ℕ) (q : Key) → (slot level (count + 1) q ≡ count → ⊥) → slot level (count + 1) q ≡ slot level count q
unfolding slot
slot-stays level count q stays = pick-stays (2 ^ level) _ _ count stays

-- once every bucket is split, the next round begins
pub slot-round : (level count : ℕ) (q : Key) → count ≡ 2 ^ (level + 1) → slot (level + 1) count q ≡ slot level count q
unfolding slot
slot-round level count q full =
    let bits = hash_of q / 2 ^ BUCKET_SHIFT in
    let now = key-bits (level + 1) q in
    ⊎_elim
    (λ w. w.1 ∙ ⊎_elim (λ e. e) (λ e. absurd (omega (arith, e, w.0, full))) now.more)
    (λ n. n.1)
    (picked (bits % 2 ^ (level + 1 + 1)) (bits % 2 ^ (level + 1)) count)
    ∙ sym (⊎_elim (λ w. w.1) (λ n. absurd (omega (arith, n.0, now.below, full))) (picked (bits % 2 ^ (level + 1)) (bits % 2 ^ level) count))
