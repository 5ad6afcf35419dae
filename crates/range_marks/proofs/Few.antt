-- Keys that get numbers are those of the sets; so there are no more numbers than a list has keys that has each of them.
use Rattle.std.proofs.Common.{◌≡◌, ℕ, ◌-◌, ◌≤◌, suc, List, [], ◌∷◌, length, Bool, true, false, cond, None, Some, refl, sym, ap, ◌∙◌, arith}
use Rattle.std.specs.Prelude.{if◌then◌else◌, is_some, ◌||◌}
use Rattle.std.specs.List.{All}
use Rattle.std.specs.Ordering.{eq_by_cmp}
use Rattle.std.specs.FinMap as fin
use Rattle.std.proofs.lemmas.List.Elements.{All-head, All-tail}
use Rattle.aria_base.specs.Orders.{key_cmp}
use Rattle.aria_base.specs.declared.keys.Key.{Key}
use Rattle.aria_base.proofs.Orders.{key_cmp_total, key_cmp-IsAntisymmetric}
use Rattle.batch_rules.specs.Touches.{is_among}
use Rattle.batch_rules.proofs.Maps.{same_key}
use Rattle.dep_rules.specs.declared.sets.Sets.{Sets}
use Rattle.key_numbering.specs.Numbers.{Numbers, with_key, with_keys, with_sets, numbers_of}
use Rattle.range_marks.specs.Within.{IsWithin}

one_less : (b : Bool) (n less many : ℕ) → less ≡ cond b (n - 1) n → less ≤ many → n ≤ suc many
one_less true n less many e h = omega arith
one_less false n less many e h = omega arith

-- a map has at most as many keys as a list that has all of them
module _ {X : Type 0} where
  behind : (m : fin.FinMap key_cmp X) (k : Key) (ks : List Key) → ((q : Key) → fin.contains_key m q ≡ true → is_among key_cmp (k ∷ ks) q ≡ true)
      → (q : Key) → fin.contains_key (fin.remove m k) q ≡ true → is_among key_cmp ks q ≡ true
  behind m k ks all q h = elim (eq_by_cmp key_cmp q k) as (λ e. eq_by_cmp key_cmp q k ≡ e → is_some (cond e None (fin.get m q)) ≡ true → is_among key_cmp ks q
      ≡ true) [
        | true ↦ λ t none. cc
        | false ↦ λ t some. sym (ap (λ b. b || is_among key_cmp ks q) t) ∙ all q some
      ] refl (sym (ap is_some (fin.get-remove key_cmp_total m k q)) ∙ h)

  nothing_in : (m : fin.FinMap key_cmp X) → ((q : Key) → fin.contains_key m q ≡ true → false ≡ true) → m ≡ fin.empty
  nothing_in m all = fin.same_map key_cmp_total key_cmp-IsAntisymmetric m fin.empty (λ q.
      elim (fin.get m q) as (λ r. fin.get m q ≡ r → r ≡ fin.get {R = key_cmp} fin.empty q)
      [ None ↦ λ r. sym (fin.get-empty key_cmp q) | Some x ↦ λ r. cc (all q (ap is_some r)) ] refl)

  pub len_within : (m : fin.FinMap key_cmp X) (ks : List Key) → ((q : Key) → fin.contains_key m q ≡ true → is_among key_cmp ks q ≡ true) → fin.len m ≤ length ks
  len_within m [] all = let none : fin.len m ≡ 0 = ap fin.len (nothing_in m all) ∙ fin.len-empty key_cmp X in omega arith
  len_within m (k ∷ ks) all = one_less (fin.contains_key m k) (fin.len m) (fin.len (fin.remove m k)) (length ks) (fin.len-remove key_cmp_total m k)
      (len_within (fin.remove m k) ks (behind m k ks all))

module _ (keys : List Key) where
  abbrev Among : Key → Type 0
  Among k = is_among key_cmp keys k ≡ true

  pub record Inside (n : Numbers) : Type 0 where
    pub all : (q : Key) → fin.contains_key n q ≡ true → is_among key_cmp keys q ≡ true

  with_key-inside : (n : Numbers) (k : Key) → Inside n → Among k → Inside (with_key n k)
  with_key-inside n k inside among = record {
    all = λ q. elim (fin.contains_key n k) as (λ b. fin.contains_key (if b then n else fin.insert n k (fin.len n)) q ≡ true → Among q) [
      | true ↦ inside.all q
      | false ↦ λ h. elim (eq_by_cmp key_cmp q k) as (λ e. eq_by_cmp key_cmp q k ≡ e → is_some (cond e (Some (fin.len n)) (fin.get n q)) ≡ true → Among q) [
        | true ↦ λ e _. ap (is_among key_cmp keys) (same_key key_cmp-IsAntisymmetric q k e) ∙ among
        | false ↦ λ e there. inside.all q there
      ] refl (sym (ap is_some (fin.get-insert key_cmp_total n k (fin.len n) q)) ∙ h)
    ];
  }

  with_keys-inside : (n : Numbers) (ks : List Key) → Inside n → All Among ks → Inside (with_keys n ks)
  with_keys-inside n [] inside all = inside
  with_keys-inside n (k ∷ ks) inside all = with_keys-inside (with_key n k) ks (with_key-inside n k inside (All-head Among k ks all)) (All-tail Among k ks all)

  with_sets-inside : (n : Numbers) (ss : List Sets) → Inside n → All (IsWithin keys) ss → Inside (with_sets n ss)
  with_sets-inside n [] inside all = inside
  with_sets-inside n (s ∷ ss) inside all =
      let own = All-head (IsWithin keys) s ss all in
      with_sets-inside (with_keys (with_keys n s.reads) s.writes) ss
      (with_keys-inside (with_keys n s.reads) s.writes (with_keys-inside n s.reads inside own.reads) own.writes) (All-tail (IsWithin keys) s ss all)

  none-inside : Inside fin.empty
  none-inside = record { all = λ q h. cc (sym (ap is_some (fin.get-empty {X = ℕ} key_cmp q)) ∙ h) }

  pub few_numbers : (sets : List Sets) → All (IsWithin keys) sets → fin.len (numbers_of sets) ≤ length keys
  few_numbers sets all = len_within (numbers_of sets) keys (with_sets-inside fin.empty sets none-inside all).all
