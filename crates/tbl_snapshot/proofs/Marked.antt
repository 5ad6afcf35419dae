-- The bits of hashes: a key whose bit is not set is none of those that set theirs.
use Rattle.std.proofs.Common.{◌≡◌, ℕ, ◌<◌, ◌^◌, List, [], ◌∷◌, ◌++◌, Option, Some, None, true, false, ◌||◌, max, refl, sym, ap, ◌∙◌, arith}
use Rattle.std.specs.Prelude.{slice_index_or, is_some, MatchOption}
use Rattle.std.specs.Int.{bit_at}
use Rattle.std.specs.List.{position}
use Rattle.std.specs.Ordering.{eq_by_cmp}
use Rattle.std.specs.FinMap as fin
use Rattle.std.specs.FinMap.Entries as entries
use Rattle.std.proofs.lemmas.Nat.Bits.{bit_at_or, bit_at-lt, bit_at-pow_same}
use Rattle.aria_base.specs.Orders.{key_cmp, Cells}
use Rattle.aria_base.specs.declared.keys.Key.{Key}
use Rattle.batch_rules.specs.Touches.{is_among, keys_of}
use Rattle.tbl_rows.specs.Hashes.{hash_of}
use Rattle.aria_base.proofs.Orders.{same_key}
use Rattle.tbl_snapshot.specs.Marks.{bit_of, with_bit, AllMarked}
use Rattle.tbl_snapshot.specs.Layers.{Buffer}
use Rattle.tbl_snapshot.proofs.Buffers.{is_write_of, find-none, find-at, is_at-position}

-- a bit that is set stays set, and the hash's own is set
set_at_most : (x y : ℕ) → x ≡ 1 → y < 2 → max x y ≡ 1
set_at_most x y is below = omega (arith, is, below)

set_either : (x y : ℕ) → x < 2 → y ≡ 1 → max x y ≡ 1
set_either x y below is = omega (arith, is, below)

stays : (bits hash at : ℕ) → bit_at bits at ≡ 1 → bit_at (with_bit bits hash) at ≡ 1
stays bits hash at is = bit_at_or bits (2 ^ bit_of hash) at ∙ set_at_most (bit_at bits at) (bit_at (2 ^ bit_of hash) at) is (bit_at-lt (2 ^ bit_of hash) at)

own : (bits hash : ℕ) → bit_at (with_bit bits hash) (bit_of hash) ≡ 1
own bits hash = bit_at_or bits (2 ^ bit_of hash) (bit_of hash)
    ∙ set_either (bit_at bits (bit_of hash)) (bit_at (2 ^ bit_of hash) (bit_of hash)) (bit_at-lt bits (bit_of hash)) (bit_at-pow_same (bit_of hash))

pub marked_more : (bits hash : ℕ) (keys : List Key) (k : Key) → hash ≡ hash_of k → AllMarked bits keys → AllMarked (with_bit bits hash) (keys ++ k ∷ [])
marked_more bits hash [] k is all = (ap (λ h. bit_at (with_bit bits hash) (bit_of h)) (sym is) ∙ own bits hash, tt)
marked_more bits hash (x ∷ xs) k is all = (stays bits hash (bit_of (hash_of x)) all.0, marked_more bits hash xs k is all.1)

pub not_among : (bits : ℕ) (keys : List Key) (q : Key) → AllMarked bits keys → bit_at bits (bit_of (hash_of q)) ≡ 0 → is_among key_cmp keys q ≡ false
not_among bits [] q all clear = refl
not_among bits (x ∷ xs) q all clear =
    elim (eq_by_cmp key_cmp q x) as (λ b. eq_by_cmp key_cmp q x ≡ b → (b || is_among key_cmp xs q) ≡ false) [
      | true ↦ λ tied. let one : bit_at bits (bit_of (hash_of q)) ≡ 1 = ap (λ k. bit_at bits (bit_of (hash_of k))) (same_key q x tied)
          ∙ all.0 in absurd (omega (arith, clear, one))
      | false ↦ λ _. not_among bits xs q all.1 clear
    ] refl

-- of writes
none_by : (found : Option (Option Cells)) → is_some found ≡ false → found ≡ None
none_by None is = refl
none_by (Some row) is = cc

pub find_none : (bits hash : ℕ) (ws : Buffer) (q : Key) → hash ≡ hash_of q → AllMarked bits (keys_of ws) → bit_at bits (bit_of hash) ≡ 0
    → fin.find key_cmp q ws ≡ None
find_none bits hash ws q is all clear = let unset : bit_at bits (bit_of (hash_of q)) ≡ 0 = ap (λ h. bit_at bits (bit_of h)) (sym is)
    ∙ clear in none_by (fin.find key_cmp q ws) (entries.is_some-find key_cmp q ws ∙ not_among bits (keys_of ws) q all unset)

pub placed : (ws : Buffer) (q : Key) (r : Option ℕ) → r ≡ position (is_write_of q) ws
    → MatchOption r (fin.find key_cmp q ws ≡ None) (λ i. position (is_write_of q) ws ≡ Some i)
placed ws q None is = find-none ws q (sym is)
placed ws q (Some i) is = sym is

-- what is found at a place, and whether a key is written
pub found_at : (ws : Buffer) (q : Key) (i : ℕ) (old : Key × Option Cells) → position (is_write_of q) ws ≡ Some i → old ≡ slice_index_or ws i old
    → Some old.1 ≡ fin.find key_cmp q ws
found_at ws q i old some is = ap (λ w. Some w.1) is ∙ sym (find-at ws q i old (is_at-position ws q i old some))

pub has-some : (ws : Buffer) (q : Key) (i : ℕ) → position (is_write_of q) ws ≡ Some i → true ≡ is_among key_cmp (keys_of ws) q
has-some ws q i some = sym (sym (entries.is_some-find key_cmp q ws) ∙ ap is_some (find-at ws q i (q, None) (is_at-position ws q i (q, None) some)))

pub has-none : (ws : Buffer) (q : Key) → fin.find key_cmp q ws ≡ None → false ≡ is_among key_cmp (keys_of ws) q
has-none ws q none = sym (sym (entries.is_some-find key_cmp q ws) ∙ ap is_some none)
