-- The buckets of a shard, one more of them: the rows are the same, and each stands in its bucket.
use Rattle.std.proofs.Common.{◌≡◌, ◌≢◌, ℕ, ◌+◌, ◌*◌, ◌%◌, ◌^◌, ◌<◌, ◌≤◌, List, [], ◌∷◌, ◌++◌, length, None, Bool, cond, true, false, not, refl, sym, ap, subst, ◌∙◌, ◌⊎◌, inl, inr, ⊎_elim, arith}
use Rattle.std.specs.Prelude.{slice_index_or, slice_set}
use Rattle.std.specs.Option.{IsSome}
use Rattle.std.specs.FinMap as fin
use Rattle.std.proofs.Math.ListN.{get_or-append}
use Rattle.std.proofs.Math.Nat.{mod-eq_of_lt}
use Rattle.std.proofs.Math.Pow.{pow_mono}
use Rattle.std.proofs.lemmas.Grind.{pow_more}
use Rattle.std.proofs.lemmas.Nat.{pow_pos}
use Rattle.std.proofs.lemmas.Bool.{cases_eq, eqb-true, eq-eqb, ne_eqb}
use Rattle.std.proofs.lemmas.List.{get_or_default, get_or-set_same, get_or-set_other, length-set, length_push, get_or_push}
use Rattle.aria_base.specs.Orders.{Cells, Database}
use Rattle.aria_base.specs.declared.keys.Key.{Key}
use Rattle.aria_base.proofs.Orders.{key_cmp_total, key_cmp-IsAntisymmetric}
use Rattle.tbl_rows.specs.Pools.{slot, is_moved, pooled, IsSpread, IsPool}
use Rattle.tbl_rows.specs.declared.homes.TheConstants.{LAST_LEVEL}
use Rattle.tbl_rows.proofs.Slots.{slot-below, slot-moved, slot-stays, slot-round}
use Rattle.tbl_rows.proofs.Spread.{get-pooled, spread-put, spread-deleted}

-- ---- one bucket without rows

pub IsPool-bare : (m : Database) → m ≡ fin.empty → IsPool 0 (m ∷ [])
IsPool-bare m bare = record {
  least = omega arith;
  most = omega arith;
  bounded = omega arith;
  spread = record {
    below = λ q. slot-below 0 1 q (omega arith);
    own = λ i d below q some. omega (arith, slot-below 0 1 q (omega arith), below);
  };
}

pub pooled-bare : (m : Database) → m ≡ fin.empty → pooled (m ∷ []) ≡ fin.empty
pooled-bare m bare = fin.same_map key_cmp_total key_cmp-IsAntisymmetric _ _ (λ q.
    let only : slot 0 1 q ≡ 0 = omega (arith, slot-below 0 1 q (omega arith)) in
    get-pooled (slot 0 1) (m ∷ []) ((IsPool-bare m bare).spread) q
    ∙ ap (λ n. fin.get (slice_index_or (m ∷ []) n fin.empty) q) only ∙ ap (λ m. fin.get m q) bare)

-- ---- a bucket changes at a key of its own

pub IsPool-put : (level : ℕ) (ms : List Database) (i : ℕ) (old new : Database) (k : Key) (row : Cells) → IsPool level ms → i ≡ slot level (length ms) k
    → old ≡ slice_index_or ms i old → new ≡ fin.insert old k row → IsPool level (slice_set ms i new)
IsPool-put level ms i old new k row pool at stood put = record {
  least = subst (λ n. 2 ^ level ≤ n) (sym (length-set ms i new)) pool.least;
  most = subst (λ n. n ≤ 2 ^ (level + 1)) (sym (length-set ms i new)) pool.most;
  bounded = pool.bounded;
  spread = subst (λ n. IsSpread (slot level n) (slice_set ms i new)) (sym (length-set ms i new))
      (spread-put (slot level (length ms)) ms i old new k row pool.spread at stood put);
}

pub IsPool-deleted : (level : ℕ) (ms : List Database) (i : ℕ) (old new : Database) (k : Key) → IsPool level ms → i ≡ slot level (length ms) k
    → old ≡ slice_index_or ms i old → new ≡ fin.remove old k → IsPool level (slice_set ms i new)
IsPool-deleted level ms i old new k pool at stood gone = record {
  least = subst (λ n. 2 ^ level ≤ n) (sym (length-set ms i new)) pool.least;
  most = subst (λ n. n ≤ 2 ^ (level + 1)) (sym (length-set ms i new)) pool.most;
  bounded = pool.bounded;
  spread = subst (λ n. IsSpread (slot level n) (slice_set ms i new)) (sym (length-set ms i new))
      (spread-deleted (slot level (length ms)) ms i old new k pool.spread at stood gone);
}

-- ---- the next round

pub doubled : (level : ℕ) → level ≤ LAST_LEVEL → 2 * 2 ^ level % 2 ^ 64 ≡ 2 ^ (level + 1)
doubled level last =
    let fits : 2 * 2 ^ level < 2 ^ 64 = omega (arith, pow_mono {i = level} {j = LAST_LEVEL} last) in
    mod-eq_of_lt fits ∙ omega (arith, pow_more 2 level)

pub IsPool-round : (level : ℕ) (ms : List Database) → IsPool level ms → length ms ≡ 2 ^ (level + 1) → level < LAST_LEVEL → IsPool (level + 1) ms
IsPool-round level ms pool full last = record {
  least = omega (arith, full);
  most = omega (arith, full, pow_mono {i = level + 1} {j = level + 1 + 1} (omega arith));
  bounded = omega (arith, last);
  spread = record {
    below = λ q. slot-below (level + 1) (length ms) q (omega (arith, full));
    own = λ i d below q some. slot-round level (length ms) q full ∙ pool.spread.own i d below q some;
  };
}

-- ---- a bucket is split

moved_get : (m : Database) (p : Key → Bool) (q : Key) → fin.get (fin.retain_keys m p) q ≡ cond (p q) (fin.get m q) None
moved_get m p q = fin.get-retain_keys m p q (λ x tie. ap p (sym (key_cmp-IsAntisymmetric q x tie)))

-- whether q moves or stays
tells : (level n : ℕ) (q : Key) → ((slot level (n + 1) q ≡ n) × (is_moved level n q ≡ true)) ⊎ ((slot level (n + 1) q ≡ n → ⊥) × (is_moved level n q ≡ false))
tells level n q = ⊎_elim (λ e. inl (e, eq-eqb (slot level (n + 1) q) n e)) (λ apart. inr (apart, ne_eqb (slot level (n + 1) q) n apart))
    (cases_eq (slot level (n + 1) q) n)

-- the bucket at i was split: what stays is there, what moves is the last
pub record IsSplit (level : ℕ) (ms : List Database) (i : ℕ) (old stay moved : Database) : Type 0 where
  pub pool : IsPool level ms
  pub at : i + 2 ^ level ≡ length ms
  pub stood : old ≡ slice_index_or ms i old
  pub stays : stay ≡ fin.retain_keys old (λ q. not (is_moved level (length ms) q))
  pub moves : moved ≡ fin.retain_keys old (is_moved level (length ms))

pub split-of : (level count : ℕ) (ms : List Database) (i : ℕ) (old stay moved : Database) → IsPool level ms → count ≡ length ms → i + 2 ^ level ≡ count
    → old ≡ slice_index_or ms i old → stay ≡ fin.retain_keys old (λ q. not (is_moved level count q)) → moved ≡ fin.retain_keys old (is_moved level count)
    → IsSplit level ms i old stay moved
split-of level count ms i old stay moved pool many at stood stays moves = record {
  pool = pool;
  at = at ∙ many;
  stood = stood;
  stays = stays ∙ ap (λ n. fin.retain_keys old (λ q. not (is_moved level n q))) many;
  moves = moves ∙ ap (λ n. fin.retain_keys old (is_moved level n)) many;
}

abbrev pub after_split : List Database → ℕ → Database → Database → List Database
after_split ms i stay moved = slice_set ms i stay ++ moved ∷ []

module _ (level : ℕ) (ms : List Database) (i : ℕ) (old stay moved : Database) (split : IsSplit level ms i old stay moved) where
  below : i < length ms
  below = omega (arith, split.at, pow_pos level)

  length-after : length (after_split ms i stay moved) ≡ length ms + 1
  length-after = length_push (slice_set ms i stay) moved ∙ ap (λ n. n + 1) (length-set ms i stay)

  at-last : (d : Database) → slice_index_or (after_split ms i stay moved) (length ms) d ≡ moved
  at-last d = get_or_push (slice_set ms i stay) moved d (length ms) (length-set ms i stay)

  at-split : (d : Database) → slice_index_or (after_split ms i stay moved) i d ≡ stay
  at-split d = get_or-append (slice_set ms i stay) (moved ∷ []) d i (subst (λ n. i < n) (sym (length-set ms i stay)) below) ∙ get_or-set_same ms i stay d below

  at-other : (j : ℕ) (d : Database) → j < length ms → j ≢ i → slice_index_or (after_split ms i stay moved) j d ≡ slice_index_or ms j d
  at-other j d inside apart = get_or-append (slice_set ms i stay) (moved ∷ []) d j (subst (λ n. j < n) (sym (length-set ms i stay)) inside)
      ∙ get_or-set_other ms i j stay d apart

  get-stay : (q : Key) → fin.get stay q ≡ cond (not (is_moved level (length ms) q)) (fin.get old q) None
  get-stay q = ap (λ m. fin.get m q) split.stays ∙ moved_get old (λ q. not (is_moved level (length ms) q)) q

  get-moved : (q : Key) → fin.get moved q ≡ cond (is_moved level (length ms) q) (fin.get old q) None
  get-moved q = ap (λ m. fin.get m q) split.moves ∙ moved_get old (is_moved level (length ms)) q

  from_old : (b : Bool) (q : Key) → IsSome (cond b (fin.get old q) None) → (b ≡ true) × (slot level (length ms) q ≡ i)
  from_old true q some = (refl, split.pool.spread.own i old below q (subst (λ m. IsSome (fin.get m q)) split.stood some))
  from_old false q some = cc

  own-after : (j : ℕ) (d : Database) → j < length (after_split ms i stay moved) → (q : Key)
      → IsSome (fin.get (slice_index_or (after_split ms i stay moved) j d) q) → slot level (length ms + 1) q ≡ j
  own-after j d inside q some =
      ⊎_elim
      (λ last. let there = from_old (is_moved level (length ms) q) q
      (subst IsSome (ap (λ n. fin.get (slice_index_or (after_split ms i stay moved) n d) q) last ∙ ap (λ m. fin.get m q) (at-last d) ∙ get-moved q) some) in
      eqb-true (slot level (length ms + 1) q) (length ms) there.0 ∙ sym last)
      (λ before. let inside : j < length ms = omega (arith, inside, length-after, before) in
      ⊎_elim
      (λ here. let there = from_old (not (is_moved level (length ms) q)) q
      (subst IsSome (ap (λ n. fin.get (slice_index_or (after_split ms i stay moved) n d) q) here ∙ ap (λ m. fin.get m q) (at-split d) ∙ get-stay q) some) in
      ⊎_elim (λ m. absurd (subst (λ b. not b ≡ true → ⊥) (sym m.1) (λ e. cc) there.0)) (λ s. slot-stays level (length ms) q s.0 ∙ there.1 ∙ sym here)
      (tells level (length ms) q))
      (λ apart. let home : slot level (length ms) q ≡ j = split.pool.spread.own j d inside q
      (subst (λ m. IsSome (fin.get m q)) (at-other j d inside apart) some) in
      ⊎_elim (λ m. absurd (apart (omega (arith, slot-moved level (length ms) q split.pool.least m.0, split.at, home))))
      (λ s. slot-stays level (length ms) q s.0 ∙ home) (tells level (length ms) q))
      (cases_eq j i))
      (cases_eq j (length ms))

  spread-after : IsSpread (slot level (length ms + 1)) (after_split ms i stay moved)
  spread-after = record {
    below = λ q. subst (λ n. slot level (length ms + 1) q < n) (sym length-after) (slot-below level (length ms + 1) q (omega (arith, split.pool.least)));
    own = own-after;
  }

  get-after : (q : Key) → fin.get (slice_index_or (after_split ms i stay moved) (slot level (length ms + 1) q) fin.empty) q ≡ fin.get
      (slice_index_or ms (slot level (length ms) q) fin.empty) q
  get-after q =
      let home : (n : ℕ) → n ≡ i → fin.get old q ≡ fin.get (slice_index_or ms n fin.empty) q =
      λ n e. ap (λ m. fin.get m q) (split.stood ∙ get_or_default ms i old fin.empty below) ∙ ap (λ n. fin.get (slice_index_or ms n fin.empty) q) (sym e) in
      ⊎_elim
      (λ m. ap (λ n. fin.get (slice_index_or (after_split ms i stay moved) n fin.empty) q) m.0
      ∙ ap (λ m. fin.get m q) (at-last fin.empty) ∙ get-moved q ∙ ap (λ b. cond b (fin.get old q) None) m.1
      ∙ home (slot level (length ms) q) (omega (arith, slot-moved level (length ms) q split.pool.least m.0, split.at)))
      (λ s. ap (λ n. fin.get (slice_index_or (after_split ms i stay moved) n fin.empty) q) (slot-stays level (length ms) q s.0)
      ∙ ⊎_elim
      (λ here. ap (λ n. fin.get (slice_index_or (after_split ms i stay moved) n fin.empty) q) here
      ∙ ap (λ m. fin.get m q) (at-split fin.empty) ∙ get-stay q ∙ ap (λ b. cond (not b) (fin.get old q) None) s.1
      ∙ home (slot level (length ms) q) here)
      (λ apart. ap (λ m. fin.get m q) (at-other (slot level (length ms) q) fin.empty (split.pool.spread.below q) apart))
      (cases_eq (slot level (length ms) q) i))
      (tells level (length ms) q)

  pub IsPool-split : length ms < 2 ^ (level + 1) → IsPool level (after_split ms i stay moved)
  IsPool-split room = record {
    least = subst (λ n. 2 ^ level ≤ n) (sym length-after) (omega (arith, split.pool.least));
    most = subst (λ n. n ≤ 2 ^ (level + 1)) (sym length-after) (omega (arith, room));
    bounded = split.pool.bounded;
    spread = subst (λ n. IsSpread (slot level n) (after_split ms i stay moved)) (sym length-after) spread-after;
  }

  pub pooled-split : pooled (after_split ms i stay moved) ≡ pooled ms
  pooled-split = fin.same_map key_cmp_total key_cmp-IsAntisymmetric _ _ (λ q.
      get-pooled (slot level (length ms + 1)) (after_split ms i stay moved) spread-after q ∙ get-after q
      ∙ sym (get-pooled (slot level (length ms)) ms split.pool.spread q))
