-- All shards are together one map: each key's row stands in its own shard.
use Rattle.std.proofs.Common.{◌≡◌, ℕ, ◌<◌, List, length, map, sym, ap, subst, ◌∙◌, ⊎_elim, arith}
use Rattle.std.specs.Prelude.{slice_index_or, slice_set}
use Rattle.std.specs.Option.{IsSome}
use Rattle.std.specs.List.Sorted.{IsPermutation}
use Rattle.std.specs.FinMap as fin
use Rattle.std.proofs.lemmas.Bool.{cases_eq}
use Rattle.std.proofs.lemmas.List.{get_or-map, get_or-set_same, get_or-set_other, length-set, length-map, map-set}
use Rattle.aria_base.specs.Orders.{key_cmp, Cells, Database}
use Rattle.aria_base.specs.declared.keys.Key.{Key}
use Rattle.aria_base.proofs.Orders.{key_cmp_total, key_cmp-IsAntisymmetric}
use Rattle.tbl_rows.specs.Hashes.{hash_of}
use Rattle.tbl_rows.specs.Pools.{IsSpread, pooled}
use Rattle.tbl_rows.specs.Shards.{home, Piece, IsOwn, IsWhole, with_row, without_row, bare, joined, at_home}
use Rattle.tbl_rows.specs.declared.homes.TheConstants.{SHARDS}
use Rattle.tbl_rows.proofs.Owned.{IsOwn-bare}
use Rattle.tbl_rows.proofs.Spread.{listed, get-pooled, get-home, pooled-put, pooled-deleted, listed-permuted}

abbrev pub rows_of : List Piece → List Database
rows_of ps = map (λ p. p.rows) ps

pub home-below : (q : Key) → home q < SHARDS
unfolding home hash_of
home-below q = omega arith

rows-at : (ps : List Piece) (i : ℕ) (p : Piece) (m : Database) → i < length ps → slice_index_or (rows_of ps) i m ≡ (slice_index_or ps i p).rows
rows-at ps i p m below = get_or-map (λ p. p.rows) ps i p m below

spread-whole : (ps : List Piece) → IsWhole ps → IsSpread home (rows_of ps)
spread-whole ps whole = record {
  below = λ q. subst (λ n. home q < n) (sym (length-map ps (λ p. p.rows) ∙ whole.count)) (home-below q);
  own = λ i m below q some.
      let below : i < length ps = subst (λ n. i < n) (length-map ps (λ p. p.rows)) below in
      whole.own i (bare 0) below q (subst (λ m. IsSome (fin.get m q)) (rows-at ps i (bare 0) m below) some) ∙ whole.numbered i (bare 0) below;
}

pub get-joined : (ps : List Piece) → IsWhole ps → (q : Key) → fin.get (joined ps) q ≡ at_home ps q
get-joined ps whole q =
    get-pooled home (rows_of ps) (spread-whole ps whole) q
    ∙ ap (λ m. fin.get m q) (rows-at ps (home q) (bare 0) fin.empty (subst (λ n. home q < n) (sym whole.count) (home-below q)))

pub joined-permuted : (ps : List Piece) → IsWhole ps → IsPermutation (listed (rows_of ps)) (fin.entries (joined ps))
joined-permuted ps whole = listed-permuted home (rows_of ps) (spread-whole ps whole)

stood : (ps : List Piece) (i : ℕ) (p : Piece) → i < length ps → p ≡ slice_index_or ps i p → p.rows ≡ slice_index_or (rows_of ps) i p.rows
stood ps i p below is = ap (λ p. p.rows) is ∙ sym (rows-at ps i p p.rows below)

-- in the forms of the calls: p, or old, stood at the place i, and new stands there now
pub get-at_home : (ps : List Piece) (i : ℕ) (p : Piece) (q : Key) → IsWhole ps → i ≡ home q → p ≡ slice_index_or ps i p
    → fin.get p.rows q ≡ fin.get (joined ps) q
get-at_home ps i p q whole at is =
    get-home home (rows_of ps) i p.rows q (spread-whole ps whole) at (stood ps i p (omega (arith, whole.count, at, home-below q)) is)

IsWhole-set : (ps : List Piece) (i : ℕ) (p : Piece) → IsWhole ps → i < SHARDS → p.number ≡ i → IsOwn p → IsWhole (slice_set ps i p)
IsWhole-set ps i p whole below number own =
    let each : (P : ℕ → Piece → Type 0) → P i p → ((j : ℕ) (d : Piece) → j < length ps → P j (slice_index_or ps j d)) → (j : ℕ) (d : Piece)
    → j < length (slice_set ps i p) → P j (slice_index_or (slice_set ps i p) j d) =
    λ P here others j d inside. let inside : j < length ps = subst (λ n. j < n) (length-set ps i p) inside in
    ⊎_elim
    (λ e. subst (λ n. P n (slice_index_or (slice_set ps i p) n d)) (sym e)
    (subst (P i) (sym (get_or-set_same ps i p d (subst (λ n. n < length ps) e inside))) here))
    (λ apart. subst (P j) (sym (get_or-set_other ps i j p d apart)) (others j d inside))
    (cases_eq j i) in
    record {
      count = length-set ps i p ∙ whole.count;
      numbered = each (λ j s. s.number ≡ j) number whole.numbered;
      own = each (λ j s. IsOwn s) own whole.own;
    }

pub IsWhole-put : (ps : List Piece) (i : ℕ) (old new : Piece) (k : Key) → IsWhole ps → i ≡ home k → old ≡ slice_index_or ps i old → new.number ≡ old.number
    → IsOwn new → IsWhole (slice_set ps i new)
IsWhole-put ps i old new k whole at is number own =
    let below : i < SHARDS = omega (arith, at, home-below k) in
    IsWhole-set ps i new whole below (number ∙ ap (λ p. p.number) is ∙ whole.numbered i old (omega (arith, below, whole.count))) own

pub joined-put : (ps : List Piece) (i : ℕ) (old new : Piece) (k : Key) (row : Cells) → IsWhole ps → i ≡ home k → old ≡ slice_index_or ps i old
    → new ≡ with_row old k row → joined (slice_set ps i new) ≡ fin.insert (joined ps) k row
joined-put ps i old new k row whole at is put =
    let below : i < length ps = omega (arith, whole.count, at, home-below k) in
    ap (λ ms. pooled ms) (map-set (λ p. p.rows) ps i new)
    ∙ pooled-put home (rows_of ps) i old.rows new.rows k row (spread-whole ps whole) at (stood ps i old below is) (ap (λ p. p.rows) put)

pub joined-deleted : (ps : List Piece) (i : ℕ) (old new : Piece) (k : Key) → IsWhole ps → i ≡ home k → old ≡ slice_index_or ps i old → new ≡ without_row old k
    → joined (slice_set ps i new) ≡ fin.remove (joined ps) k
joined-deleted ps i old new k whole at is deleted =
    let below : i < length ps = omega (arith, whole.count, at, home-below k) in
    ap (λ ms. pooled ms) (map-set (λ p. p.rows) ps i new)
    ∙ pooled-deleted home (rows_of ps) i old.rows new.rows k (spread-whole ps whole) at (stood ps i old below is) (ap (λ p. p.rows) deleted)

-- shards with no rows
pub record AllBare (n : ℕ) (pieces : List Piece) : Type 0 where
  pub count : length pieces ≡ n
  pub each : (i : ℕ) (d : Piece) → i < n → slice_index_or pieces i d ≡ bare i

pub IsWhole-bare : (ps : List Piece) → AllBare SHARDS ps → IsWhole ps
IsWhole-bare ps bares = record {
  count = bares.count;
  numbered = λ i d below. ap (λ p. p.number) (bares.each i d (subst (λ n. i < n) bares.count below));
  own = λ i d below. subst IsOwn (sym (bares.each i d (subst (λ n. i < n) bares.count below))) (IsOwn-bare i);
}

pub joined-bare : (ps : List Piece) → AllBare SHARDS ps → joined ps ≡ fin.empty
joined-bare ps bares = fin.same_map key_cmp_total key_cmp-IsAntisymmetric _ _ (λ q.
    get-joined ps (IsWhole-bare ps bares) q ∙ ap (λ p. fin.get p.rows q) (bares.each (home q) (bare 0) (home-below q))
    ∙ fin.get-empty key_cmp q ∙ sym (fin.get-empty key_cmp q))
