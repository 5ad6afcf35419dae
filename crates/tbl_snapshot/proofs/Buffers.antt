-- A buffer of writes, searched from its front.
use Rattle.std.proofs.Common.{◌≡◌, ℕ, zero, suc, ◌+◌, ◌<◌, List, [], ◌∷◌, ◌++◌, length, Option, Some, None, Bool, cond, true, false, ◌||◌, refl, sym, ap, ◌∙◌, arith}
use Rattle.std.specs.Prelude.{slice_index_or, slice_set, if◌then◌else◌}
use Rattle.std.specs.Option.{unwrap_or}
use Rattle.std.specs.List.{position, position_from}
use Rattle.std.specs.Ordering.{eq_by_cmp}
use Rattle.std.specs.FinMap as fin
use Rattle.std.proofs.lemmas.List.Quantifiers.{position-Some}
use Rattle.std.proofs.lemmas.Iterator.Adapters.{position_from-zero}
use Rattle.aria_base.specs.Orders.{key_cmp, Cells, Database}
use Rattle.aria_base.specs.declared.keys.Key.{Key}
use Rattle.aria_base.proofs.Orders.{key_cmp_total, key_cmp-IsAntisymmetric}
use Rattle.batch_rules.specs.Touches.{with_write, is_among, keys_of, overwritten}
use Rattle.batch_rules.proofs.Maps.{get-overwritten, overwritten-with_write}
use Rattle.batch_rules.specs.Plays.{after_read, after_write}
use Rattle.tbl_snapshot.specs.Layers.{seen_of, Buffer}

-- whether a write is at the key
abbrev pub is_write_of : Key → Key × Option Cells → Bool
is_write_of q w = eq_by_cmp key_cmp q w.0

none_from : (n : ℕ) (ws : Buffer) (q : Key) → position_from (is_write_of q) n ws ≡ None → fin.find key_cmp q ws ≡ None
none_from n [] q none = refl
none_from n (w ∷ ws) q none =
    elim (eq_by_cmp key_cmp q w.0) as (λ b. cond b (Some n) (position_from (is_write_of q) (n + 1) ws) ≡ None
    → cond b (Some w.1) (fin.find key_cmp q ws) ≡ None) [
      | true ↦ λ some. cc
      | false ↦ λ rest. none_from (n + 1) ws q rest
    ] none

pub find-none : (ws : Buffer) (q : Key) → position (is_write_of q) ws ≡ None → fin.find key_cmp q ws ≡ None
find-none ws q none = none_from 0 ws q (sym (position_from-zero (is_write_of q) ws) ∙ none)

-- the first write of the key stands at this place
pub record IsAt (ws : Buffer) (q : Key) (i : ℕ) (d : Key × Option Cells) : Type 0 where
  pub below : i < length ws
  pub here : is_write_of q (slice_index_or ws i d) ≡ true
  pub before : (k : ℕ) → k < i → is_write_of q (slice_index_or ws k d) ≡ false

pub is_at-position : (ws : Buffer) (q : Key) (i : ℕ) (d : Key × Option Cells) → position (is_write_of q) ws ≡ Some i → IsAt ws q i d
is_at-position ws q i d some = let p = position-Some (is_write_of q) ws i d some in record { below = p.0; here = p.1; before = p.2 }

later : (w : Key × Option Cells) (ws : Buffer) (q : Key) (i : ℕ) (d : Key × Option Cells) → IsAt (w ∷ ws) q (suc i) d → IsAt ws q i d
later w ws q i d at = record { below = omega (arith, at.below); here = at.here; before = λ k below. at.before (suc k) (omega (arith, below)) }

pub find-at : (ws : Buffer) (q : Key) (i : ℕ) (d : Key × Option Cells) → IsAt ws q i d → fin.find key_cmp q ws ≡ Some (slice_index_or ws i d).1
find-at [] q i d at = absurd (omega (arith, at.below))
find-at (w ∷ ws) q zero d at = ap (λ b. cond b (Some w.1) (fin.find key_cmp q ws)) at.here
find-at (w ∷ ws) q (suc i) d at = ap (λ b. cond b (Some w.1) (fin.find key_cmp q ws)) (at.before 0 (omega arith)) ∙ find-at ws q i d (later w ws q i d at)

with_write-at : (ws : Buffer) (q : Key) (row : Option Cells) (i : ℕ) (d : Key × Option Cells) → IsAt ws q i d
    → with_write key_cmp ws q row ≡ slice_set ws i ((slice_index_or ws i d).0, row)
with_write-at [] q row i d at = absurd (omega (arith, at.below))
with_write-at (w ∷ ws) q row zero d at = ap (λ b. if b then (w.0, row) ∷ ws else w ∷ with_write key_cmp ws q row) at.here
with_write-at (w ∷ ws) q row (suc i) d at =
    ap (λ b. if b then (w.0, row) ∷ ws else w ∷ with_write key_cmp ws q row) (at.before 0 (omega arith))
    ∙ ap (λ ws. w ∷ ws) (with_write-at ws q row i d (later w ws q i d at))

pub pushed : (ws : Buffer) (q : Key) (row : Option Cells) → fin.find key_cmp q ws ≡ None → with_write key_cmp ws q row ≡ ws ++ (q, row) ∷ []
pushed [] q row none = refl
pushed (w ∷ ws) q row none =
    elim (eq_by_cmp key_cmp q w.0) as (λ b. cond b (Some w.1) (fin.find key_cmp q ws) ≡ None
    → (if b then (w.0, row) ∷ ws else w ∷ with_write key_cmp ws q row) ≡ w ∷ (ws ++ (q, row) ∷ [])) [
      | true ↦ λ some. cc
      | false ↦ λ rest. ap (λ ws. w ∷ ws) (pushed ws q row rest)
    ] none

-- what is seen after a write and after a read
pub seen-written : (db : Database) (reads : List Key) (ws new : Buffer) (k : Key) (row : Option Cells) → new ≡ with_write key_cmp ws k row
    → seen_of (record { base = db; noted = record { reads = reads; writes = new } }) ≡ after_write
    (seen_of (record { base = db; noted = record { reads = reads; writes = ws } })) k row
seen-written db reads ws new k row is =
    let map = ap (overwritten db) is ∙ overwritten-with_write key_cmp_total key_cmp-IsAntisymmetric db ws k row in
    λ i. record { map = map i; noted = record { reads = reads; writes = is i } }

pub seen-read : (db : Database) (reads new : List Key) (ws : Buffer) (k : Key)
    → new ≡ (if is_among key_cmp reads k || is_among key_cmp (keys_of ws) k then reads else reads ++ k ∷ [])
    → seen_of (record { base = db; noted = record { reads = new; writes = ws } }) ≡ after_read
    (seen_of (record { base = db; noted = record { reads = reads; writes = ws } })) k
seen-read db reads new ws k is i = record { map = overwritten db ws; noted = record { reads = is i; writes = ws } }

kept : (b : Bool) (xs ys : List Key) → (if b || true then xs else ys) ≡ xs
kept true xs ys = refl
kept false xs ys = refl

-- in the forms of the calls: a key whose write stands at a place
pub write-at : (ws : Buffer) (q : Key) (row : Option Cells) (i : ℕ) (old : Key × Option Cells) → position (is_write_of q) ws ≡ Some i
    → old ≡ slice_index_or ws i old → slice_set ws i (old.0, row) ≡ with_write key_cmp ws q row
write-at ws q row i old some is = ap (λ w. slice_set ws i (w.0, row)) is ∙ sym (with_write-at ws q row i old (is_at-position ws q i old some))

-- the row that is written, or else the one below
pub row-written : (db : Database) (ws : Buffer) (q : Key) (row : Option Cells) → Some row ≡ fin.find key_cmp q ws → row ≡ fin.get (overwritten db ws) q
row-written db ws q row is = sym (get-overwritten key_cmp_total db ws q ∙ ap (λ found. unwrap_or found (fin.get db q)) (sym is))

pub row-below : (db : Database) (ws : Buffer) (q : Key) → None ≡ fin.find key_cmp q ws → fin.get db q ≡ fin.get (overwritten db ws) q
row-below db ws q is = sym (get-overwritten key_cmp_total db ws q ∙ ap (λ found. unwrap_or found (fin.get db q)) (sym is))

-- the keys that are noted as read after a read: of a key that is written, one that was read, and any other
pub reads-written : (reads : List Key) (ws : Buffer) (q : Key) → is_among key_cmp (keys_of ws) q ≡ true
    → reads ≡ (if is_among key_cmp reads q || is_among key_cmp (keys_of ws) q then reads else reads ++ q ∷ [])
reads-written reads ws q among = sym (ap (λ b. if is_among key_cmp reads q || b then reads else reads ++ q ∷ []) among
    ∙ kept (is_among key_cmp reads q) reads (reads ++ q ∷ []))

pub reads-there : (reads : List Key) (ws : Buffer) (q : Key) → is_among key_cmp reads q ≡ true
    → reads ≡ (if is_among key_cmp reads q || is_among key_cmp (keys_of ws) q then reads else reads ++ q ∷ [])
reads-there reads ws q among = sym (ap (λ b. if b || is_among key_cmp (keys_of ws) q then reads else reads ++ q ∷ []) among)

pub reads-more : (reads : List Key) (ws : Buffer) (q : Key) → is_among key_cmp (keys_of ws) q ≡ false → is_among key_cmp reads q ≡ false
    → reads ++ q ∷ [] ≡ (if is_among key_cmp reads q || is_among key_cmp (keys_of ws) q then reads else reads ++ q ∷ [])
reads-more reads ws q apart new = sym (ap (λ b. if is_among key_cmp reads q || b then reads else reads ++ q ∷ []) apart
    ∙ ap (λ b. if b || false then reads else reads ++ q ∷ []) new)
