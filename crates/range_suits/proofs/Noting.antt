-- What holds of each key that is visited holds of the keys that are noted.
use Rattle.std.proofs.Common.{Option, List, [], ◌∷◌, ◌++◌, Bool, true, false}
use Rattle.std.specs.Prelude.{◌||◌, if◌then◌else◌}
use Rattle.std.specs.List.{All}
use Rattle.std.specs.Ordering.{eq_by_cmp}
use Rattle.std.proofs.lemmas.List.Elements.{All-nil, All-cons, All-head, All-tail, All-append}
use Rattle.aria_base.specs.Orders.{key_cmp, Cells}
use Rattle.aria_base.specs.declared.keys.Key.{Key}
use Rattle.batch_rules.specs.Trees.{Visit, Read, Write}
use Rattle.batch_rules.specs.Touches.{Noted, nothing, is_among, keys_of, with_write, noted, all_noted}
use Rattle.range_suits.proofs.Guarded.{key_in}

module _ {X : Type 0} (P : X → Type 0) where
  -- a list with one item more behind it, or as it is
  pub maybe_behind : (b : Bool) (xs : List X) (x : X) → All P xs → P x → All P (if b then xs else xs ++ x ∷ [])
  maybe_behind true xs x all own = all
  maybe_behind false xs x all own = All-append P xs (x ∷ []) all (All-cons P x [] own (All-nil P))

module _ (P : Key → Type 0) where
  pub written_all : (ws : List (Key × Option Cells)) (k : Key) (row : Option Cells) → All P (keys_of ws) → P k
      → All P (keys_of (with_write key_cmp ws k row))
  written_all [] k row all own = All-cons P k [] own (All-nil P)
  written_all (w ∷ ws) k row all own =
      elim (eq_by_cmp key_cmp k w.0) as (λ b. All P (keys_of (if b then (w.0, row) ∷ ws else w ∷ with_write key_cmp ws k row))) [
        | true ↦ all
        | false ↦ All-cons P w.0 (keys_of (with_write key_cmp ws k row)) (All-head P w.0 (keys_of ws) all)
            (written_all ws k row (All-tail P w.0 (keys_of ws) all) own)
      ]

  pub record AllNoted (n : Noted Key Cells) : Type 0 where
    pub reads : All P n.reads
    pub writes : All P (keys_of n.writes)

  pub note_one : (n : Noted Key Cells) (visit : Visit Key Cells) → AllNoted n → P (key_in visit) → AllNoted (noted key_cmp n visit)
  note_one n (Read k) all own =
      record { reads = maybe_behind P (is_among key_cmp n.reads k || is_among key_cmp (keys_of n.writes) k) n.reads k all.reads own; writes = all.writes }
  note_one n (Write k row) all own = record { reads = all.reads; writes = written_all n.writes k row all.writes own }

  note_all : (n : Noted Key Cells) (visits : List (Visit Key Cells)) → AllNoted n → All (λ visit. P (key_in visit)) visits
      → AllNoted (all_noted key_cmp n visits)
  note_all n [] all own = all
  note_all n (visit ∷ visits) all own =
      note_all (noted key_cmp n visit) visits (note_one n visit all (All-head (λ visit. P (key_in visit)) visit visits own))
      (All-tail (λ visit. P (key_in visit)) visit visits own)

  pub noted_from_none : (visits : List (Visit Key Cells)) → All (λ visit. P (key_in visit)) visits → AllNoted (all_noted key_cmp nothing visits)
  noted_from_none visits own = note_all nothing visits (record { reads = All-nil P; writes = All-nil P }) own
