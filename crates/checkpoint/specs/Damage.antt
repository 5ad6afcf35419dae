-- What may be wrong with the head of an open slot, and the offset that is named.
use Rattle.std.specs.Prelude.{◌≡◌, ℕ, ◌+◌, ◌%◌, ◌==◌, nat_lt, not, ◌||◌, Bool, List, [], ◌∷◌, Option, None, Some, if◌then◌else◌}
use Rattle.aria_base.specs.declared.limits.TheConstants.{GREATEST_NUMBER, MOST_PERCENT}
use Rattle.checkpoint.specs.declared.heads.Head.{Head}
use Rattle.checkpoint.specs.declared.heads.Fields.{Fields}
use Rattle.checkpoint.specs.Heads.{magic, fields_for}

-- A generation counts from 1 and has the parity of its slot. Each but the first comes with a batch at least, and so does not pass
-- the batches by more than one; a store of format 1 may have been turned into one of format 2 without a batch.
abbrev pub wrong_generation : ℕ → Fields → Bool
wrong_generation slot f = f.generation == 0 || not (f.generation % 2 == slot) || nat_lt (f.batches + f.format) f.generation

-- each thing that may be wrong, with its offset, in the order in which they are looked at
abbrev pub faults : ℕ → Fields → List (Bool × ℕ)
faults slot f =
    (not (f.magic == magic), 1)
    ∷ (not (f.format == 1 || f.format == 2), 5)
    ∷ (nat_lt 1 f.rule, 6)
    ∷ (nat_lt MOST_PERCENT f.fallback, 7)
    ∷ (wrong_generation slot f, 8)
    ∷ (nat_lt GREATEST_NUMBER f.batches, 16)
    ∷ (nat_lt GREATEST_NUMBER f.requests, 24)
    ∷ []

-- the offset of the first one that is
abbrev pub first_fault : List (Bool × ℕ) → Option ℕ
first_fault [] = None
first_fault (row ∷ rows) = if row.0 then Some row.1 else first_fault rows

-- a head that may stand in a slot
abbrev pub IsSound : ℕ → Head → Type 0
IsSound slot h = first_fault (faults slot (fields_for h 0)) ≡ None
