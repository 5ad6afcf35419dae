-- What the bytes of a slot stand for, and how they are made.
use Rattle.std.specs.Prelude.{◌≡◌, ℕ, ◌+◌, ◌-◌, ◌≤◌, ◌==◌, nat_lt, List, [], ◌∷◌, length, take, drop, Bool, false, Option, None}
use Rattle.std.specs.Prelude.{Some, if◌then◌else◌}
use Rattle.disk_model.specs.Files.{put}
use Rattle.checkpoint.specs.declared.heads.Head.{Head}
use Rattle.checkpoint.specs.declared.heads.Fields.{Fields}
use Rattle.checkpoint.specs.Heads.{fields_of, head_in, head_bytes}
use Rattle.checkpoint.specs.Damage.{faults, first_fault}

pub data Slot : Type 0 where
  -- a closed gate, or no bytes
  Shut : Slot
  -- an open gate, a head and the body
  Shown : Head → List ℕ → Slot
  -- an open gate, and at that offset what is wrong behind it
  Bad : ℕ → Slot

abbrev pub is_open : List ℕ → Bool
is_open [] = false
is_open (gate ∷ rest) = gate == 1

abbrev pub by_fault : Option ℕ → Slot → Slot
by_fault None slot = slot
by_fault (Some at) slot = Bad at

-- an open slot by its fields, where nothing is wrong with them. What stands behind the body counts for nothing.
abbrev pub behind_head : Fields → List ℕ → Slot
behind_head f bytes = if nat_lt (length bytes - 40) f.body then Bad 32 else Shown (head_in f) (take f.body (drop 40 bytes))

abbrev pub open_slot : ℕ → List ℕ → Slot
open_slot slot bytes =
    let f = fields_of (take 40 bytes) in
    if nat_lt (length bytes) 40 then Bad (length bytes) else by_fault (first_fault (faults slot f)) (behind_head f bytes)

abbrev pub slot_of : ℕ → List ℕ → Slot
slot_of slot bytes = if is_open bytes then open_slot slot bytes else Shut

-- a slot's bytes with this head and this body behind the gate
abbrev pub laid : Head → List ℕ → List ℕ → List ℕ
laid head body bytes = put (put bytes 1 (head_bytes head (length body))) 40 body

-- with an open gate
abbrev pub opened : List ℕ → List ℕ
opened bytes = put bytes 0 (1 ∷ [])

-- with a closed one
abbrev pub closed : List ℕ → List ℕ
closed bytes = put bytes 0 (0 ∷ [])

-- what a look at the first 40 bytes finds
abbrev pub IsHead : Option Head → Slot → Type 0
IsHead None slot = slot ≡ Shut
IsHead (Some h) slot = (body : List ℕ) × (slot ≡ Shown h body)

-- and where the body's length is told beside the head
abbrev pub IsLooked : Option (Head × ℕ) → ℕ → List ℕ → Type 0
IsLooked None slot bytes = slot_of slot bytes ≡ Shut
IsLooked (Some found) slot bytes = (slot_of slot bytes ≡ Shown found.0 (take found.1 (drop 40 bytes))) × (40 + found.1 ≤ length bytes)

-- what a reading of the whole slot finds
abbrev pub IsRead : Option (Head × List ℕ) → Slot → Type 0
IsRead None slot = slot ≡ Shut
IsRead (Some found) slot = slot ≡ Shown found.0 found.1
