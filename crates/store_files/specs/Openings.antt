-- What the four files of a store stand for: the slot that is taken, what stands in it, and its log.
use Rattle.std.specs.Prelude.{ℕ, nat_lt, List, [], ◌∷◌, if◌then◌else◌}
use Rattle.input_log.specs.Layout.{Log, log_of}
use Rattle.checkpoint.specs.declared.heads.Head.{Head}
use Rattle.checkpoint.specs.Slots.{Slot, Shut, Shown, Bad, slot_of}

pub data Opened : Type 0 where
  -- both gates are closed
  NoGate : Opened
  -- the slots' files are damaged: the file, and the offset
  Damage : ℕ → ℕ → Opened
  -- this slot with its head and its body, and the log that belongs to it
  Taken : ℕ → Head → List ℕ → Log → Opened

-- The file of the slot that is not taken may not be empty.
abbrev pub beside : ℕ → List ℕ → Opened → Opened
beside file [] taken = Damage file 0
beside file (gate ∷ bytes) taken = taken

-- The open slot of the greater generation is taken. The log of slot 0 is file 2, and that of slot 1 file 3.
abbrev pub by_slots : Slot → Slot → (ℕ → List ℕ) → Opened
by_slots (Bad at) second images = Damage 0 at
by_slots Shut (Bad at) images = Damage 1 at
by_slots (Shown h body) (Bad at) images = Damage 1 at
by_slots Shut Shut images = NoGate
by_slots (Shown h body) Shut images = beside 1 (images 1) (Taken 0 h body (log_of (images 2)))
by_slots Shut (Shown i other) images = beside 0 (images 0) (Taken 1 i other (log_of (images 3)))
by_slots (Shown h body) (Shown i other) images =
    if nat_lt i.generation h.generation then Taken 0 h body (log_of (images 2)) else Taken 1 i other (log_of (images 3))

abbrev pub opened_of : (ℕ → List ℕ) → Opened
opened_of images = by_slots (slot_of 0 (images 0)) (slot_of 1 (images 1)) images
