-- What a disk holds of a store, told file by file: so it says something also where a disk does not tell all of its files.
use Rattle.std.specs.Prelude.{◌≡◌, ℕ, ◌+◌, ◌-◌, ◌<◌, List, length, ⊤}
use Rattle.disk_model.specs.Histories.{History, current, EachImage, IsStable}
use Rattle.input_log.specs.Layout.{Log, log_of}
use Rattle.checkpoint.specs.declared.heads.Head.{Head}
use Rattle.checkpoint.specs.Slots.{Slot, Shut, Shown, Bad, slot_of}

-- a slot that is not taken beside one of that generation
abbrev pub IsLower : ℕ → Slot → Type 0
IsLower generation Shut = ⊤
IsLower generation (Shown h body) = h.generation < generation
IsLower generation (Bad at) = ⊥

abbrev pub IsBehind : ℕ → ℕ → List ℕ → Type 0
IsBehind slot generation image = (0 < length image) × IsLower generation (slot_of slot image)

-- In every image that a stop now may leave this slot is taken, with this head and this body, and its log is this one.
pub record Holds (disk : History) (slot : ℕ) (head : Head) (body : List ℕ) (log : Log) : Type 0 where
  pub shown : EachImage (current disk slot) (λ image. slot_of slot image ≡ Shown head body)
  pub behind : EachImage (current disk (1 - slot)) (IsBehind (1 - slot) head.generation)
  pub records : EachImage (current disk (2 + slot)) (λ image. log_of image ≡ log)

-- the only image of each file is what a read gives
abbrev pub IsSettled : History → Type 0
IsSettled disk = (file : ℕ) → file < 4 → IsStable (current disk file)

-- there is something that it holds, of a lower generation
abbrev pub HoldsLower : History → ℕ → ℕ → Type 0
HoldsLower disk slot generation =
    (head : Head) × (body : List ℕ) × (log : Log) × Holds disk slot head body log × (head.generation < generation)
