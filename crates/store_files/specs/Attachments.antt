-- What attaching finds of the slots.
use Rattle.std.specs.Prelude.{◌≡◌, ◌⊎◌, ℕ, ◌-◌, ◌<◌, nat_lt, Bool, true, false, if◌then◌else◌}
use Rattle.std.specs.Prelude.{List, Option, None, Some, IfSome, option_map}
use Rattle.aria_base.specs.Faults.{Rose}
use Rattle.disk_model.specs.Files.{File}
use Rattle.disk_model.specs.Histories.{History, current, EachImage, MayLeave}
use Rattle.disk_model.specs.declared.refusals.LogRefused.{LogRefused}
use Rattle.disk_model.specs.declared.refusals.LogRefused.TheVariants as of_file
use Rattle.checkpoint.specs.declared.heads.Head.{Head}
use Rattle.checkpoint.specs.Damage.{IsSound}
use Rattle.checkpoint.specs.Slots.{slot_of, is_open, IsHead}
use Rattle.store_files.specs.declared.refusals.StoreRefused.{StoreRefused}
use Rattle.store_files.specs.declared.refusals.StoreRefused.TheVariants.{Memory, DiskFault, NoStore, Exists, Damaged, Closed}
use Rattle.store_files.specs.Openings.{NoGate, Damage, opened_of}
use Rattle.store_files.specs.Holdings.{IsBehind}

-- a file's refusal as that of the store
abbrev pub as_store : LogRefused → StoreRefused
as_store of_file.Memory = Memory
as_store of_file.DiskFault = DiskFault
as_store (of_file.Damaged file at) = Damaged file at

-- what a read of a file gives, where the disk tells it
abbrev pub seen_of : Option File → Option (List ℕ)
seen_of told = option_map (λ f. f.seen) told

-- each file reads as it did
abbrev pub ReadsAlike : History → History → Type 0
ReadsAlike old new = (file : ℕ) → seen_of (current new file) ≡ seen_of (current old file)

-- the slot that is taken, by the heads of both
abbrev pub pick_of : Option Head → Option Head → Option (ℕ × Head)
pick_of None None = None
pick_of (Some h) None = Some (0, h)
pick_of None (Some i) = Some (1, i)
pick_of (Some h) (Some i) = if nat_lt i.generation h.generation then Some (0, h) else Some (1, i)

-- the heads of both slots, as a read gives them
pub record Heads (disk : History) (first second : Option Head) : Type 0 where
  pub sound_first : IfSome first (IsSound 0)
  pub sound_second : IfSome second (IsSound 1)
  pub reads_first : IfSome (current disk 0) (λ f. IsHead first (slot_of 0 f.seen))
  pub reads_second : IfSome (current disk 1) (λ f. IsHead second (slot_of 1 f.seen))

-- the slot that is taken, with its head, told file by file
pub record Chosen (disk : History) (slot : ℕ) (head : Head) : Type 0 where
  pub low : slot < 2
  pub sound : IsSound slot head
  pub shown : IfSome (current disk slot) (λ f. IsHead (Some head) (slot_of slot f.seen))
  pub behind : EachImage (current disk (1 - slot)) (IsBehind (1 - slot) head.generation)

-- No slot is taken: each image that a stop now may leave has no open gate, or is damaged there. Or a fault of the disk.
abbrev pub TakeCause : History → History → StoreRefused → Type 0
TakeCause old new Memory = ⊥
TakeCause old new DiskFault = Rose old.faults new.faults
TakeCause old new NoStore = (images : ℕ → List ℕ) → MayLeave new new.now images → opened_of images ≡ NoGate
TakeCause old new (Damaged file at) = (images : ℕ → List ℕ) → MayLeave new new.now images → opened_of images ≡ Damage file at
TakeCause old new Exists = ⊥
TakeCause old new (Closed faults) = ⊥

-- whether one of the two gates is open, as a read gives them
abbrev pub IsTaken : History → Bool → Type 0
IsTaken disk true =
    IfSome (current disk 0) (λ f. is_open f.seen ≡ true) ⊎ IfSome (current disk 1) (λ f. is_open f.seen ≡ true)
IsTaken disk false =
    IfSome (current disk 0) (λ f. is_open f.seen ≡ false) × IfSome (current disk 1) (λ f. is_open f.seen ≡ false)
