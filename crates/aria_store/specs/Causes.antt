-- When a call on a store is refused.
use Rattle.std.specs.Prelude.{◌≡◌, ◌⊎◌, ◌+◌, IsSomeAnd, ℕ, List, None, Some, IfSome, Bool, true, false, ⊤}
use Rattle.aria_base.specs.Faults.{Rose}
use Rattle.disk_model.specs.Histories.{History, current, MayLeave, Still}
use Rattle.input_log.specs.Layout.{log_of}
use Rattle.input_log.specs.declared.logs.Payload.{Payload}
use Rattle.checkpoint.specs.Slots.{is_open}
use Rattle.slot_images.specs.Images.{Checkpoint}
use Rattle.store_files.specs.Attachments.{IsTaken}
use Rattle.store_files.specs.declared.refusals.StoreRefused.{StoreRefused}
use Rattle.store_files.specs.declared.refusals.StoreRefused.TheVariants as refused
use Rattle.aria_store.specs.Records.{FirstWrong}
use Rattle.aria_store.specs.Reopens.{NoStore, Damaged, Reopens, LogReads}
use Rattle.aria_store.specs.Stands.{Kept}

-- attaching: each image that a stop now may leave is no store, or is damaged there
abbrev pub AttachCause : History → History → StoreRefused → Type 0
AttachCause old new refused.Memory = ⊤
AttachCause old new refused.DiskFault = Rose old.faults new.faults
AttachCause old new refused.NoStore = (images : ℕ → List ℕ) → MayLeave new new.now images → Reopens images NoStore
AttachCause old new (refused.Damaged file at) =
    (images : ℕ → List ℕ) → MayLeave new new.now images → Reopens images (Damaged file at)
AttachCause old new refused.Exists = ⊥
AttachCause old new (refused.Closed faults) = ⊥

-- reading the log of a slot behind its checkpoint
abbrev pub LaterCause : Checkpoint → History → History → ℕ → StoreRefused → Type 0
LaterCause c old new slot refused.Memory = ⊤
LaterCause c old new slot refused.DiskFault = Rose old.faults new.faults
LaterCause c old new slot (refused.Damaged file at) =
    IfSome (current old (2 + slot)) (λ f. LogReads slot c (log_of f.seen) (Damaged file at))
LaterCause c old new slot refused.NoStore = ⊥
LaterCause c old new slot refused.Exists = ⊥
LaterCause c old new slot (refused.Closed faults) = ⊥

-- reading the batches of a log
abbrev pub BatchesCause : Checkpoint → ℕ → List Payload → StoreRefused → Type 0
BatchesCause c log payloads refused.Memory = ⊤
BatchesCause c log payloads (refused.Damaged file at) = (file ≡ log) × FirstWrong c c.head.batches c.head.requests payloads at
BatchesCause c log payloads refused.DiskFault = ⊥
BatchesCause c log payloads refused.NoStore = ⊥
BatchesCause c log payloads refused.Exists = ⊥
BatchesCause c log payloads (refused.Closed faults) = ⊥

-- A call that writes: out of memory before the first device call, a fault of the disk, or one in an earlier call, whose count is told.
abbrev pub WriteCause : {D : Type 0} → (D → History) → D → D → Kept → Kept → StoreRefused → Type 0
WriteCause history old new was is refused.Memory = (new ≡ old) × (is ≡ was) × (was.files.closed ≡ None)
WriteCause history old new was is refused.DiskFault = Rose (history old).faults (history new).faults
    × (is ≡ record was { files = record was.files { closed = Some (history new).faults } }) × (was.files.closed ≡ None)
WriteCause history old new was is (refused.Closed faults) = (new ≡ old) × (is ≡ was) × (was.files.closed ≡ Some faults)
WriteCause history old new was is refused.NoStore = ⊥
WriteCause history old new was is refused.Exists = ⊥
WriteCause history old new was is (refused.Damaged file at) = ⊥

-- The first writing: nothing is written where there is a store that it may not write over, and none where memory wants.
abbrev pub CreateCause : History → History → Bool → StoreRefused → Type 0
CreateCause old new over refused.Memory = Still old new
CreateCause old new over refused.DiskFault = Rose old.faults new.faults
CreateCause old new over refused.Exists = (over ≡ false) × IsTaken old true × Still old new
CreateCause old new over refused.NoStore = ⊥
CreateCause old new over (refused.Damaged file at) = ⊥
CreateCause old new over (refused.Closed faults) = ⊥

-- one of the two gates is told, and open
abbrev pub HasGate : History → Type 0
HasGate disk = IsSomeAnd (current disk 0) (λ f. is_open f.seen ≡ true) ⊎ IsSomeAnd (current disk 1) (λ f. is_open f.seen ≡ true)
