-- What the four files of a store read as: no store, damage, or a checkpoint and the batches behind it.
use Rattle.std.specs.Prelude.{◌≡◌, ℕ, ◌+◌, List}
use Rattle.input_log.specs.Layout.{Log, Ends, Breaks}
use Rattle.image_text.specs.Payloads.{Batch}
use Rattle.slot_images.specs.Images as images
use Rattle.slot_images.specs.Images.{Checkpoint, Reading, BodyReads}
use Rattle.store_files.specs.Openings.{Opened, NoGate, Damage, Taken, opened_of}
use Rattle.aria_store.specs.Records.{AreBatches, FirstWrong}

pub data Reopened : Type 0 where
  NoStore : Reopened
  -- the file, and the offset
  Damaged : ℕ → ℕ → Reopened
  Found : Checkpoint → List Batch → Reopened

-- By the log of the slot that is taken. A log that breaks is damaged there, whatever its records say; else the first record that is
-- no batch which may stand there is damaged.
abbrev pub LogReads : ℕ → Checkpoint → Log → Reopened → Type 0
LogReads slot c (Breaks at) found = found ≡ Damaged (2 + slot) at
LogReads slot c (Ends payloads end) NoStore = ⊥
LogReads slot c (Ends payloads end) (Damaged file at) = (file ≡ 2 + slot) × FirstWrong c c.head.batches c.head.requests payloads at
LogReads slot c (Ends payloads end) (Found d later) = (d ≡ c) × AreBatches c c.head.batches c.head.requests payloads later

-- By the body of the slot that is taken, which comes before its log.
abbrev pub TakenReads : ℕ → Reading → Log → Reopened → Type 0
TakenReads slot images.Nothing log found = ⊥
TakenReads slot (images.Broken at) log found = found ≡ Damaged slot at
TakenReads slot (images.Says c) log found = LogReads slot c log found

-- By the slots, which come before all that.
abbrev pub OpenedReads : Opened → Reopened → Type 0
OpenedReads NoGate found = found ≡ NoStore
OpenedReads (Damage file at) found = found ≡ Damaged file at
OpenedReads (Taken slot head body log) found = (reading : Reading) × BodyReads head body reading × TakenReads slot reading log found

-- these bytes of the four files
abbrev pub Reopens : (ℕ → List ℕ) → Reopened → Type 0
Reopens images found = OpenedReads (opened_of images) found
