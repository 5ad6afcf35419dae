-- What a served batch gave to its sink, and why one was not told.
use Rattle.std.specs.Prelude.{◌≡◌, ◌≢◌, ◌⊎◌, ℕ, List, Option, Some, None}
use Rattle.std.specs.Io.KnownBytes.{Appends}
use Rattle.aria_base.specs.Streams.{AppendsFront}
use Rattle.store_files.specs.declared.refusals.StoreRefused.{StoreRefused}
use Rattle.store_files.specs.declared.refusals.StoreRefused.TheVariants as refused
use Rattle.serving.specs.declared.lives.Live.{Live}
use Rattle.serving.specs.declared.batches.Delivery.{Delivery}
use Rattle.serving.specs.declared.batches.Delivery.TheVariants as delivery

-- where it is told, all of the text was given and the database goes on; else a prefix of the text was given, and it is gone
abbrev pub Tells : List ℕ → (Live → Type 0) → Option (List ℕ) → Option (List ℕ) → Option Live × Delivery → Type 0
Tells text goes_on old new (Some live, delivery.Told) = Appends old new text × goes_on live
Tells text goes_on old new (None, delivery.NoMemory) = AppendsFront old new text
Tells text goes_on old new (None, delivery.NoWrite) = AppendsFront old new text
Tells text goes_on old new (None, delivery.NoDisk) = AppendsFront old new text
Tells text goes_on old new other = ⊥

-- where it is told, the database that goes on is such a one
abbrev pub IfTold : Option Live × Delivery → (Live → Type 0) → Type 0
IfTold (Some live, delivery.Told) P = P live
IfTold other P = Unit {0}

-- it is told, or the sink's bytes are others than before
abbrev pub IsAnswered : Option (List ℕ) → Option (List ℕ) → Delivery → Type 0
IsAnswered old new answer = (answer ≡ delivery.Told) ⊎ (new ≢ old)

-- the sink and the disk are at fault only where this is so
abbrev pub IsDeliveryCause : Delivery → Type 0 → Type 0 → Type 0
IsDeliveryCause delivery.Told sink disk = Unit {0}
IsDeliveryCause delivery.NoMemory sink disk = Unit {0}
IsDeliveryCause delivery.NoWrite sink disk = sink
IsDeliveryCause delivery.NoDisk sink disk = disk

-- and it is not told
abbrev pub IsUntold : Delivery → Type 0 → Type 0 → Type 0
IsUntold delivery.Told sink disk = ⊥
IsUntold delivery.NoMemory sink disk = Unit {0}
IsUntold delivery.NoWrite sink disk = sink
IsUntold delivery.NoDisk sink disk = disk

-- ---- what a store answers

-- a store that is not closed could not write
abbrev pub IsOfWriting : StoreRefused → Type 0
IsOfWriting refused.Memory = Unit {0}
IsOfWriting refused.DiskFault = Unit {0}
IsOfWriting refused.NoStore = ⊥
IsOfWriting refused.Exists = ⊥
IsOfWriting (refused.Damaged file at) = ⊥
IsOfWriting (refused.Closed faults) = ⊥

-- what a batch comes to where a store answers so
abbrev pub IsFor : StoreRefused → Delivery → Type 0
IsFor refused.Memory delivery.NoMemory = Unit {0}
IsFor refused.DiskFault delivery.NoDisk = Unit {0}
IsFor other answer = ⊥
