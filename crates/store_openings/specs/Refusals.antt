-- What an answer of a store comes to where it is opened.
use Rattle.std.specs.Prelude.{◌≡◌, ⊤}
use Rattle.serving.specs.declared.batches.Delivery.{Delivery}
use Rattle.serving.specs.declared.batches.Delivery.TheVariants as delivery
use Rattle.store_files.specs.declared.refusals.StoreRefused.{StoreRefused}
use Rattle.store_files.specs.declared.refusals.StoreRefused.TheVariants as refused
use Rattle.store_openings.specs.declared.refusals.NotOpened.{NotOpened}
use Rattle.store_openings.specs.declared.refusals.NotOpened.TheVariants as refusal

-- what attaching may answer
abbrev pub IsAttaching : StoreRefused → Type 0
IsAttaching refused.Memory = ⊤
IsAttaching refused.DiskFault = ⊤
IsAttaching refused.NoStore = ⊤
IsAttaching (refused.Damaged file at) = ⊤
IsAttaching refused.Exists = ⊥
IsAttaching (refused.Closed faults) = ⊥

abbrev pub IsFor : StoreRefused → NotOpened → Type 0
IsFor refused.Memory why = why ≡ refusal.NoMemory
IsFor refused.DiskFault why = why ≡ refusal.NoDisk
IsFor refused.NoStore why = why ≡ refusal.NoStore
IsFor (refused.Damaged file at) why = why ≡ refusal.Damaged file at
IsFor refused.Exists why = ⊥
IsFor (refused.Closed faults) why = ⊥

-- what a rotation that does not end well may answer
abbrev pub IsRotating : Delivery → Type 0
IsRotating delivery.NoMemory = ⊤
IsRotating delivery.NoDisk = ⊤
IsRotating delivery.Told = ⊥
IsRotating delivery.NoWrite = ⊥

abbrev pub IsForDelivery : Delivery → NotOpened → Type 0
IsForDelivery delivery.NoMemory why = why ≡ refusal.NoMemory
IsForDelivery delivery.NoDisk why = why ≡ refusal.NoDisk
IsForDelivery delivery.Told why = ⊥
IsForDelivery delivery.NoWrite why = ⊥
