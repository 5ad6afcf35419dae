-- When a call on one file is refused because there was no memory or by a fault of the disk, and for nothing else.
use Rattle.std.specs.Prelude.{◌≡◌, ⊤}
use Rattle.aria_base.specs.Faults.{Rose}
use Rattle.disk_model.specs.Histories.{History}
use Rattle.disk_model.specs.declared.refusals.LogRefused.{LogRefused}
use Rattle.disk_model.specs.declared.refusals.LogRefused.TheVariants.{Memory, DiskFault, Damaged}

-- a call that only writes: out of memory before the first device call, or a fault of the disk
abbrev pub WriteCause : {D : Type 0} → (D → History) → D → D → LogRefused → Type 0
WriteCause history old new Memory = new ≡ old
WriteCause history old new DiskFault = Rose (history old).faults (history new).faults
WriteCause history old new (Damaged file at) = ⊥

-- a fault of the disk alone
abbrev pub FaultOnly : History → History → LogRefused → Type 0
FaultOnly old new DiskFault = Rose old.faults new.faults
FaultOnly old new refused = ⊥

-- out of memory, or a fault of the disk
abbrev pub NoDamage : History → History → LogRefused → Type 0
NoDamage old new Memory = ⊤
NoDamage old new DiskFault = Rose old.faults new.faults
NoDamage old new (Damaged file at) = ⊥
