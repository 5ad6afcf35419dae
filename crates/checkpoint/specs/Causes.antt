-- When a reading of a slot is refused.
use Rattle.std.specs.Prelude.{◌≡◌, ℕ, ⊤, IfSome}
use Rattle.aria_base.specs.Faults.{Rose}
use Rattle.disk_model.specs.declared.refusals.LogRefused.{LogRefused}
use Rattle.disk_model.specs.declared.refusals.LogRefused.TheVariants.{Memory, DiskFault, Damaged}
use Rattle.disk_model.specs.Histories.{History, current}
use Rattle.checkpoint.specs.Slots.{slot_of, Bad}

-- a look at the head, which takes no memory
abbrev pub LookCause : History → History → ℕ → LogRefused → Type 0
LookCause old new slot Memory = ⊥
LookCause old new slot DiskFault = Rose old.faults new.faults
LookCause old new slot (Damaged file at) = (file ≡ slot) × IfSome (current old slot) (λ f. slot_of slot f.seen ≡ Bad at)

-- a reading of head and body
abbrev pub ReadCause : History → History → ℕ → LogRefused → Type 0
ReadCause old new slot Memory = ⊤
ReadCause old new slot refused = LookCause old new slot refused
