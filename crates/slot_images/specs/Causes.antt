-- When the loading of an image is refused.
use Rattle.std.specs.Prelude.{◌≡◌, ℕ, ⊤, IfSome}
use Rattle.aria_base.specs.Faults.{Rose}
use Rattle.disk_model.specs.declared.refusals.LogRefused.{LogRefused}
use Rattle.disk_model.specs.declared.refusals.LogRefused.TheVariants.{Memory, DiskFault, Damaged}
use Rattle.disk_model.specs.Histories.{History, current}
use Rattle.slot_images.specs.Images.{FileReads, Broken}

abbrev pub LoadCause : History → History → ℕ → LogRefused → Type 0
LoadCause old new slot Memory = ⊤
LoadCause old new slot DiskFault = Rose old.faults new.faults
LoadCause old new slot (Damaged file at) = (file ≡ slot) × IfSome (current old slot) (λ f. FileReads slot f.seen (Broken at))
