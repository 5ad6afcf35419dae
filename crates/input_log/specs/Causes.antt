-- When a call that reads a log is refused.
use Rattle.std.specs.Prelude.{◌≡◌, ℕ, ⊤, IfSome, drop}
use Rattle.aria_base.specs.Faults.{Rose}
use Rattle.disk_model.specs.declared.refusals.LogRefused.{LogRefused}
use Rattle.disk_model.specs.declared.refusals.LogRefused.TheVariants.{Memory, DiskFault, Damaged}
use Rattle.disk_model.specs.Histories.{History, current}
use Rattle.input_log.specs.Layout.{Breaks, log_of, Broken, next_of}

-- a call that reads the whole log: damage is that of the bytes
abbrev pub ReadCause : History → History → ℕ → LogRefused → Type 0
ReadCause old new file Memory = ⊤
ReadCause old new file DiskFault = Rose old.faults new.faults
ReadCause old new file (Damaged of at) = (of ≡ file) × IfSome (current old file) (λ f. log_of f.seen ≡ Breaks at)

-- one that reads what stands at a gate
abbrev pub GateCause : History → History → ℕ → ℕ → LogRefused → Type 0
GateCause old new file gate Memory = ⊤
GateCause old new file gate DiskFault = Rose old.faults new.faults
GateCause old new file gate (Damaged of at) = (of ≡ file) × (at ≡ gate)
    × IfSome (current old file) (λ f. next_of (drop gate f.seen) ≡ Broken)
