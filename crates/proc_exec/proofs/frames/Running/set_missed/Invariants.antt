use Rattle.std.proofs.Common.{◌≡◌, drop}
use Rattle.proc_lang.specs.Meaning.{blank_all, set_to}
use Rattle.proc_exec.proofs.frames.Running.set_missed.Given as goal

abbrev pub invariant-loop-register : goal.invariant-loop-register
invariant-loop-register l = set_to l.self (blank_all (drop l.register-index l.register-items) l.self.regs) ≡ set_to l.initial.self
    (blank_all l.register-items l.initial.self.regs)
