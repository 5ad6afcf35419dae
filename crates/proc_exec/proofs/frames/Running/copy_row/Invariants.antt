use Rattle.std.proofs.Common.{◌≡◌, drop}
use Rattle.std.specs.Slice.Iter.{iter_rest}
use Rattle.proc_lang.specs.Meaning.{set_all, set_to}
use Rattle.proc_exec.proofs.frames.Running.copy_row.Given as goal

abbrev pub invariant-loop-register : goal.invariant-loop-register
invariant-loop-register l = set_to l.self (set_all (drop l.register-index l.register-items) (iter_rest l.values) l.self.regs) ≡ set_to l.initial.self
    (set_all l.register-items (iter_rest l.initial.values) l.initial.self.regs)
