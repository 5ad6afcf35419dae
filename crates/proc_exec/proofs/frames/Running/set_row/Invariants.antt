use Rattle.std.proofs.Common.{◌≡◌, drop}
use Rattle.std.specs.Vec.Iter.{into_iter_items}
use Rattle.proc_lang.specs.Meaning.{set_all, set_to}
use Rattle.proc_exec.proofs.frames.Running.set_row.Given as goal

abbrev pub invariant-loop-register : goal.invariant-loop-register
invariant-loop-register l = set_to l.self (set_all (drop l.register-index l.register-items) (into_iter_items l.values) l.self.regs) ≡ set_to l.initial.self
    (set_all l.register-items (into_iter_items l.initial.values) l.initial.self.regs)
