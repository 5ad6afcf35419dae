use Rattle.std.proofs.Common.{◌≡◌, drop}
use Rattle.proc_lang.specs.Typing.{set_all}
use Rattle.proc_verify.specs.Scopes.{seen}
use Rattle.proc_verify.proofs.assignments.set_all.Given as goal

abbrev pub invariant-loop-at : goal.invariant-loop-at
invariant-loop-at l = set_all (seen l.scope) (drop l.at l.register-items) (drop l.at l.kinds) l.set ≡ set_all (seen l.scope) l.registers l.kinds l.initial.set
