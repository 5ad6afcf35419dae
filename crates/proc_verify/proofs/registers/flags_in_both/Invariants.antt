use Rattle.std.proofs.Common.{◌≡◌, ◌++◌, drop}
use Rattle.proc_lang.specs.Typing.{set_in_both}
use Rattle.proc_verify.proofs.registers.flags_in_both.Given as goal

abbrev pub invariant-loop-at : goal.invariant-loop-at
invariant-loop-at l = l.flags.items ++ set_in_both (drop l.at l.here) (drop l.at l.there) ≡ set_in_both l.here l.there
