use Rattle.std.proofs.Common.{◌≡◌, map, take}
use Rattle.proc_lang.specs.Values.{blank}
use Rattle.proc_exec.proofs.frames.blanks.Given as goal

abbrev pub invariant-loop-kind : goal.invariant-loop-kind
invariant-loop-kind l = l.values.items ≡ map blank (take l.kind-index l.kind-items)
