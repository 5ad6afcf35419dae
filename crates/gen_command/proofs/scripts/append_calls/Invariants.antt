use Rattle.std.proofs.Common.{◌≡◌, ◌++◌, take, flat_map}
use Rattle.gen_command.specs.Scripts.{call_text}
use Rattle.gen_command.proofs.scripts.append_calls.Given as goal

abbrev pub invariant-loop-call : goal.invariant-loop-call
invariant-loop-call l = l.text.items ≡ l.initial.text.items ++ flat_map (call_text l.procs) (take l.call-index l.calls)
