use Rattle.std.proofs.Common.{◌≡◌, ◌++◌, take}
use Rattle.std.specs.List.{All}
use Rattle.script_text.specs.Written.{IsArgs}
use Rattle.image_text.specs.Lines.{written}
use Rattle.image_text.specs.Exactly.{line_of_call}
use Rattle.image_text.proofs.payloads.append_calls.Given as goal

abbrev pub invariant-loop-call : goal.invariant-loop-call
invariant-loop-call l = record {
  text : l.out.items ≡ l.initial.out.items ++ written (line_of_call l.catalog) (take l.call-index l.calls);
  args : All (λ call. IsArgs call.args) (take l.call-index l.calls);
}
