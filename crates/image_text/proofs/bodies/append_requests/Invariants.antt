use Rattle.std.proofs.Common.{◌≡◌, ◌++◌, take}
use Rattle.std.specs.List.{All}
use Rattle.script_text.specs.Written.{IsArgs}
use Rattle.image_text.specs.Lines.{written}
use Rattle.image_text.specs.Helds.{line_of_held}
use Rattle.image_text.proofs.bodies.append_requests.Given as goal

abbrev pub invariant-loop-request : goal.invariant-loop-request
invariant-loop-request l = record {
  text : l.out.items ≡ l.initial.out.items ++ written (line_of_held l.catalog) (take l.request-index l.held);
  args : All (λ request. IsArgs request.call.args) (take l.request-index l.held);
}
