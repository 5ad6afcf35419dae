use Rattle.std.proofs.Common.{◌≡◌, map, take}
use Rattle.batch_engine.proofs.lists.numbers_of.Given as goal

abbrev pub invariant-loop-request : goal.invariant-loop-request
invariant-loop-request l = l.numbers.items ≡ map (λ request. request.q) (take l.request-index l.list)
