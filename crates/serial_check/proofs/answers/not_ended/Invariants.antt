use Rattle.std.proofs.Common.{◌≡◌, ◌++◌, not, is_some}
use Rattle.std.specs.BTreeMap as tree
use Rattle.std.specs.List.{filter}
use Rattle.std.specs.Ordering.{nat_cmp}
use Rattle.std.specs.Vec.Iter.{into_iter_items}
use Rattle.serial_check.proofs.answers.not_ended.Given as goal

abbrev pub invariant-loop-request : goal.invariant-loop-request
invariant-loop-request l =
    (goal.iterator-loop-request).can_next l.request-iterator ×
    (goal.iterator-loop-request).is_finite l.request-iterator ×
    (l.carried.items ++ filter (λ request. not (is_some (tree.get nat_cmp l.ends request.q))) (into_iter_items l.request-iterator)
    ≡ filter (λ request. not (is_some (tree.get nat_cmp l.ends request.q))) (into_iter_items l.initial.request-iterator))
