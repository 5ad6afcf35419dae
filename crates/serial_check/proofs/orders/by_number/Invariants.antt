use Rattle.std.proofs.Common.{◌≡◌, ℕ, List, drop}
use Rattle.std.specs.Prelude.{option_copied}
use Rattle.std.specs.BTreeMap as tree
use Rattle.std.specs.Cmp.Lexicographic.{slice_cmp}
use Rattle.std.specs.List.{find}
use Rattle.std.specs.Option.{option_or}
use Rattle.std.specs.Ordering.{nat_cmp}
use Rattle.serial_check.specs.Orders.{is_written}
use Rattle.serial_check.proofs.orders.by_number.Given as goal

abbrev pub invariant-loop-request : goal.invariant-loop-request
invariant-loop-request l = (token : List ℕ) → option_or (option_copied (tree.get (slice_cmp nat_cmp) l.all token))
    (find (is_written token) (drop l.request-index l.list)) ≡ find (is_written token) l.list
