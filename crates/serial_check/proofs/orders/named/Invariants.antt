use Rattle.std.proofs.Common.{◌≡◌, ℕ, List, [], drop, map}
use Rattle.std.specs.Prelude.{option_copied}
use Rattle.std.specs.BTreeMap as tree
use Rattle.std.specs.Cmp.Lexicographic.{slice_cmp}
use Rattle.std.specs.Map.Iter.{deref}
use Rattle.std.specs.Ordering.{nat_cmp}
use Rattle.serial_check.specs.Orders.{named_after, unnamed}
use Rattle.serial_check.proofs.orders.named.Given as goal

abbrev pub invariant-loop-token : goal.invariant-loop-token
invariant-loop-token l = record {
  tokens : named_after l.list (map deref l.order.items) (map deref (drop l.token-index l.tokens)) ≡ named_after l.list [] (map deref l.tokens);
  left : (token : List ℕ) → option_copied (tree.get (slice_cmp nat_cmp) l.left token) ≡ unnamed l.list (map deref l.order.items) token;
}
