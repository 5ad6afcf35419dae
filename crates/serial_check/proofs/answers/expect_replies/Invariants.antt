use Rattle.std.proofs.Common.{◌≡◌, ◌+◌, ◌≤◌, drop, length}
use Rattle.std.specs.BTreeMap as tree
use Rattle.std.specs.Ordering.{nat_cmp}
use Rattle.serial_check.specs.Reports.{replies}
use Rattle.serial_check.proofs.answers.expect_replies.Given as goal

abbrev pub invariant-loop-request : goal.invariant-loop-request
invariant-loop-request l = record {
  says : replies l.report (tree.get nat_cmp l.ends) (drop l.request-index l.list) l.at ≡ replies l.report (tree.get nat_cmp l.ends) l.list l.initial.at;
  next : l.at ≡ l.initial.at + l.request-index;
  within : l.at ≤ length l.report;
}
