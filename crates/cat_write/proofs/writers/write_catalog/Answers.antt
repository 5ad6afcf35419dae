use Rattle.std.proofs.Common.{◌≤◌}
use Rattle.serde_json.specs.Data.{depth}
use Rattle.serde_json.specs.View.{view}
use Rattle.cat_write.proofs.PlansAgain.{plan_again, plan_nests}
use Rattle.cat_write.proofs.writers.write_catalog.Goals as goal

pub returns-clause-reads : goal.returns-clause-reads
returns-clause-reads c =
    let root = c.in_ok-root.ensures in
    let said = root.data in
    let nests : depth (view c.in_ok-root.field-0) ≤ 127 = rw said (plan_nests c.args.catalog.now root.catalog) in
    let text = c.in_ok-to_vec.ensures in
    (view c.in_ok-root.field-0, record { utf8 = text.utf8; data_is = text.reads_back nests }, rw said (plan_again c.args.catalog.now root.catalog root.held))
