use Rattle.std.proofs.Common.{◌≡◌, ◌≤◌, sym, subst, set}
use Rattle.row_batons.specs.Layouts.{AreStamped}
use Rattle.row_batons.proofs.Touching.{stamped_now}
use Rattle.row_batons.proofs.layouts.add_touch.Goals as goal

pub returns-clause-stamped : goal.returns-clause-stamped
returns-clause-stamped c =
    subst (λ s. AreStamped c.args.stamp s c.push.new.self.items) (sym c.set_stamp.ensures)
    (subst (AreStamped c.args.stamp (set c.args.stamps.now.items c.args.slot c.args.stamp)) (sym c.in_ok-push.ensures.items)
    (stamped_now c.args.stamp c.args.stamps.now.items c.args.touched.now.items c.requires.stamped c.args.slot c.requires.slot c.requires.new))
