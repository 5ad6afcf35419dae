use Rattle.std.proofs.Common.{rules, ◌≡◌, length}
use Rattle.check_command.specs.Standing.{doing_of}
use Rattle.check_command.proofs.Standing.{may_follow}
use Rattle.check_command.proofs.readings.Reading.next.Goals as goal

pub with-requires : goal.with-requires
with-requires c =
    let same : c.len.result ≡ length c.self.inside.work.ends.items = search rules in
    may_follow (doing_of c.self.inside.place c.self.inside.work) c.len.result c.args.line.now c.in_ok-after.after c.in_ok-after.deed same c.self.invariant
    c.in_ok-after.ensures
