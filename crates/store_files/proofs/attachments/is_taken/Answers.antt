use Rattle.std.proofs.Common.{rules, ◌≡◌, true, false}
use Rattle.store_files.proofs.Attaching.{taken_first, taken_second}
use Rattle.store_files.proofs.attachments.is_taken.Goals as goal

pub returns-then-first-clause-taken : goal.returns-then-first-clause-taken
returns-then-first-clause-taken g c =
    let is : c.in_ok-first.first ≡ true = search rules in
    taken_first (g.D.Disk.history c.args.disk.now) c.in_ok-first.first c.in_ok-first.ensures.open is

pub returns-clause-taken : goal.returns-clause-taken
returns-clause-taken g c =
    let is : c.in_ok-first.first ≡ false = search rules in
    taken_second (g.D.Disk.history c.args.disk.now) (g.D.Disk.history c.gate_open.new.disk) c.in_ok-first.first c.in_ok-second.second
    c.gate_open.ensures.still c.in_ok-first.ensures.open is c.in_ok-second.ensures.open
