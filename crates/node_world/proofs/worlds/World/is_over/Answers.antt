use Rattle.std.proofs.Common.{arith}
use Rattle.node_batch.specs.Sames.{same_message}
use Rattle.node_seats.proofs.Keeping.{stands}
use Rattle.node_world.proofs.Turning.{desk, shown, over_on, over_off}
use Rattle.node_world.proofs.worlds.World.is_over.Goals as goal

pub returns-then-len : goal.returns-then-len
returns-then-len c = λ start keeps.
    let w = c.args.self.now in
    let s = c.index-seat.result.now in
    let many = keeps.many_seats in
    let below = c.requires.below in
    let at = stands w.seats.items c.args.n s (omega arith) c.index-seat.ensures in
    let long = c.len.ensures in
    let own = c.len-2.ensures in
    let a = w.started.ok.0 in
    let b = s.entries.ok.0 in
    let le = c.if-len.true in
    over_off start w keeps c.args.n s at (omega arith)

pub returns : goal.returns
returns c = λ start keeps.
    let w = c.args.self.now in
    let s = c.index-seat.result.now in
    let many = keeps.many_seats in
    let below = c.requires.below in
    let at = stands w.seats.items c.args.n s (omega arith) c.index-seat.ensures in
    let long = c.len.ensures in
    let own = c.len-2.ensures in
    let a = w.started.ok.0 in
    let b = s.entries.ok.0 in
    let off = c.if-len.false in
    over_on start w keeps c.args.n s at (omega arith) c.is_over.result
    (c.is_over.ensures w.catalog w.rule same_message (desk start w keeps c.args.n s at) (shown start w keeps c.args.n s at))
