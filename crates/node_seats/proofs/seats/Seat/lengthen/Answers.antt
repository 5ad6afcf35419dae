use Rattle.std.proofs.Common.{refl, arith}
use Rattle.node_batch.specs.Sames.{same_message}
use Rattle.node_seats.proofs.seats.Seat.lengthen.Goals as goal

pub returns-then-len-done : goal.returns-then-len-done
returns-then-len-done c =
    let a = c.len.ensures in
    let b = c.args.self.now.entries.ok.0 in
    let lt = c.if-len-done.true in
    record { behind = λ _. refl; rest = λ le. absurd (omega arith) }

pub returns : goal.returns
returns c =
    let a = c.len.ensures in
    let b = c.args.self.now.entries.ok.0 in
    let le = c.if-len-done.false in
    let is = c.in_ok-lengthen.ensures in
    record {
      behind = λ lt. absurd (omega arith);
      rest = λ _. record {
        site = is.site;
        rows = is.rows;
        list = is.list;
        carried = refl;
        entries = refl;
        given = refl;
        shows = λ plan rule desk bare. is.shows plan rule same_message desk bare;
      };
    }
