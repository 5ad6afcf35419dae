use Rattle.std.proofs.Common.{Bool, map, ap, ◌∙◌, subst}
use Rattle.std.specs.Prelude.{◌==◌}
use Rattle.std.specs.FinMap as fin
use Rattle.std.specs.Map.Iter.{deref_pair}
use Rattle.aria_base.specs.Orders.{Database}
use Rattle.aria_base.specs.declared.keys.Key.{Key}
use Rattle.node_batch.specs.Mails.{node_of}
use Rattle.node_seats.specs.RowsAt.{put_all}
use Rattle.node_seats.specs.Seats.{IsBegun}
use Rattle.node_seats.proofs.Putting.{part_is}
use Rattle.node_seats.proofs.all_seats.first_seat.Goals as goal

pub returns : goal.returns
returns c = λ rows listed.
    let at : Key → Bool = λ k. node_of c.args.nodes k == c.args.node in
    subst (λ (db : Database). IsBegun (record { batch = 1; node = c.args.node; nodes = c.args.nodes }) db c.begin.result)
    (c.in_ok-put_each.ensures ∙ ap (λ (db : Database). put_all at db (map deref_pair c.args.listed.now)) c.in_ok-own.ensures
    ∙ ap (put_all at fin.empty) listed ∙ part_is at rows)
    c.begin.ensures
