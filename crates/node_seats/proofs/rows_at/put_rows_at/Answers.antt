use Rattle.std.proofs.Common.{ap, ◌∙◌, map}
use Rattle.std.specs.Prelude.{◌==◌}
use Rattle.std.specs.Map.Iter.{deref_pair}
use Rattle.node_batch.specs.Mails.{node_of}
use Rattle.node_seats.specs.RowsAt.{put_all}
use Rattle.node_seats.proofs.rows_at.put_rows_at.Goals as goal

pub returns : goal.returns
returns c = c.in_ok-put_each.ensures
    ∙ ap (λ rows. put_all (λ k. node_of c.args.nodes k == c.args.node) c.args.into.now (map deref_pair rows)) c.deref.ensures.value
    ∙ ap (put_all (λ k. node_of c.args.nodes k == c.args.node) c.args.into.now) c.in_ok-rows.ensures
