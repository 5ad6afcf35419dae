use Rattle.std.proofs.Common.{sym, ap, ◌∙◌, ◌++◌, map}
use Rattle.std.specs.List.{filter}
use Rattle.batch_rules.specs.Batches.{is_late}
use Rattle.reorder.specs.Orders.{bare_from}
use Rattle.reorder.proofs.Places.{ordered_tids-made}
use Rattle.reorder.proofs.placements.order.Goals as goal

pub returns : goal.returns
returns c =
    let verdicts = c.args.verdicts.now in
    let ended = c.args.ended.now in
    c.in_ok-append_late.ensures ∙ ap (λ l. l ++ map (λ e. e.judged.tid) (filter is_late (bare_from 1 verdicts ended))) c.in_ok-tids.ensures
    ∙ sym (ordered_tids-made verdicts ended c.requires.each)
