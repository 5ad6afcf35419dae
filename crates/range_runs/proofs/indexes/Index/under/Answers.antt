use Rattle.std.proofs.Common.{ap, ◌∙◌}
use Rattle.range_runs.proofs.Ranges.{front_under, found_under}
use Rattle.range_runs.proofs.indexes.Index.under.Goals as goal

pub loop-key-init : goal.loop-key-init
loop-key-init c =
    let p = c.args.prefix.now in (
      tt,
      tt,
      rw (← c.self.view_is, c.new-keys.ensures.items)
          (ap (front_under p) (c.into_iter-key-iterator.ensures.into_iter_gives ∙ c.range-key-items.ensures.between tt)
          ∙ found_under p _ c.in_ok-least.ensures _ c.self.invariant c.range-key-items.ensures.ordered),
    )
