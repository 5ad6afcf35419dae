use Rattle.std.proofs.Common.{cond, Some, ◌∙◌, sym, ap}
use Rattle.std.specs.Prelude.{is_some}
use Rattle.std.specs.BTreeMap.{is_at, get}
use Rattle.aria_base.proofs.Orders.{derived_cmp}
use Rattle.node_batch.proofs.Noted.{stays, notes}
use Rattle.node_batch.proofs.firsts.Firsts.note.Goals as goal

pub returns-then-is_some : goal.returns-then-is_some
returns-then-is_some c = stays c.args.self.now c.args.key.now c.args.tid (sym (c.is_some.ensures ∙ ap is_some c.get.ensures) ∙ c.if-is_some.true)

pub returns : goal.returns
returns c = notes c.args.self.now (record { map = c.insert.new.self }) c.args.key.now c.args.tid (sym (c.is_some.ensures ∙ ap is_some c.get.ensures)
    ∙ c.if-is_some.false)
    (λ q. c.in_ok-insert.ensures.updates.0 q
    ∙ (λ j. cond (is_at (derived_cmp (c.in_ok-duplicate.ensures j)) q) (Some c.args.tid) (get derived_cmp c.args.self.now.map q)))
