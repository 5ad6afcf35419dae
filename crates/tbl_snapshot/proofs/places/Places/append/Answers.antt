use Rattle.std.proofs.Common.{cond, Some, ◌∙◌, sym}
use Rattle.std.specs.BTreeMap.{is_at, get}
use Rattle.aria_base.proofs.Orders.{derived_cmp}
use Rattle.tbl_snapshot.proofs.Placed.{stays, notes}
use Rattle.tbl_snapshot.proofs.places.Places.append.Goals as goal

pub returns-then-contains_key : goal.returns-then-contains_key
returns-then-contains_key c keys long has = stays c.args.self.now keys c.args.key.now has (sym c.contains_key.ensures ∙ c.if-contains_key.true)

pub returns : goal.returns
returns c keys long has = notes c.args.self.now keys c.args.key.now has (record { map = c.insert.new.self }) c.args.place long
    (sym c.contains_key.ensures ∙ c.if-contains_key.false)
    (λ q. c.in_ok-insert.ensures.updates.0 q
    ∙ (λ j. cond (is_at (derived_cmp (c.in_ok-duplicate.ensures j)) q) (Some c.args.place) (get derived_cmp c.args.self.now.map q)))
