use Rattle.std.proofs.Common.{◌≡◌, ◌∷◌, ◌-◌, [], List, take, drop, length, true, arith, rules}
use Rattle.std.proofs.lemmas.Grind.{common_steps}
use Rattle.aria_base.specs.Orders.{Cells}
use Rattle.aria_base.specs.declared.keys.Key.{Key}
use Rattle.cat_builtin.specs.Warehouses as table
use Rattle.range_rules.specs.declared.routines.Seen.{Seen}
use Rattle.range_rules.specs.declared.routines.Seen.TheVariants.{Many}
use Rattle.range_rules.specs.Walks.{Walk}
use Rattle.tpcc_routines.specs.Answers.{prefix_at, are_rows}
use Rattle.tpcc_routines.specs.Routines.{deliver, oldest}
use Rattle.tpcc_routines.proofs.Turning.{turned, found_on}
use Rattle.tpcc_routines.proofs.deliveries.deliver.Goals as goal

pub returns-in_ok-turn-in-Many : goal.returns-in_ok-turn-in-Many
unfolding deliver
returns-in_ok-turn-in-Many c next =
    let p = prefix_at table.open_orders (c.args.at.w ∷ c.args.at.d ∷ []) in
    let rest : List Seen = take (length c.args.seen.now - 1) (drop 1 c.args.seen.now) in
    let rows = c.as_slice-orders.result.now in
    let go : List (Key × Cells) → Walk = oldest c.args.what c.args.at next in
    let front : c.args.seen.now ≡ Many c.as_slice-orders.result.now ∷ take (length c.args.seen.now - 1) (drop 1 c.args.seen.now) =
    grind (arith, common_steps) in
    let right : are_rows (prefix_at table.open_orders (c.args.at.w ∷ c.args.at.d ∷ [])) 0 c.as_slice-orders.result.now ≡ true = search rules in
    turned (go rows) (deliver c.args.what c.args.at next) next rest c.args.seen.now c.in_ok-turn-in-Many.turn
    (found_on p 0 go rows rest c.args.seen.now front right) (c.in_ok-turn-in-Many.ensures next)
