use Rattle.std.proofs.Common.{◌∷◌, ◌-◌, [], List, take, drop, length, arith, rules}
use Rattle.std.proofs.lemmas.Grind.{common_steps}
use Rattle.aria_base.specs.Orders.{Cells}
use Rattle.cat_builtin.specs.Warehouses as table
use Rattle.range_rules.specs.declared.routines.Seen.{Seen}
use Rattle.range_rules.specs.Walks.{Walk}
use Rattle.tpcc_routines.specs.Answers.{key_at, are_numbers}
use Rattle.tpcc_routines.specs.Routines.{carried, with_carrier}
use Rattle.tpcc_routines.proofs.Turning.{need_turned}
use Rattle.tpcc_routines.proofs.deliveries.with_carrier.Goals as goal

pub returns-in_ok-turn-in-One : goal.returns-in_ok-turn-in-One
unfolding with_carrier
returns-in_ok-turn-in-One c next =
    let k = key_at table.orders (c.args.at.w ∷ c.args.at.d ∷ c.args.o.now ∷ []) in
    let rest : List Seen = take (length c.args.seen.now - 1) (drop 1 c.args.seen.now) in
    let go : Cells → Walk = λ order. carried c.args.what c.args.at c.args.o.now order next in
    need_turned k (are_numbers 5) go next _ rest c.args.seen.now c.in_ok-turn-in-One.turn (c.in_ok-turn-in-One.ensures next)
    (grind (arith, common_steps)) (search rules)
