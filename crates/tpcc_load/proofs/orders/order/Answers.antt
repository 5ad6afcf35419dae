use Rattle.std.proofs.Common.{◌≡◌, ap, ◌∙◌, nat_le, rules, [], ◌∷◌, pos}
use Rattle.cat_builtin.specs.Warehouses as table
use Rattle.tpcc_load.specs.Rows.{laid, row_of}
use Rattle.tpcc_load.specs.Heads as heads
use Rattle.tpcc_load.proofs.Layings.{order-laid}
use Rattle.tpcc_load.proofs.orders.order.Goals as goal

pub returns : goal.returns
returns c =
    let s = c.args.settings.now in
    let first : c.put.new.tables ≡ laid c.args.tables.now (row_of table.orders (c.args.at.w ∷ c.args.at.d ∷ c.args.o ∷ [])
    (pos c.args.customer ∷ pos 1 ∷ pos c.carrier-carrier.result ∷ pos c.random-count.result ∷ pos 1 ∷ []) ∷ []) = search rules in
    let open_one : c.put-2.new.tables ≡ laid c.lines.new.tables (heads.open_rows s c.args.at.w c.args.at.d c.args.o) = search rules in
    order-laid s c.args.at.w c.args.at.d c.args.customer c.args.o c.carrier-carrier.result c.random-count.result
    c.args.tables.now c.put.new.tables c.lines.new.tables c.put-2.new.tables
    c.args.draws.now c.carrier-carrier.new.draws c.random-count.new.draws c.lines.new.draws
    (c.carrier-carrier.ensures ∙ ap (λ n. heads.carrier (nat_le c.args.o n) c.args.draws.now) c.delivered.ensures)
    c.random-count.ensures.drawn first c.in_ok-lines.ensures open_one
