use Rattle.std.proofs.Common.{◌≡◌, rules, [], ◌∷◌}
use Rattle.tpcc_load.specs.Draws.{over}
use Rattle.tpcc_load.specs.Rows.{laid, laid_drawn}
use Rattle.tpcc_load.specs.Heads as heads
use Rattle.tpcc_load.proofs.Layings.{district-laid}
use Rattle.tpcc_load.proofs.districts.district.Goals as goal

pub returns : goal.returns
returns c =
    let first : c.put.new.tables ≡ laid c.args.tables.now (heads.district_row c.args.settings.now c.args.at.w c.args.at.d c.random-tax.result ∷ []) =
    search rules in
    let orders : (c.orders.new.tables, c.orders.new.draws) ≡ laid_drawn c.customers.new.tables
    (over c.args.settings.now.customers (heads.order c.args.settings.now c.args.at.w c.args.at.d c.in_ok-places.places.items) c.shuffled.new.draws) =
    search rules in
    let names : c.lay_names.new.tables ≡ laid c.orders.new.tables
    (heads.name_rows c.args.at.w c.args.at.d c.in_ok-ranks.ranks.items (heads.names c.args.settings.now)) = search rules in
    district-laid c.args.settings.now c.args.at.w c.args.at.d c.random-tax.result c.in_ok-ranks.ranks.items c.in_ok-places.places.items
    c.args.tables.now c.put.new.tables c.customers.new.tables c.orders.new.tables c.lay_names.new.tables
    c.args.draws.now c.random-tax.new.draws c.customers.new.draws c.shuffled.new.draws c.orders.new.draws
    c.random-tax.ensures.drawn first c.in_ok-ranks.ensures.drawn c.in_ok-ranks.ensures.tables c.in_ok-ranks.ensures.ranks
    c.in_ok-places.ensures.drawn orders names
