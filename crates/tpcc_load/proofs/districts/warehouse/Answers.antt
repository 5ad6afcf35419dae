use Rattle.std.proofs.Common.{◌≡◌, rules, [], ◌∷◌, pos}
use Rattle.cat_builtin.specs.Warehouses as table
use Rattle.tpcc_load.specs.Rows.{laid, row_of}
use Rattle.tpcc_load.proofs.Layings.{warehouse-laid}
use Rattle.tpcc_load.proofs.districts.warehouse.Goals as goal

pub returns : goal.returns
returns c =
    let first : c.put.new.tables ≡ laid c.args.tables.now (row_of table.warehouses (c.args.w ∷ []) (pos c.random-tax.result ∷ pos 30000000 ∷ []) ∷ []) =
    search rules in
    warehouse-laid c.args.settings.now c.args.w c.random-tax.result c.args.tables.now c.put.new.tables c.stock.new.tables c.districts.new.tables
    c.args.draws.now c.random-tax.new.draws c.stock.new.draws c.districts.new.draws
    c.random-tax.ensures.drawn first c.in_ok-stock.ensures c.in_ok-districts.ensures
