use Rattle.std.proofs.Common.{◌≡◌, rules}
use Rattle.tpcc_load.specs.Draws.{over}
use Rattle.tpcc_load.specs.Heads.{item}
use Rattle.tpcc_load.specs.Rows.{laid_drawn}
use Rattle.std.specs.FinMap as fin
use Rattle.aria_base.specs.Draws.{standing}
use Rattle.tpcc_load.proofs.Layings.{head-laid}
use Rattle.tpcc_load.proofs.heads.head.Goals as goal

pub returns-clause-tables : goal.returns-clause-tables
returns-clause-tables c =
    let items : (c.items.new.tables, c.items.new.draws) ≡ laid_drawn fin.empty
    (over c.args.settings.now.items item (standing c.args.settings.now.number 1 0)) = search rules in
    head-laid c.args.settings.now fin.empty c.items.new.tables c.warehouses.new.tables (standing c.args.settings.now.number 1 0) c.items.new.draws
    c.warehouses.new.draws items c.in_ok-warehouses.ensures
