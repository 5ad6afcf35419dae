use Rattle.std.proofs.Common.{◌≡◌, sym, ap, ◌∙◌}
use Rattle.std.specs.Prelude.{Result, Ok, Err}
use Rattle.workloads.proofs.Fitting.{head_fits_by}
use Rattle.workloads.proofs.generators.Generator.head.Goals as goal

pub returns-in-Ycsb-clause-fit : goal.returns-in-Ycsb-clause-fit
returns-in-Ycsb-clause-fit c = head_fits_by c.args.self.now c.head.result (rw c.in-Ycsb.is c.head.ensures.catalog) (rw c.in-Ycsb.is c.head.ensures.tables)

pub returns-in-Tpcc-clause-fit : goal.returns-in-Tpcc-clause-fit
returns-in-Tpcc-clause-fit c = head_fits_by c.args.self.now c.head-in-Tpcc.result (rw c.in-Tpcc.is c.head-in-Tpcc.ensures.catalog)
    (rw c.in-Tpcc.is c.head-in-Tpcc.ensures.tables)
