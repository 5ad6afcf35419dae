use Rattle.tpcc_routines.proofs.Fitting.{more-suits}
use Rattle.tpcc_routines.proofs.laws.more_suits.Goals as goal

pub returns : goal.returns
returns c = more-suits
