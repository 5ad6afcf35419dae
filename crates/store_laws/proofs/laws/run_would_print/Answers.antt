use Rattle.store_laws.proofs.Replied.{would_print}
use Rattle.store_laws.proofs.laws.run_would_print.Goals as goal

pub returns : goal.returns
returns c = would_print
