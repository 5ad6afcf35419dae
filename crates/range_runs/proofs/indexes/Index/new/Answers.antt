use Rattle.range_runs.proofs.Following.{no_keys}
use Rattle.range_runs.proofs.indexes.Index.new.Goals as goal

pub invariant_of-result : goal.invariant_of-result
invariant_of-result c = no_keys c.new.result.entries c.new.ensures.empty
