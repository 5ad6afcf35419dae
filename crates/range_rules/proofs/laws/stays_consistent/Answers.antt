use Rattle.range_rules.proofs.Printed.{stays_consistent}
use Rattle.range_rules.proofs.laws.stays_consistent.Goals as goal

pub returns : goal.returns
returns c schema tree act rule start list each before = stays_consistent tree act rule start list schema each before
