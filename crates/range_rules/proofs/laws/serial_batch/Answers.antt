use Rattle.range_rules.proofs.Printed.{is_serial}
use Rattle.range_rules.proofs.laws.serial_batch.Goals as goal

pub returns : goal.returns
returns c tree act rule start list number high rises = is_serial tree act rule start list number high rises
