use Rattle.aria_base.proofs.Fitting.{none_fit}
use Rattle.example_ledger.proofs.create.Goals as goal

pub create-requires-clause-rows : goal.create-requires-clause-rows
create-requires-clause-rows g c = none_fit c.in_ok-read_catalog.field-0.tables c.in_ok-new.field-0 c.in_ok-new.ensures
