use Rattle.aria_base.specs.Schemas.{IsConsistent}
use Rattle.worked_batches.proofs.banks.tables.Given as goal

abbrev pub invariant-loop-account : goal.invariant-loop-account
invariant-loop-account g l = IsConsistent l.catalog.tables l.tables
