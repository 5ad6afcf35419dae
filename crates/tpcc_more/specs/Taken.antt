-- What becomes of tables that are to be taken: a mix where they are sound, else their first failure.
use Rattle.aria_base.specs.Orders.{Database}
use Rattle.tpcc_routines.specs.declared.findings.Soundness.{Soundness}
use Rattle.tpcc_routines.specs.declared.findings.Soundness.TheVariants as found
use Rattle.tpcc_more.specs.declared.taken.Taken.{Taken}
use Rattle.tpcc_more.specs.declared.taken.Taken.TheVariants.{Ready, Fails}
use Rattle.tpcc_more.specs.Mixes.{begun}

abbrev pub taken_as : Soundness → Database → Taken
taken_as found.Sound rows = Ready (begun rows)
taken_as (found.Fails condition w d) rows = Fails condition w d
