-- What holds of every database that order entry begins with.
use Rattle.std.specs.Prelude.{◌≡◌}
use Rattle.std.specs.FinMap as fin
use Rattle.aria_base.specs.Draws.{standing}
use Rattle.tpcc_load.specs.declared.settings.Tpcc.{Tpcc}
use Rattle.tpcc_load.specs.Rows.{laid}
use Rattle.tpcc_load.specs.Heads.{IsWithin, head}
use Rattle.tpcc_audit.specs.declared.findings.Audit.TheVariants.{Holds}
use Rattle.tpcc_audit.specs.Conditions.{audited}

-- the audit holds, as `tpcc_load::head` gives the rows
pub record HeadsHold : Type 0 where
  pub each : (s : Tpcc) → IsWithin s → audited (laid fin.empty (head s (standing s.number 1 0)).0) ≡ Holds
