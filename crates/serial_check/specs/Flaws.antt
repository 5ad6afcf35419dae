-- What is found of a report that has a flaw.
use Rattle.serial_check.specs.declared.findings.Finding.{Finding}
use Rattle.serial_check.specs.declared.findings.Finding.TheVariants as finding
use Rattle.serial_check.specs.declared.findings.Flaw.{Flaw}
use Rattle.serial_check.specs.declared.findings.Flaw.TheVariants as flaw

abbrev pub found_of : Flaw → Finding
found_of (flaw.Fails line wanted found) = finding.Fails line wanted found
found_of (flaw.Crowded number) = finding.Crowded number
