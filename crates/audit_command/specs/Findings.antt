-- How the finding of an audit is printed, and with which status.
use Rattle.std.specs.Prelude.{ℕ, ℤ, List, ◌++◌, codes, decimal}
use Rattle.std.specs.Fmt.{signed_decimal}
use Rattle.tpcc_audit.specs.declared.findings.Audit.{Audit}
use Rattle.tpcc_audit.specs.declared.findings.Audit.TheVariants.{Holds, Fails}
use Rattle.script_course.specs.declared.statuses.TheConstants as status

-- the end of a line: the warehouse and the district
abbrev pub district_text : ℤ → ℤ → List ℕ
district_text w d = signed_decimal w ++ codes " " ++ signed_decimal d ++ codes "\n"

abbrev pub fails_text : ℕ → ℤ → ℤ → List ℕ
fails_text condition w d = codes "audit fails " ++ decimal condition ++ codes " " ++ district_text w d

-- a line that is a word, with the space behind it, and an amount
abbrev pub amount_text : List ℕ → ℤ → List ℕ
amount_text word amount = word ++ signed_decimal amount ++ codes "\n"

abbrev pub finding_text : Audit → List ℕ
finding_text Holds = codes "audit holds\n"
finding_text (Fails condition w d wanted found) =
    fails_text condition w d ++ amount_text (codes "wanted ") wanted ++ amount_text (codes "found ") found

abbrev pub status_of : Audit → ℕ
status_of Holds = status.DONE
status_of (Fails condition w d wanted found) = status.FAILS
