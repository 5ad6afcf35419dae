use Rattle.dep_rules.proofs.Sheets.{sheet_decides}
use Rattle.dep_rules.proofs.laws.sheet_decides.Goals as goal

pub returns : goal.returns
returns g c R reads writes keys number sets sheet rule tid me = sheet_decides R reads writes keys number sets sheet rule tid me
