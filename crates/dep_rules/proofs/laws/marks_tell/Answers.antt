use Rattle.dep_rules.proofs.Marks.{marks_tell}
use Rattle.dep_rules.proofs.laws.marks_tell.Goals as goal

pub returns : goal.returns
returns c sheet tag words marks is are stand = marks_tell sheet tag words marks is are stand
