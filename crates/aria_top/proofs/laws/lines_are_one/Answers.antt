use Rattle.aria_top.proofs.Alike as law
use Rattle.aria_top.proofs.laws.lines_are_one.Goals as goal

pub returns : goal.returns
returns c = law.lines_are_one
