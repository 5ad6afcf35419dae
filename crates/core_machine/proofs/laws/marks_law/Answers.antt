use Rattle.core_machine.proofs.Marked.{marks_law}
use Rattle.core_machine.proofs.laws.marks_law.Goals as goal

pub returns : goal.returns
returns g c R o anti is_done tree rule start list number keys sheet old tag marks words es =
    marks_law o anti is_done tree rule start list number keys sheet old tag marks words es
