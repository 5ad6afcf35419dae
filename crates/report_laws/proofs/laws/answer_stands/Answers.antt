use Rattle.report_laws.proofs.OneAnswer as all
use Rattle.report_laws.proofs.laws.answer_stands.Goals as goal

pub returns : goal.returns
returns c plan state handed n few before behind = all.answer_within plan state handed n few before behind
