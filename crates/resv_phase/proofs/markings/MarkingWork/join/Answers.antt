use Rattle.resv_phase.proofs.Marked.{marked_both}
use Rattle.resv_phase.proofs.markings.MarkingWork.join.Goals as goal

pub returns : goal.returns
returns g c shares more places others mine theirs = marked_both _ _ _ _ _ shares more places others c.join.ensures mine theirs
