use Rattle.std.proofs.Common.{arith}
use Rattle.resv_phase.proofs.Marked.{marked_after}
use Rattle.resv_phase.proofs.markings.MarkingWork.run.Goals as goal

pub overflow_add-place : goal.overflow_add-place
overflow_add-place g c = let few = c.args.self.now.few in let lt = c.requires.place in omega arith

pub returns : goal.returns
returns g c shares places has = marked_after _ _ _ _ c.args.place shares places c.mark_all.ensures c.requires.place has
