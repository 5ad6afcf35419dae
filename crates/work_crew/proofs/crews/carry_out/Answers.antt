use Rattle.std.proofs.Common.{rules}
use Rattle.work_crew.proofs.Draws.{all_done}
use Rattle.work_crew.proofs.crews.carry_out.Goals as goal

pub returns : goal.returns
returns g c = all_done (g.W.Work.count c.args.work.now) (g.W.Work.did c.args.work.now) _ _ _ _ c.in_ok-seat.ensures (search rules) c.close-draws.ensures
