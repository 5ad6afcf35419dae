use Rattle.std.proofs.Common.{◌≡◌, ap, subst, ◌∙◌, map}
use Rattle.std.specs.Result.{IfOk}
use Rattle.install_phase.specs.Dues.{shown}
use Rattle.install_phase.specs.Installs.{written}
use Rattle.install_phase.specs.Writes.{at_shards, finished}
use Rattle.install_phase.proofs.Installing.{own_enough}
use Rattle.install_phase.proofs.makings.MakingShardWork.run.Goals as goal

pub returns : goal.returns
returns g c =
    let writes = written 1 c.args.self.now.list.now c.args.self.now.verdicts.now in
    let shards = c.args.shards.items in
    let lent = ap shown c.deref-2.ensures.value ∙ c.in_ok-dues.ensures ∙ ap (λ pieces. at_shards pieces writes) c.deref.ensures.value in
    subst (λ after. IfOk c.make_all.result (λ made. made.items ≡ after))
    (ap (λ dues. map (finished dues) shards) lent ∙ own_enough shards writes) c.make_all.ensures
