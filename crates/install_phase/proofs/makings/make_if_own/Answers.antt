use Rattle.std.proofs.Common.{rules, ◌≡◌, subst}
use Rattle.std.specs.Result.{OnOk}
use Rattle.tbl_rows.specs.Shards.{home}
use Rattle.install_phase.proofs.Installing.{own_made}
use Rattle.install_phase.proofs.makings.make_if_own.Goals as goal

pub returns : goal.returns
returns g c =
    let own : home c.args.due.now.write.now.0 ≡ c.args.shard.now.number = search rules in
    subst (λ piece. OnOk c.make.result (c.make.new.shard ≡ piece)) (own_made c.args.due.now.write.now c.args.shard.now own) c.make.ensures
