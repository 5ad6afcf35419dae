use Rattle.std.proofs.Common.{refl}
use Rattle.run_commands.specs.declared.works.Work.{Work}
use Rattle.run_commands.proofs.Deeds.{put_stands}
use Rattle.run_commands.proofs.works.Work.put.Goals as goal

pub invariant_of-result : goal.invariant_of-result
invariant_of-result c =
    let next : Work = record { calls = c.args.self.calls; base = c.in_ok-put.field-0; replicas = c.args.self.replicas; each = c.args.self.each } in
    put_stands c.args.place c.args.self next c.args.key c.args.row c.requires refl c.in_ok-put.ensures refl refl
