use Rattle.std.proofs.Common.{inl, refl}
use Rattle.store_commands.specs.Drafts.{told_of}
use Rattle.store_commands.specs.Inits.{out_of}
use Rattle.aria_top.specs.Disks.{is_taken}
use Rattle.aria_top.proofs.OnStores.{init_completes, init_stored, init_told, init_unmade, unlooked, unmade}
use Rattle.aria_top.proofs.Stopped.{answered, disk_fault, ended_stored, front, others_stored, own_as, own_stored, read_fault, write_fault}
use Rattle.aria_top.proofs.stores.run_init.Goals as goal

pub returns-clause-answered : goal.returns-clause-answered
returns-clause-answered g c images reads is_answered =
    answered told_of (out_of c.args.settings.now (is_taken images)) (g.S.Source.left c.args.input.now) (g.S.Source.left c.init.new.input)
    (g.K.Sink.given c.args.out.now) (g.K.Sink.given c.init.new.out) c.init.result c.final_status.result c.final_status.ensures
    (init_completes (g.D.Disk.history c.args.disk.now) images reads c.args.settings.now (g.D.Disk.history c.init.new.disk) (g.S.Source.left c.args.input.now)
    (g.S.Source.left c.init.new.input) (g.K.Sink.given c.args.out.now) (g.K.Sink.given c.init.new.out) c.init.result c.init.ensures.inits) is_answered

pub returns-clause-front : goal.returns-clause-front
returns-clause-front g c images reads =
    front told_of (out_of c.args.settings.now (is_taken images)) (g.S.Source.left c.args.input.now) (g.S.Source.left c.init.new.input)
    (g.K.Sink.given c.args.out.now) (g.K.Sink.given c.init.new.out) c.init.result
    (init_completes (g.D.Disk.history c.args.disk.now) images reads c.args.settings.now (g.D.Disk.history c.init.new.disk) (g.S.Source.left c.args.input.now)
    (g.S.Source.left c.init.new.input) (g.K.Sink.given c.args.out.now) (g.K.Sink.given c.init.new.out) c.init.result c.init.ensures.inits)

pub returns-clause-others : goal.returns-clause-others
returns-clause-others g c = others_stored c.init.result c.final_status.result c.final_status.ensures c.init.ensures.status

pub returns-clause-read : goal.returns-clause-read
returns-clause-read g c =
    read_fault _ _ _ c.init.result c.final_status.result c.final_status.ensures (own_stored c.init.result c.init.ensures.status) c.init.ensures.cause

pub returns-clause-write : goal.returns-clause-write
returns-clause-write g c =
    write_fault _ _ _ c.init.result c.final_status.result c.final_status.ensures (own_stored c.init.result c.init.ensures.status) c.init.ensures.cause

pub returns-clause-device : goal.returns-clause-device
returns-clause-device g c =
    disk_fault _ _ _ c.init.result c.final_status.result c.final_status.ensures (own_stored c.init.result c.init.ensures.status) c.init.ensures.cause

pub returns-clause-end : goal.returns-clause-end
returns-clause-end g c which = ended_stored _ c.init.result c.final_status.result c.final_status.ensures c.init.ensures.end which

pub returns-clause-unlooked : goal.returns-clause-unlooked
returns-clause-unlooked g c early =
    unlooked g.D.Disk.history c.args.disk.now c.init.new.disk c.init.result c.final_status.result c.final_status.ensures c.init.ensures.status
    c.init.ensures.leaves early

pub returns-clause-told : goal.returns-clause-told
returns-clause-told g c failed =
    init_told c.init.ensures.inits c.final_status.result c.final_status.ensures c.init.ensures.status failed

pub returns-clause-leaves : goal.returns-clause-leaves
returns-clause-leaves g c images reads = record {
  refused = λ which. unmade g.D.Disk.history c.args.disk.now c.init.new.disk c.init.result c.final_status.result c.final_status.ensures c.init.ensures.status
      c.init.ensures.leaves which;
  unmade = init_unmade (g.D.Disk.history c.args.disk.now) images reads c.args.settings.now (g.D.Disk.history c.init.new.disk)
      (g.S.Source.left c.args.input.now) (g.S.Source.left c.init.new.input)
      (g.K.Sink.given c.args.out.now) (g.K.Sink.given c.init.new.out) c.init.result c.init.ensures.inits;
  stored = init_stored (g.D.Disk.history c.args.disk.now) images reads c.args.settings.now (g.D.Disk.history c.init.new.disk)
      (g.S.Source.left c.args.input.now) (g.S.Source.left c.init.new.input)
      (g.K.Sink.given c.args.out.now) (g.K.Sink.given c.init.new.out) c.init.result c.init.ensures.inits;
  made = λ done. c.init.ensures.made (own_as 0 c.init.result c.final_status.result (inl refl) c.final_status.ensures done);
}
