use Rattle.std.proofs.Common.{inl, inr, refl}
use Rattle.store_openings.specs.Openings.{opened}
use Rattle.aria_top.proofs.OnStores.{has_ended, over_answered, over_front, over_told}
use Rattle.aria_top.proofs.Stopped.{disk_fault, others_stored, own_as, own_stored, read_fault, write_fault}
use Rattle.aria_top.proofs.stores.run_batches.Goals as goal

pub returns-clause-answered : goal.returns-clause-answered
returns-clause-answered g c images found reads reopens is_answered =
    over_answered c.args.settings.now (g.S.Source.left c.args.input.now) (g.S.Source.left c.run.new.input) (g.K.Sink.given c.args.out.now)
    (g.K.Sink.given c.run.new.out) c.run.result (opened images found) c.final_status.result c.final_status.ensures
    (c.run.ensures.completes images found reads reopens) is_answered

pub returns-clause-front : goal.returns-clause-front
returns-clause-front g c images found reads reopens =
    over_front c.args.settings.now (g.S.Source.left c.args.input.now) (g.S.Source.left c.run.new.input) (g.K.Sink.given c.args.out.now)
    (g.K.Sink.given c.run.new.out) c.run.result (opened images found) (c.run.ensures.completes images found reads reopens)

pub returns-clause-others : goal.returns-clause-others
returns-clause-others g c = others_stored c.run.result c.final_status.result c.final_status.ensures c.run.ensures.status

pub returns-clause-read : goal.returns-clause-read
returns-clause-read g c =
    read_fault _ _ _ c.run.result c.final_status.result c.final_status.ensures (own_stored c.run.result c.run.ensures.status) c.run.ensures.cause

pub returns-clause-write : goal.returns-clause-write
returns-clause-write g c =
    write_fault _ _ _ c.run.result c.final_status.result c.final_status.ensures (own_stored c.run.result c.run.ensures.status) c.run.ensures.cause

pub returns-clause-device : goal.returns-clause-device
returns-clause-device g c =
    disk_fault _ _ _ c.run.result c.final_status.result c.final_status.ensures (own_stored c.run.result c.run.ensures.status) c.run.ensures.cause

pub returns-clause-end : goal.returns-clause-end
returns-clause-end g c done = c.run.ensures.end (own_as 0 c.run.result c.final_status.result (inl refl) c.final_status.ensures done)

pub returns-clause-unread : goal.returns-clause-unread
returns-clause-unread g c refused = c.run.ensures.unread (own_as 6 c.run.result c.final_status.result (inr refl) c.final_status.ensures refused)

pub returns-clause-told : goal.returns-clause-told
returns-clause-told g c images found reads reopens failed =
    over_told c.args.settings.now (g.S.Source.left c.args.input.now) (g.S.Source.left c.run.new.input) (g.K.Sink.given c.args.out.now)
    (g.K.Sink.given c.run.new.out) c.run.result (opened images found) c.final_status.result c.final_status.ensures c.run.ensures.status
    (c.run.ensures.completes images found reads reopens) failed

pub returns-clause-leaves : goal.returns-clause-leaves
returns-clause-leaves g c images found reads reopens = record {
  leaves = c.run.ensures.leaves images found reads reopens;
  stands = c.run.ensures.stands images found reads reopens;
  holds = λ ended. c.run.ensures.holds images found reads reopens
      (has_ended c.run.result c.final_status.result c.final_status.ensures c.run.ensures.status ended);
}
