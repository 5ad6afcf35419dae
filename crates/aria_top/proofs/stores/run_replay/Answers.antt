use Rattle.store_commands.specs.Replays.{out_of}
use Rattle.aria_top.proofs.Stopped.{disk_fault, one_answered, one_front, others_logged, own_stored, unread, write_fault}
use Rattle.aria_top.proofs.stores.run_replay.Goals as goal

pub returns-clause-answered : goal.returns-clause-answered
returns-clause-answered g c images found reads reopens is_answered =
    one_answered (out_of c.args.settings.now images found) (g.K.Sink.given c.args.out.now) (g.K.Sink.given c.replay.new.out) c.replay.result
    c.final_status.result c.final_status.ensures (c.replay.ensures.output images found reads reopens) is_answered

pub returns-clause-front : goal.returns-clause-front
returns-clause-front g c images found reads reopens =
    one_front (out_of c.args.settings.now images found) (g.K.Sink.given c.args.out.now) (g.K.Sink.given c.replay.new.out) c.replay.result
    (c.replay.ensures.output images found reads reopens)

pub returns-clause-others : goal.returns-clause-others
returns-clause-others g c =
    others_logged c.replay.result c.final_status.result c.final_status.ensures c.replay.ensures.status c.replay.ensures.refused c.replay.ensures.read

pub returns-clause-write : goal.returns-clause-write
returns-clause-write g c =
    write_fault _ _ _ c.replay.result c.final_status.result c.final_status.ensures (own_stored c.replay.result c.replay.ensures.status)
    (unread _ _ c.replay.result c.replay.ensures.cause)

pub returns-clause-device : goal.returns-clause-device
returns-clause-device g c =
    disk_fault _ _ _ c.replay.result c.final_status.result c.final_status.ensures (own_stored c.replay.result c.replay.ensures.status)
    (unread _ _ c.replay.result c.replay.ensures.cause)
