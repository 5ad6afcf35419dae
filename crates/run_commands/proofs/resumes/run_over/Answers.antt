use Rattle.run_commands.specs.Resumes.{over}
use Rattle.run_commands.proofs.Resumed.{completes_at, completes_cut_at, completes_memory, keeps_at, keeps_cut_at, keeps_memory, laid_at, left_at, left_over_none, open_over, script_told}
use Rattle.run_commands.proofs.resumes.run_over.Goals as goal

pub run_text-requires-clause-open : goal.run_text-requires-clause-open
run_text-requires-clause-open g c κs within =
    open_over (g.D.Disk.history c.args.disk.now) c.args.live c.in-Ok-tell_batches.script
    (script_told c.args.live c.in-Ok.script c.in-Ok-tell_batches.script (g.K.Sink.given c.args.out.now)
    (g.K.Sink.given c.tell_batches.new.out) c.in-Ok.ensures.doing c.in-Ok.ensures.store c.in-Ok.ensures.checkpoint
    c.in-Ok-tell_batches.ensures.serves) c.requires.logging

pub returns-in_default-clause-completes : goal.returns-in_default-clause-completes
returns-in_default-clause-completes g c =
    completes_memory c.args.settings.now.drain (over c.args.live) (g.S.Source.left c.args.input.now) (g.S.Source.left c.args.input.now)
    (g.K.Sink.given c.args.out.now)

pub returns-in_default-clause-keeps : goal.returns-in_default-clause-keeps
returns-in_default-clause-keeps g c first saved holds =
    keeps_memory c.args.settings.now.drain first saved c.args.live (g.D.Disk.history c.args.disk.now) (g.K.Sink.given c.args.out.now) holds
    (g.S.Source.left c.args.input.now)

pub returns-in-Ok-tell_batches-clause-completes : goal.returns-in-Ok-tell_batches-clause-completes
returns-in-Ok-tell_batches-clause-completes g c =
    completes_at c.args.settings.now.drain c.args.live c.in-Ok.script c.in-Ok-tell_batches.script (g.S.Source.left c.args.input.now)
    (g.S.Source.left c.run_text.new.input) (g.K.Sink.given c.args.out.now)
    (g.K.Sink.given c.tell_batches.new.out) (g.K.Sink.given c.run_text.new.out) c.run_text.result c.in-Ok.ensures.doing c.in-Ok.ensures.store
    c.in-Ok.ensures.checkpoint c.in-Ok-tell_batches.ensures.serves c.run_text.ensures.completes

pub returns-in-Ok-tell_batches-clause-keeps : goal.returns-in-Ok-tell_batches-clause-keeps
returns-in-Ok-tell_batches-clause-keeps g c first saved holds =
    keeps_at c.args.settings.now.drain first saved c.args.live (g.D.Disk.history c.args.disk.now) (g.K.Sink.given c.args.out.now)
    (g.K.Sink.given c.tell_batches.new.out) holds c.in-Ok.script c.in-Ok-tell_batches.script
    (g.S.Source.left c.args.input.now) (g.D.Disk.history c.run_text.new.disk) (g.K.Sink.given c.run_text.new.out) c.in-Ok.ensures.doing c.in-Ok.ensures.store
    c.in-Ok.ensures.checkpoint c.in-Ok-tell_batches.ensures.serves
    (λ h. c.run_text.ensures.keeps first saved h)

pub returns-in-Ok-tell_batches-clause-laid : goal.returns-in-Ok-tell_batches-clause-laid
returns-in-Ok-tell_batches-clause-laid g c first saved holds ended =
    laid_at c.args.settings.now.drain first saved c.args.live (g.D.Disk.history c.args.disk.now) (g.K.Sink.given c.args.out.now)
    (g.K.Sink.given c.tell_batches.new.out) holds c.in-Ok.script c.in-Ok-tell_batches.script
    (g.S.Source.left c.args.input.now) (g.D.Disk.history c.run_text.new.disk) c.in-Ok.ensures.doing c.in-Ok.ensures.store c.in-Ok.ensures.checkpoint
    c.in-Ok-tell_batches.ensures.serves
    (λ h. c.run_text.ensures.laid first saved h ended)

pub returns-in-Err-clause-completes : goal.returns-in-Err-clause-completes
returns-in-Err-clause-completes g c =
    completes_cut_at c.args.settings.now.drain c.args.live c.in-Ok.script (g.S.Source.left c.args.input.now) (g.S.Source.left c.args.input.now)
    (g.K.Sink.given c.args.out.now) (g.K.Sink.given c.tell_batches.new.out)
    c.in-Err.stop c.in-Ok.ensures.doing c.in-Ok.ensures.store c.in-Ok.ensures.checkpoint c.in-Err.ensures.serves

pub returns-in-Err-clause-keeps : goal.returns-in-Err-clause-keeps
returns-in-Err-clause-keeps g c first saved holds =
    keeps_cut_at c.args.settings.now.drain first saved c.args.live (g.D.Disk.history c.args.disk.now) (g.K.Sink.given c.args.out.now)
    (g.K.Sink.given c.tell_batches.new.out) holds c.in-Ok.script (g.S.Source.left c.args.input.now)
    c.in-Err.stop c.in-Ok.ensures.doing c.in-Ok.ensures.store c.in-Ok.ensures.checkpoint c.in-Err.ensures.serves

pub returns-in_default-clause-left : goal.returns-in_default-clause-left
returns-in_default-clause-left g c first saved holds =
    left_over_none c.args.settings.now.drain first saved c.args.live (g.D.Disk.history c.args.disk.now) (g.K.Sink.given c.args.out.now)
    (g.K.Sink.given c.args.out.now) holds (g.S.Source.left c.args.input.now)

pub returns-in-Ok-tell_batches-clause-left : goal.returns-in-Ok-tell_batches-clause-left
returns-in-Ok-tell_batches-clause-left g c first saved holds =
    left_at c.args.settings.now.drain first saved c.args.live (g.D.Disk.history c.args.disk.now) (g.K.Sink.given c.args.out.now)
    (g.K.Sink.given c.tell_batches.new.out) holds c.in-Ok.script c.in-Ok-tell_batches.script
    (g.S.Source.left c.args.input.now) (g.D.Disk.history c.run_text.new.disk) c.in-Ok.ensures.doing c.in-Ok.ensures.store c.in-Ok.ensures.checkpoint
    c.in-Ok-tell_batches.ensures.serves
    (λ h. c.run_text.ensures.left first saved h)

pub returns-in-Err-clause-left : goal.returns-in-Err-clause-left
returns-in-Err-clause-left g c first saved holds =
    left_over_none c.args.settings.now.drain first saved c.args.live (g.D.Disk.history c.args.disk.now) (g.K.Sink.given c.args.out.now)
    (g.K.Sink.given c.tell_batches.new.out) holds (g.S.Source.left c.args.input.now)
