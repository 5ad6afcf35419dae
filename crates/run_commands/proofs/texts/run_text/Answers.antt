use Rattle.aria_base.specs.Faults.{Rose}
use Rattle.script_course.proofs.Ends.{completes_cut, completes_on}
use Rattle.script_course.specs.Courses.{told, told_whole}
use Rattle.run_commands.specs.Onces.{on_end, on_line}
use Rattle.run_commands.specs.Outs.{no_line}
use Rattle.run_commands.proofs.Causes.{reads_since}
use Rattle.run_commands.proofs.Whole.{cut_refused, keeps_on_cut, keeps_on_end, laid_on_cut, laid_on_end, left_on_cut, left_on_end}
use Rattle.run_commands.proofs.texts.run_text.Goals as goal

pub returns-in-Ok-clause-completes : goal.returns-in-Ok-clause-completes
returns-in-Ok-clause-completes g c =
    let d = c.args.start.doing in
    completes_on (on_end c.args.drains) (told on_line no_line d) (told_whole on_line no_line d) (g.S.Source.left c.args.input.now)
    (g.S.Source.left c.read_script.new.input) (g.K.Sink.given c.args.out.now)
    (g.K.Sink.given c.read_script.new.out) (g.K.Sink.given c.end_of.new.out) c.in-Ok.last.doing c.end_of.result c.in-Ok.ensures.comes c.end_of.ensures.read
    c.end_of.ensures.finishes

pub returns-in-Err-clause-completes : goal.returns-in-Err-clause-completes
returns-in-Err-clause-completes g c =
    let d = c.args.start.doing in
    completes_cut (on_end c.args.drains) (told on_line no_line d) (told_whole on_line no_line d) (g.S.Source.left c.args.input.now)
    (g.S.Source.left c.read_script.new.input) (g.K.Sink.given c.args.out.now)
    (g.K.Sink.given c.read_script.new.out) c.in-Err.stop c.in-Err.ensures.comes

pub returns-in-Ok-clause-keeps : goal.returns-in-Ok-clause-keeps
returns-in-Ok-clause-keeps g c first saved holds =
    keeps_on_end c.args.drains first saved c.args.start (g.D.Disk.history c.args.disk.now) (g.D.Disk.history c.read_script.new.disk)
    (g.K.Sink.given c.args.out.now)
    (g.K.Sink.given c.read_script.new.out)
    (g.S.Source.left c.args.input.now) c.in-Ok.last (g.D.Disk.history c.end_of.new.disk) (g.K.Sink.given c.end_of.new.out) c.in-Ok.ensures.comes.0
    (c.in-Ok.ensures.keeps first saved holds)
    (λ here h. c.end_of.ensures.keeps first here h)

pub returns-in-Err-clause-keeps : goal.returns-in-Err-clause-keeps
returns-in-Err-clause-keeps g c first saved holds =
    keeps_on_cut c.args.drains first saved c.args.start (g.D.Disk.history c.args.disk.now) (g.D.Disk.history c.read_script.new.disk)
    (g.K.Sink.given c.args.out.now)
    (g.K.Sink.given c.read_script.new.out)
    (g.S.Source.left c.args.input.now) c.in-Err.stop (c.in-Err.ensures.keeps first saved holds)

pub returns-in-Ok-clause-laid : goal.returns-in-Ok-clause-laid
returns-in-Ok-clause-laid g c first saved holds ended =
    laid_on_end c.args.drains first saved c.args.start (g.D.Disk.history c.args.disk.now) (g.D.Disk.history c.read_script.new.disk)
    (g.K.Sink.given c.args.out.now)
    (g.K.Sink.given c.read_script.new.out)
    (g.S.Source.left c.args.input.now) c.in-Ok.last (g.D.Disk.history c.end_of.new.disk) (g.K.Sink.given c.end_of.new.out) c.in-Ok.ensures.comes.0
    (c.in-Ok.ensures.keeps first saved holds)
    (λ here h. c.end_of.ensures.laid first here h ended)

pub returns-in-Err-clause-laid : goal.returns-in-Err-clause-laid
returns-in-Err-clause-laid g c first saved holds ended =
    laid_on_cut c.args.drains first saved c.args.start (g.D.Disk.history c.args.disk.now) (g.D.Disk.history c.read_script.new.disk)
    (g.K.Sink.given c.args.out.now)
    (g.K.Sink.given c.read_script.new.out)
    (g.S.Source.left c.args.input.now) c.in-Err.stop (cut_refused c.in-Err.stop ended) c.in-Err.ensures.comes.0 (c.in-Err.ensures.keeps first saved holds)

pub returns-in-Ok-clause-cause : goal.returns-in-Ok-clause-cause
returns-in-Ok-clause-cause g c =
    let start = g.D.Disk.history c.args.disk.now in
    let mid = g.D.Disk.history c.read_script.new.disk in
    let new = g.D.Disk.history c.end_of.new.disk in
    reads_since c.args.start.store c.in-Ok.last.store c.in-Ok.ensures.store (g.K.Sink.faults c.args.out.now) (g.K.Sink.faults c.read_script.new.out)
    (g.K.Sink.faults c.end_of.new.out) c.in-Ok.ensures.sink
    start.faults mid.faults new.faults c.in-Ok.ensures.disk (Rose (g.S.Source.faults c.args.input.now) (g.S.Source.faults c.read_script.new.input))
    c.end_of.result c.end_of.ensures.cause

pub returns-in-Ok-clause-left : goal.returns-in-Ok-clause-left
returns-in-Ok-clause-left g c first saved holds =
    left_on_end c.args.drains first saved c.args.start (g.D.Disk.history c.args.disk.now) (g.D.Disk.history c.read_script.new.disk)
    (g.K.Sink.given c.args.out.now) (g.K.Sink.given c.read_script.new.out)
    (g.S.Source.left c.args.input.now) c.in-Ok.last (g.D.Disk.history c.end_of.new.disk) (g.K.Sink.given c.end_of.new.out) c.in-Ok.ensures.comes.0
    (c.in-Ok.ensures.keeps first saved holds)
    (λ here h. c.end_of.ensures.left first here h)

pub returns-in-Err-clause-left : goal.returns-in-Err-clause-left
returns-in-Err-clause-left g c first saved holds =
    left_on_cut c.args.drains first saved c.args.start (g.D.Disk.history c.args.disk.now) (g.D.Disk.history c.read_script.new.disk)
    (g.K.Sink.given c.args.out.now) (g.K.Sink.given c.read_script.new.out)
    (g.S.Source.left c.args.input.now) c.in-Err.stop (c.in-Err.ensures.keeps first saved holds)
