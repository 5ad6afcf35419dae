use Rattle.script_course.specs.declared.stops.Stop.TheVariants as stop
use Rattle.run_commands.proofs.Closed.{end_live, holds_base, holds_live, keeps_base, laid_base, left_base}
use Rattle.run_commands.proofs.Closing.{refused_as}
use Rattle.run_commands.proofs.ends.drained.Goals as goal

pub returns-in-Ok-clause-keeps : goal.returns-in-Ok-clause-keeps
returns-in-Ok-clause-keeps g c = λ first saved d end h.
    let head = c.args.head.now in
    let live = c.in-Runs.live in
    let old = g.D.Disk.history c.args.disk.now in
    keeps_base head c.args.base c.args.each live c.in-Runs.is c.requires.named c.requires.listed d old (g.D.Disk.history c.drain.new.disk)
    (g.K.Sink.given c.args.out.now) (g.K.Sink.given c.drain.new.out)
    (c.drain.ensures.keeps first saved d (end_live head c.args.base c.args.each live c.in-Runs.is c.requires.named c.requires.listed c.args.line d end)
    (holds_live head c.args.base c.args.each live c.in-Runs.is c.requires.named c.requires.listed first saved old h))

pub returns-in-Err-clause-keeps : goal.returns-in-Err-clause-keeps
returns-in-Err-clause-keeps g c = λ first saved d end h.
    let head = c.args.head.now in
    let live = c.in-Runs.live in
    let old = g.D.Disk.history c.args.disk.now in
    keeps_base head c.args.base c.args.each live c.in-Runs.is c.requires.named c.requires.listed d old (g.D.Disk.history c.drain.new.disk)
    (g.K.Sink.given c.args.out.now) (g.K.Sink.given c.drain.new.out)
    (c.drain.ensures.keeps first saved d (end_live head c.args.base c.args.each live c.in-Runs.is c.requires.named c.requires.listed c.args.line d end)
    (holds_live head c.args.base c.args.each live c.in-Runs.is c.requires.named c.requires.listed first saved old h))

pub returns-in-Ok-clause-holds : goal.returns-in-Ok-clause-holds
returns-in-Ok-clause-holds g c = λ first saved d end h.
    let head = c.args.head.now in
    let live = c.in-Runs.live in
    holds_base head c.args.base c.args.each live c.in-Runs.is c.requires.named c.requires.listed first saved d c.in-Ok.live (g.D.Disk.history c.drain.new.disk)
    c.in-Ok.ensures.like
    (c.in-Ok.ensures.holds first saved d (end_live head c.args.base c.args.each live c.in-Runs.is c.requires.named c.requires.listed c.args.line d end)
    (holds_live head c.args.base c.args.each live c.in-Runs.is c.requires.named c.requires.listed first saved (g.D.Disk.history c.args.disk.now) h))

pub returns-in-Err-clause-refused : goal.returns-in-Err-clause-refused
returns-in-Err-clause-refused g c = λ first saved d end h e.
    let head = c.args.head.now in
    let live = c.in-Runs.live in
    laid_base head c.args.base c.args.each live c.in-Runs.is c.requires.named c.requires.listed first saved d (g.D.Disk.history c.drain.new.disk)
    (c.in-Err.ensures.refused first saved d (end_live head c.args.base c.args.each live c.in-Runs.is c.requires.named c.requires.listed c.args.line d end)
    (holds_live head c.args.base c.args.each live c.in-Runs.is c.requires.named c.requires.listed first saved (g.D.Disk.history c.args.disk.now) h)
    (refused_as c.in-Err.stop stop.Refused e))

pub returns-in-Ok-clause-left : goal.returns-in-Ok-clause-left
returns-in-Ok-clause-left g c = λ first saved d end h.
    let head = c.args.head.now in
    let live = c.in-Runs.live in
    let old = g.D.Disk.history c.args.disk.now in
    left_base head c.args.base c.args.each live c.in-Runs.is c.requires.named c.requires.listed saved d old (g.D.Disk.history c.drain.new.disk)
    (c.drain.ensures.left first saved d (end_live head c.args.base c.args.each live c.in-Runs.is c.requires.named c.requires.listed c.args.line d end)
    (holds_live head c.args.base c.args.each live c.in-Runs.is c.requires.named c.requires.listed first saved old h))

pub returns-in-Err-clause-left : goal.returns-in-Err-clause-left
returns-in-Err-clause-left g c = λ first saved d end h.
    let head = c.args.head.now in
    let live = c.in-Runs.live in
    let old = g.D.Disk.history c.args.disk.now in
    left_base head c.args.base c.args.each live c.in-Runs.is c.requires.named c.requires.listed saved d old (g.D.Disk.history c.drain.new.disk)
    (c.drain.ensures.left first saved d (end_live head c.args.base c.args.each live c.in-Runs.is c.requires.named c.requires.listed c.args.line d end)
    (holds_live head c.args.base c.args.each live c.in-Runs.is c.requires.named c.requires.listed first saved old h))
