use Rattle.script_rows.proofs.Refused.{line_serves, memory_serves}
use Rattle.script_rows.proofs.refusals.refuse_line.Goals as goal

pub returns-in-Memory-clause-serves : goal.returns-in-Memory-clause-serves
returns-in-Memory-clause-serves g c course moves = memory_serves course (g.K.Sink.given c.args.out.now)

pub returns-in-Line-clause-serves : goal.returns-in-Line-clause-serves
returns-in-Line-clause-serves g c course moves =
    line_serves course c.args.refused c.in-Line.refusal (g.K.Sink.given c.args.out.now) (g.K.Sink.given c.refuse.new.out) c.refuse.result c.in-Line.is moves
    c.refuse.ensures.serves
