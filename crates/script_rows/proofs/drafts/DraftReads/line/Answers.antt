use Rattle.script_rows.specs.Drafts.{on_line}
use Rattle.script_rows.proofs.drafts.DraftReads.line.Goals as goal

pub returns-in-Err-clause-serves : goal.returns-in-Err-clause-serves
returns-in-Err-clause-serves g c = c.refuse_line.ensures.serves (on_line c.args.self c.args.line.now) c.in-Err.ensures.moves
