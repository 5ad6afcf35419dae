use Rattle.std.proofs.Common.{rules}
use Rattle.command_words.proofs.TableLemmas.{sub_more, sub_all}
use Rattle.command_words.proofs.shapes.command.Goals as goal

pub loop-row-preserved : goal.loop-row-preserved
loop-row-preserved c =
    sub_more _ _ _ _ _ _ _ (c.in_ok-command.ensures.shape c.in_ok-subcommand.ensures.local) c.loop-row.invariant c.in_ok-subcommand.ensures.shape (search rules)

pub returns-clause-app : goal.returns-clause-app
returns-clause-app c = sub_all _ _ _ c.loop-row.row-index (search rules) (search rules) c.loop-row.invariant
