use Rattle.std.proofs.Common.{◌∙◌}
use Rattle.clap.specs.Words.{found_of}
use Rattle.clap.proofs.WalkLemmas.{first_value-rows}
use Rattle.command_words.proofs.TableLemmas.{text_is}
use Rattle.command_words.proofs.findings.text.Goals as goal

pub returns : goal.returns
returns c l is = c.get_str.ensures ∙ first_value-rows (found_of c.in_ok-inner.inner.now) c.args.name.now
    ∙ text_is c.args.name.now _ _ _ c.in_ok-inner.ensures.rows (is.1 c.args.name.now)
