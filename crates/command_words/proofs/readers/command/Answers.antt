use Rattle.std.proofs.Common.{◌∙◌, ap}
use Rattle.command_words.specs.Settings.{settings_named}
use Rattle.command_words.proofs.ReadLemmas.{name_is}
use Rattle.command_words.proofs.readers.command.Goals as goal

pub returns : goal.returns
returns c l is = c.settings.ensures l is ∙ ap (λ n. settings_named n l) (name_is c.args.found.now l _ is c.in_ok-name.ensures.name)
