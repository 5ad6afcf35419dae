use Rattle.command_words.specs.Settings.{command_of}
use Rattle.command_words.proofs.ReadLemmas.{read_none, read_some}
use Rattle.command_words.proofs.readers.read_settings.Goals as goal

pub returns-in-Some : goal.returns-in-Some
returns-in-Some c = read_some command_of _ c.in-Some.found _ (rw c.in-Some.is at c.in_ok-found.ensures) c.command.ensures

pub returns-in-None : goal.returns-in-None
returns-in-None c = read_none command_of _ (rw c.in-None.is at c.in_ok-found.ensures)
