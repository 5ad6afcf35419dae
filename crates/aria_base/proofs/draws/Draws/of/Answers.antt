use Rattle.aria_base.proofs.Words.{standing_first}
use Rattle.aria_base.proofs.draws.Draws.of.Goals as goal

pub returns : goal.returns
returns c = rw (c.new.ensures, c.from.ensures) (standing_first c.args.number c.args.stream)
