use Rattle.checkpoint.proofs.Showing.{laid_shows}
use Rattle.checkpoint.proofs.laws.shows_what_is_laid.Goals as goal

pub returns : goal.returns
returns c = laid_shows
