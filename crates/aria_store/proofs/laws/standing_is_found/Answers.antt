use Rattle.aria_store.proofs.Founds.{found_now}
use Rattle.aria_store.proofs.laws.standing_is_found.Goals as goal

pub returns : goal.returns
returns c = found_now
