use Rattle.image_text.proofs.FrontsRead.{first_written}
use Rattle.image_text.proofs.fronts.append_first.Goals as goal

pub returns-clause-pieces : goal.returns-clause-pieces
returns-clause-pieces c = first_written _ _ _ _ _ c.requires c.split_at.ensures.front c.split_at.ensures.back c.in_ok-append_piece.ensures
