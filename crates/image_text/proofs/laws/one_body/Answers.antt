use Rattle.image_text.proofs.BodiesRead.{one_body}
use Rattle.image_text.proofs.laws.one_body.Goals as goal

pub returns : goal.returns
returns c bytes v w h k = one_body bytes v w h k
