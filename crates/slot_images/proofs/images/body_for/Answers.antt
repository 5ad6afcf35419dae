use Rattle.slot_images.proofs.Carried.{body_stands}
use Rattle.slot_images.proofs.images.body_for.Goals as goal

pub returns-clause-body : goal.returns-clause-body
returns-clause-body c = body_stands c.body_of.result (λ body. body.items) (c.args.catalog.now, c.args.tables.now, c.args.held.now) c.body_of.ensures.again
