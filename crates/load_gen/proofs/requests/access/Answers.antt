use Rattle.std.proofs.Common.{rules, ◌≡◌, pos, [], ◌∷◌, ap, ◌∙◌}
use Rattle.load_gen.specs.Ycsb.{op_of}
use Rattle.load_gen.proofs.Drawing.{access_is}
use Rattle.load_gen.proofs.requests.access.Goals as goal

pub returns-clause-access : goal.returns-clause-access
returns-clause-access c =
    let pair : c.from_slice.result ≡ pos c.place-key.result ∷ pos (op_of c.args.settings.now c.random-share.result) ∷ [] = search rules in
    pair ∙ ap (λ x. x.0) (access_is c.args.settings.now c.args.draws.now c.place-key.new.draws c.random-share.new.draws c.place-key.result
    c.random-share.result c.place-key.ensures c.random-share.ensures.drawn)
