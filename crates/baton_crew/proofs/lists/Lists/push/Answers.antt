use Rattle.std.proofs.Common.{◌≡◌, ◌∙◌, ◌+◌, ◌++◌, ◌∷◌, [], ap, arith}
use Rattle.baton_crew.proofs.Pieces.{pushed}
use Rattle.baton_crew.proofs.lists.Lists.push.Goals as goal

pub returns : goal.returns
returns g c =
    let old = c.self.inside.items in
    pushed old.items c.args.list.now c.extend_from_slice.new.self.items c.self.inside.spans.items c.push.new.self.items _
    c.in_ok-extend_from_slice.ensures.items c.in_ok-push.ensures.items c.self.invariant
    (let e = c.len-start.ensures in let v = old.ok.0 in omega arith)
    (let e = c.len-end.ensures in let l = c.in_ok-extend_from_slice.ensures.len in let v = old.ok.0 in omega arith)
    ∙ ap (λ l. l ++ c.args.list.now ∷ []) c.self.view_is
