use Rattle.std.proofs.Common.{◌≡◌, ap, sym, ◌∙◌, ◌+◌, ◌++◌, ◌∷◌, [], take}
use Rattle.std.proofs.lemmas.List.{map-append, take_more}
use Rattle.install_phase.specs.Dues.{shown}
use Rattle.install_phase.specs.Writes.{finished}
use Rattle.install_phase.proofs.Installing.{finished_more}
use Rattle.install_phase.proofs.makings.make_own.Goals as goal

pub loop-due-preserved : goal.loop-due-preserved
loop-due-preserved g c =
    let dues = c.args.dues.now in
    let front = take c.loop-due.due-index dues in
    let item = c.due-item.result in
    let more : take (c.loop-due.due-index + 1) dues ≡ front ++ item ∷ [] =
    take_more dues c.loop-due.due-index item c.loop-due-test.true ∙ ap (λ due. front ++ due ∷ []) (sym c.due-item.is) in
    c.in_ok-make_if_own.ensures ∙ ap (finished (shown (item ∷ []))) c.loop-due.invariant ∙ finished_more (shown front) (shown (item ∷ [])) c.args.shard
    ∙ ap (λ ws. finished ws c.args.shard) (sym (ap shown more ∙ map-append (λ due. due.write.now) front (item ∷ [])))
