use Rattle.std.proofs.Common.{rules, ◌≡◌, ap, ◌∙◌, ◌++◌, ◌∷◌, [], reverse}
use Rattle.install_phase.specs.Dues.{shown}
use Rattle.install_phase.specs.Writes.{at_shards}
use Rattle.install_phase.proofs.Listing.{last_listed}
use Rattle.install_phase.proofs.listings.append.Goals as goal

pub loop-write-preserved : goal.loop-write-preserved
loop-write-preserved c =
    let shards = c.args.shards.now in
    let before = c.in-Some.before.now in
    let last : c.loop-write.rest.now ≡ before ++ c.in-Some.write.now ∷ [] = search rules in
    ap (λ ws. ws ++ at_shards shards (reverse before)) c.in_ok-append_if_own.ensures
    ∙ last_listed shards (shown c.loop-write.dues.items) before _ c.loop-write.rest.now c.in-Some.write.now last c.loop-write.invariant
