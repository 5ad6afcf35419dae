use Rattle.std.proofs.Common.{rules, ◌≡◌, ap, sym, ◌∙◌, ◌∷◌, [], ◌++◌, map, append_assoc}
use Rattle.std.specs.Vec.Iter.{into_iter_items}
use Rattle.install_phase.specs.Dues.{shown}
use Rattle.install_phase.specs.Writes.{finished}
use Rattle.install_phase.proofs.makings.make_all.Goals as goal

pub loop-shard-preserved : goal.loop-shard-preserved
loop-shard-preserved g c =
    let after = finished (shown c.args.dues.now) in
    let made = c.loop-shard.made.items in
    let shard = c.in-Some.shard in
    let rest = into_iter_items c.next.new.self in
    let steps : into_iter_items c.loop-shard.shard-iterator ≡ shard ∷ rest = search rules in (
      tt,
      tt,
      ap (λ shards. shards ++ map after rest) (c.in_ok-push.ensures.items ∙ ap (λ one. made ++ one ∷ []) c.in_ok-make_own.ensures)
          ∙ append_assoc made (after shard ∷ []) (map after rest) ∙ ap (λ shards. made ++ map after shards) (sym steps) ∙ c.loop-shard.invariant.2,
    )
