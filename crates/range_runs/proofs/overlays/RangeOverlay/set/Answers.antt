use Rattle.std.proofs.Common.{◌∷◌, Option, sym, subst}
use Rattle.std.specs.Option.{IfSome}
use Rattle.batch_rules.specs.Touches.{keys_of}
use Rattle.tbl_snapshot.specs.Layers.{Buffer}
use Rattle.range_runs.specs.Indexes.{Listed, HasExactly}
use Rattle.range_runs.proofs.Layering.{keys-written}
use Rattle.range_runs.proofs.overlays.RangeOverlay.set.Goals as goal

pub keys_with-requires : goal.keys_with-requires
keys_with-requires c = subst (λ (p : Option Listed × Buffer). IfSome p.0 (HasExactly (keys_of p.1)))
    (λ i. (sym c.take-kept.ensures.value i, sym c.written.ensures i)) c.self.invariant

pub invariant_of-self-2 : goal.invariant_of-self-2
invariant_of-self-2 c = keys-written c.self.inside.overlay c.set.new.self c.args.key c.args.row c.in_ok-keys.keys c.in_ok-set.ensures.written
    (subst (λ (ws : Buffer). IfSome c.in_ok-keys.keys (HasExactly (c.args.key ∷ keys_of ws))) c.written.ensures c.in_ok-keys.ensures)
