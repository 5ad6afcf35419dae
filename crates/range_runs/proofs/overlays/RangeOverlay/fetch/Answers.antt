use Rattle.range_runs.proofs.Layering.{keys-read}
use Rattle.range_runs.proofs.overlays.RangeOverlay.fetch.Goals as goal

pub invariant_of-self-2 : goal.invariant_of-self-2
invariant_of-self-2 c = keys-read c.self.inside.overlay c.fetch.new.self c.args.key.now c.self.inside.keys c.in_ok-row.ensures.read c.self.invariant
