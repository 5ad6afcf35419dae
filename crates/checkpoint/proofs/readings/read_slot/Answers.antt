use Rattle.disk_model.proofs.Spans.{still_call, still_then}
use Rattle.checkpoint.proofs.readings.read_slot.Goals as goal

pub returns-in_ok-read_at-in-Some-clause-still : goal.returns-in_ok-read_at-in-Some-clause-still
returns-in_ok-read_at-in-Some-clause-still g c = still_then _ _ _ c.look.ensures.still (still_call _ _ _ c.read_at.ensures.acts c.read_at.ensures.same)
