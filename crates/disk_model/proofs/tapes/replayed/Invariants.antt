use Rattle.std.proofs.Common.{drop}
use Rattle.disk_model.specs.Files.{untouched}
use Rattle.disk_model.specs.Steps.{after}
use Rattle.disk_model.specs.Tapes.{steps_of}
use Rattle.disk_model.proofs.Replays.{LeadsTo}
use Rattle.disk_model.proofs.tapes.replayed.Given as goal

abbrev pub invariant-loop-entry : goal.invariant-loop-entry
invariant-loop-entry l =
    LeadsTo (drop l.entry-index l.entries) l.rest l.file l.content.items l.loose.items (after (steps_of l.entries l.bytes) l.file (untouched l.start))
