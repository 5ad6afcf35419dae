use Rattle.std.proofs.Common.{drop}
use Rattle.slot_images.specs.Said.{checkpoint_in}
use Rattle.aria_store.specs.Stands.{batches_in}
use Rattle.aria_store.proofs.Batches.{GoesOn}
use Rattle.aria_store.proofs.attachments.read_batches.Given as goal

abbrev pub invariant-loop-payload : goal.invariant-loop-payload
invariant-loop-payload l =
    GoesOn (checkpoint_in l.image) l.image.batches l.image.requests l.payloads (batches_in l.later.items) l.batches l.requests
    (drop l.payload-index l.payloads)
