use Rattle.std.proofs.Common.{IsTrue, Option, option_map, arith, sym, subst}
use Rattle.image_text.specs.declared.payloads.Logged.{Logged}
use Rattle.slot_images.specs.Images.{Checkpoint}
use Rattle.slot_images.specs.Said.{checkpoint_in}
use Rattle.aria_store.specs.Records.{IsThatBatch, IsWithin}
use Rattle.aria_store.specs.Stands.{batch_in}
use Rattle.aria_store.proofs.Batches.{past_bound}
use Rattle.aria_store.proofs.attachments.next_batch.Goals as goal

pub returns-then-not-is_within : goal.returns-then-not-is_within
returns-then-not-is_within c =
    let it : Checkpoint = checkpoint_in c.args.image.now in
    let says = subst (λ (o : Option Logged). IsThatBatch it c.args.bytes.now (option_map batch_in o)) c.in-Some.is c.in_ok-logged.ensures in
    past_bound it c.schema.ensures.catalog c.args.batches c.args.requests c.args.bytes.now (batch_in c.in-Some.logged) says
    (λ within. let yes : IsTrue c.is_within.result = c.is_within.ensures.1
    (rw c.len.ensures (subst (IsWithin c.args.batches c.args.requests) (sym c.in-Some.logged.calls.ok.0) within)) in
    grind (arith, yes, c.if-not-is_within.true))
