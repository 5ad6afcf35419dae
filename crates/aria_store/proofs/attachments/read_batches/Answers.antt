use Rattle.std.proofs.Common.{◌≡◌, ◌++◌, ◌∷◌, [], ℕ, List, Option, option_map, ◌∙◌, ap, subst}
use Rattle.std.proofs.lemmas.List.{map-append}
use Rattle.image_text.specs.declared.payloads.Logged.{Logged}
use Rattle.slot_images.specs.Images.{Checkpoint}
use Rattle.slot_images.specs.Said.{checkpoint_in}
use Rattle.aria_store.specs.Records.{IsNext, Follows}
use Rattle.aria_store.specs.Stands.{batch_in, batches_in}
use Rattle.aria_store.proofs.Batches.{goes_past, goes_through}
use Rattle.aria_store.proofs.attachments.read_batches.Goals as goal

pub loop-payload-preserved : goal.loop-payload-preserved
loop-payload-preserved c =
    let it : Checkpoint = checkpoint_in c.args.image.now in
    let next = subst (λ (o : Option Logged). IsNext it c.loop-payload.batches c.loop-payload.requests c.as_slice-bytes.result.now (option_map batch_in o))
    c.in-Some.is c.in_ok-logged.ensures in
    let follows = subst (λ (l : List ℕ). Follows it c.loop-payload.batches c.loop-payload.requests l (batch_in c.in-Some.logged)) c.as_slice-bytes.ensures
    next in
    let pushed : batches_in c.push.new.self.items ≡ batches_in c.loop-payload.later.items ++ batch_in c.in-Some.logged ∷ [] =
    ap batches_in c.in_ok-push.ensures.items ∙ map-append batch_in c.loop-payload.later.items (c.in-Some.logged ∷ []) in
    rw c.len.ensures (rw c.in-Some.logged.calls.ok.0
    (goes_past _ _ _ _ _ _ _ _ c.loop-payload.invariant _ (batch_in c.in-Some.logged) _ c.loop-payload-test.true c.payload-item.is follows pushed))

pub returns-clause-batches : goal.returns-clause-batches
returns-clause-batches c =
    goes_through (checkpoint_in c.args.image.now) c.args.payloads.now c.loop-payload.payload-index c.args.image.now.batches
    c.args.image.now.requests c.loop-payload.batches c.loop-payload.requests (batches_in c.loop-payload.later.items)
    c.loop-payload.invariant c.loop-payload-test.false
