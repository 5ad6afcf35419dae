use Rattle.std.proofs.Common.{◌≡◌, Some, None, sym, ap, subst, ◌∙◌}
use Rattle.std.specs.Prelude.{slice_get}
use Rattle.std.specs.Option.{option_map}
use Rattle.std.proofs.lemmas.Option.{slice_get-map}
use Rattle.aria_base.specs.Orders.{Cells}
use Rattle.aria_base.specs.declared.keys.Key.{Key}
use Rattle.node_rules.specs.Messages.{Message}
use Rattle.node_batch.specs.Letters.{message_of}
use Rattle.node_answers.proofs.Founds.{found_at, none_at}
use Rattle.part_nodes.proofs.nodes.Nodes.addressee.Goals as goal

pub returns-in-Some : goal.returns-in-Some
returns-in-Some c =
    let sent = c.args.self.now.world.sent.items in
    let hit = c.in-Some.ensures.lookup in
    let found = subst (λ l. Some c.in-Some.letter.now ≡ slice_get l c.args.k) c.deref.ensures.value
    (found_at c.deref.result.now c.args.k c.in-Some.letter.now hit.0 hit.1) in
    ap (option_map (λ (m : Message Key Cells). m.addressee)) (ap (option_map message_of) found ∙ sym (slice_get-map message_of sent c.args.k))

pub returns-in-None : goal.returns-in-None
returns-in-None c =
    let sent = c.args.self.now.world.sent.items in
    let none = subst (λ l. None ≡ slice_get l c.args.k) c.deref.ensures.value
    (none_at c.deref.result.now c.args.k c.in-None.ensures.lookup.0) in
    ap (option_map (λ (m : Message Key Cells). m.addressee)) (ap (option_map message_of) none ∙ sym (slice_get-map message_of sent c.args.k))
