use Rattle.std.proofs.Common.{rules, ◌+◌, ℕ, List, sym, ◌∙◌, ap, subst}
use Rattle.image_text.specs.declared.payloads.Logged.{Logged}
use Rattle.disk_model.proofs.Spans.{still_then}
use Rattle.store_files.proofs.Attaching.{chosen_parity}
use Rattle.slot_images.specs.Said.{checkpoint_in, IsInOrder}
use Rattle.aria_store.specs.Stands.{batches_in, rule_after, fallback_after}
use Rattle.aria_store.proofs.Attached.{later_refused, attach_rests, attach_known, attach_stands}
use Rattle.aria_store.proofs.stores.Store.of_slot.Goals as goal

pub returns-in_err-later-clause-refused : goal.returns-in_err-later-clause-refused
returns-in_err-later-clause-refused g c =
    let a = g.D.Disk.history c.args.disk.now in
    let s = g.D.Disk.history c.load_taken.new.disk in
    let cause = later_refused a s (g.D.Disk.history c.read_later.new.disk) c.load_taken.ensures.still
    c.read_later.ensures.still c.requires.settled c.args.slot c.args.head c.requires.chosen
    (checkpoint_in c.in_ok-image.image) c.in_ok-image.ensures.reads a c.load_taken.ensures.still.faults c.in_err-later.field-0.0
    c.in_err-later.ensures.refused in
    search rules

pub known-requires : goal.known-requires
known-requires g c =
    c.in_ok-later.ensures.file
    ∙ ap (λ (n : ℕ). 2 + n) (sym (chosen_parity (g.D.Disk.history c.args.disk.now) c.args.slot c.args.head c.requires.chosen))

pub returns-clause-stands : goal.returns-clause-stands
returns-clause-stands g c =
    let a = g.D.Disk.history c.args.disk.now in
    let s = g.D.Disk.history c.load_taken.new.disk in
    let rule = c.settings_after-rule.ensures.rule ∙ ap (λ (l : List Logged). rule_after c.in_ok-image.image.rule (batches_in l)) c.as_slice.ensures.value in
    let fallback = c.settings_after-rule.ensures.fallback ∙ ap (λ (l : List Logged). fallback_after c.in_ok-image.image.fallback (batches_in l))
    c.as_slice.ensures.value in
    rw c.known.ensures
    (attach_stands a s (g.D.Disk.history c.read_later.new.disk) c.load_taken.ensures.still c.read_later.ensures.still c.requires.settled
    c.args.slot c.args.head c.requires.chosen (checkpoint_in c.in_ok-image.image) c.in_ok-image.ensures.reads c.in_ok-image.ensures.head
    (batches_in c.in_ok-later.later.items) c.in_ok-later.end c.in_ok-later.ensures.later c.settings_after-rule.result.0
    c.settings_after-rule.result.1 rule fallback)

pub returns-clause-rests : goal.returns-clause-rests
returns-clause-rests g c =
    let a = g.D.Disk.history c.args.disk.now in
    let s = g.D.Disk.history c.load_taken.new.disk in
    rw c.known.ensures
    (attach_rests a s (g.D.Disk.history c.read_later.new.disk) c.load_taken.ensures.still c.read_later.ensures.still c.requires.settled
    c.args.slot c.args.head c.requires.chosen (checkpoint_in c.in_ok-image.image) c.in_ok-image.ensures.reads c.in_ok-image.ensures.head
    (batches_in c.in_ok-later.later.items) c.in_ok-later.end c.in_ok-later.ensures.later)

pub returns-clause-in_order : goal.returns-clause-in_order
returns-clause-in_order g c =
    let parity = chosen_parity (g.D.Disk.history c.args.disk.now) c.args.slot c.args.head c.requires.chosen in
    rw c.known.ensures (subst (λ (n : ℕ). IsInOrder n (checkpoint_in c.in_ok-image.image)) (sym parity) c.in_ok-image.ensures.in_order)

pub returns-clause-later : goal.returns-clause-later
returns-clause-later g c = (c.in_ok-later.ensures.later.payloads, c.in_ok-later.ensures.later.are)

pub returns-clause-known : goal.returns-clause-known
returns-clause-known g c =
    let a = g.D.Disk.history c.args.disk.now in
    let s = g.D.Disk.history c.load_taken.new.disk in
    let rule = c.settings_after-rule.ensures.rule ∙ ap (λ (l : List Logged). rule_after c.in_ok-image.image.rule (batches_in l)) c.as_slice.ensures.value in
    let fallback = c.settings_after-rule.ensures.fallback ∙ ap (λ (l : List Logged). fallback_after c.in_ok-image.image.fallback (batches_in l))
    c.as_slice.ensures.value in
    rw c.known.ensures
    (attach_known a s (g.D.Disk.history c.read_later.new.disk) c.load_taken.ensures.still c.read_later.ensures.still c.requires.settled
    c.args.slot c.args.head c.requires.chosen (checkpoint_in c.in_ok-image.image) c.in_ok-image.ensures.reads c.in_ok-image.ensures.head
    (batches_in c.in_ok-later.later.items) c.in_ok-later.end c.in_ok-later.ensures.later c.settings_after-rule.result.0
    c.settings_after-rule.result.1 rule fallback)

pub returns-clause-still : goal.returns-clause-still
returns-clause-still g c =
    still_then (g.D.Disk.history c.args.disk.now) (g.D.Disk.history c.load_taken.new.disk) (g.D.Disk.history c.read_later.new.disk)
    c.load_taken.ensures.still c.read_later.ensures.still

pub returns-in_err-later-clause-still : goal.returns-in_err-later-clause-still
returns-in_err-later-clause-still g c =
    still_then (g.D.Disk.history c.args.disk.now) (g.D.Disk.history c.load_taken.new.disk) (g.D.Disk.history c.read_later.new.disk)
    c.load_taken.ensures.still c.read_later.ensures.still
