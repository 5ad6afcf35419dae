use Rattle.std.proofs.Common.{rules, arith, IsTrue, Option, option_map, subst}
use Rattle.std.specs.Prelude.{IfSome}
use Rattle.disk_model.specs.Histories.{current}
use Rattle.store_files.specs.Attachments.{as_store}
use Rattle.slot_images.specs.declared.images.Image.{Image}
use Rattle.slot_images.specs.Images.{FileReads, reading_of}
use Rattle.slot_images.specs.Said.{checkpoint_in}
use Rattle.aria_store.specs.Causes.{AttachCause}
use Rattle.aria_store.proofs.Attached.{load_refused, not_shut, not_other}
use Rattle.aria_store.proofs.attachments.load_taken.Goals as goal

pub returns-in_err-image-clause-refused : goal.returns-in_err-image-clause-refused
returns-in_err-image-clause-refused g c =
    let a = g.D.Disk.history c.args.disk.now in
    let z = g.D.Disk.history c.load.new.disk in
    let cause : AttachCause a z (as_store c.in_err-image.field-0.0) =
    load_refused a z c.requires.settled c.args.slot c.args.head.now c.requires.chosen c.load.ensures.still c.in_err-image.field-0.0
    c.in_err-image.ensures.refused in
    search rules

pub returns-in_default-clause-refused : goal.returns-in_default-clause-refused
returns-in_default-clause-refused g c =
    let a = g.D.Disk.history c.args.disk.now in
    let reads = subst (λ (o : Option Image). IfSome (current a c.args.slot) (λ f. FileReads c.args.slot f.seen (reading_of (option_map checkpoint_in o))))
    c.in_default.is c.in_ok-image.ensures.image in
    not_shut a (g.D.Disk.history c.load.new.disk) c.requires.settled c.args.slot c.args.head.now c.requires.chosen c.load.ensures.still reads c.args.slot 0

pub returns-then-not-has_head-clause-refused : goal.returns-then-not-has_head-clause-refused
returns-then-not-has_head-clause-refused g c =
    let a = g.D.Disk.history c.args.disk.now in
    let reads = subst (λ (o : Option Image). IfSome (current a c.args.slot) (λ f. FileReads c.args.slot f.seen (reading_of (option_map checkpoint_in o))))
    c.in-Some.is c.in_ok-image.ensures.image in
    not_other a (g.D.Disk.history c.load.new.disk) c.requires.settled c.args.slot c.args.head.now c.requires.chosen c.load.ensures.still
    (checkpoint_in c.in-Some.image) reads
    (λ same. let yes : IsTrue c.has_head.result = c.has_head.ensures.1 same in grind (arith, yes, c.if-not-has_head.true)) c.args.slot 0
