use Rattle.std.proofs.Common.{◌≡◌, ◌+◌, ℕ, sym, ◌∙◌, subst, ap}
use Rattle.disk_model.specs.Histories.{current, EachImage, IsStable, Leaves}
use Rattle.std.specs.Prelude.{IfSome}
use Rattle.input_log.specs.Layout.{IsWithOrWithout, log_of, with_record, EndsAt}
use Rattle.store_files.specs.Stores.{Stored, slot_in}
use Rattle.store_files.proofs.Appends.{appending, appended, slot_low, rests_appended}
use Rattle.store_files.proofs.files.Files.append.Goals as goal

pub returns-in-Ok-clause-images : goal.returns-in-Ok-clause-images
returns-in-Ok-clause-images g c none b log holds =
    let a = g.D.Disk.history c.args.disk.now in
    let z = g.D.Disk.history c.append.new.disk in
    let file = c.self.invariant ∙ ap (λ (s : Stored). 2 + slot_in s) c.self.view_is in
    let all = subst (λ (n : ℕ). Leaves a z n (IsWithOrWithout (current a n) c.args.payload.now)) file c.append.ensures.images in
    appending (slot_in c.args.self.now) (slot_low c.args.self.now) c.args.self.now.head b log a z c.args.payload.now holds all

pub returns-in-Ok-clause-stored : goal.returns-in-Ok-clause-stored
returns-in-Ok-clause-stored g c b log holds =
    let a = g.D.Disk.history c.args.disk.now in
    let z = g.D.Disk.history c.append.new.disk in
    let file = c.self.invariant ∙ ap (λ (s : Stored). 2 + slot_in s) c.self.view_is in
    let all = subst (λ (n : ℕ). Leaves a z n (IsWithOrWithout (current a n) c.args.payload.now)) file c.append.ensures.images in
    let stored = subst (λ (n : ℕ). IfSome (current a n) (λ f. EachImage (current z n)
    (λ image. log_of image ≡ with_record c.args.payload.now (log_of f.seen)))) file c.in-Ok.ensures.stored in
    appended (slot_in c.args.self.now) (slot_low c.args.self.now) c.args.self.now.head b log a z c.args.payload.now holds all
    (g.met.D.Disk.reads c.args.disk.now a.now (2 + slot_in c.args.self.now)) stored

pub returns-in-Ok-clause-rests : goal.returns-in-Ok-clause-rests
returns-in-Ok-clause-rests g c =
    let a = g.D.Disk.history c.args.disk.now in
    let z = g.D.Disk.history c.append.new.disk in
    let file = c.self.invariant ∙ ap (λ (s : Stored). 2 + slot_in s) c.self.view_is in
    let all = subst (λ (n : ℕ). Leaves a z n (IsWithOrWithout (current a n) c.args.payload.now)) file c.append.ensures.images in
    let stored = subst (λ (n : ℕ). IfSome (current a n) (λ f. EachImage (current z n)
    (λ image. log_of image ≡ with_record c.args.payload.now (log_of f.seen)))) file c.in-Ok.ensures.stored in
    let stable = subst (λ (n : ℕ). IsStable (current z n)) file c.in-Ok.ensures.stable in
    let ends = subst (λ (n : ℕ). EachImage (current z n) (λ image. EndsAt image c.append.new.end.at c.append.new.end.batches)) file c.in-Ok.ensures.ends in
    let open_now = sym (ap (λ (s : Stored). s.closed) c.self.view_is) ∙ c.in_default.is in
    rests_appended a z c.args.self.now _ c.args.payload.now (ap (λ (s : Stored). s.head) c.self.view_is) (c.requires.rests open_now) all
    (g.met.D.Disk.reads c.args.disk.now a.now (2 + slot_in c.args.self.now)) stored stable ends

pub returns-in-Err-Memory-clause-images : goal.returns-in-Err-Memory-clause-images
returns-in-Err-Memory-clause-images g c none b log holds =
    let a = g.D.Disk.history c.args.disk.now in
    let z = g.D.Disk.history c.append.new.disk in
    let file = c.self.invariant ∙ ap (λ (s : Stored). 2 + slot_in s) c.self.view_is in
    let all = subst (λ (n : ℕ). Leaves a z n (IsWithOrWithout (current a n) c.args.payload.now)) file c.append.ensures.images in
    appending (slot_in c.args.self.now) (slot_low c.args.self.now) c.args.self.now.head b log a z c.args.payload.now holds all

pub returns-in-Err-DiskFault-clause-images : goal.returns-in-Err-DiskFault-clause-images
returns-in-Err-DiskFault-clause-images g c none b log holds =
    let a = g.D.Disk.history c.args.disk.now in
    let z = g.D.Disk.history c.append.new.disk in
    let file = c.self.invariant ∙ ap (λ (s : Stored). 2 + slot_in s) c.self.view_is in
    let all = subst (λ (n : ℕ). Leaves a z n (IsWithOrWithout (current a n) c.args.payload.now)) file c.append.ensures.images in
    appending (slot_in c.args.self.now) (slot_low c.args.self.now) c.args.self.now.head b log a z c.args.payload.now holds all
