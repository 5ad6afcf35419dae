use Rattle.std.proofs.Common.{rules, [], ◌≡◌, ◌∙◌, ◌⊎◌, ◌+◌, ◌≤◌, ℕ, List, None, sym, subst, ap}
use Rattle.image_text.specs.Bodies.{Values}
use Rattle.slot_images.specs.Images.{IsBodyFor}
use Rattle.store_files.specs.Stores.{Stored, Rests, next_head}
use Rattle.aria_store.specs.Reopens.{Reopens, Found}
use Rattle.aria_store.specs.Stands.{Kept, next_checkpoint}
use Rattle.aria_store.proofs.Founds.{kept_leaves}
use Rattle.aria_store.proofs.Written.{write_refused, rotate_leaves, rotate_stands, rotate_known}
use Rattle.aria_store.proofs.stores.Store.rotate.Goals as goal

pub rotate-requires-clause-rests : goal.rotate-requires-clause-rests
rotate-requires-clause-rests g c =
    subst (λ (f : Stored). f.closed ≡ None → Rests (g.D.Disk.history c.args.disk.now) f) (sym (ap (λ (s : Kept). s.files) c.self.view_is)) c.requires.rests

pub rotate-requires-clause-due : goal.rotate-requires-clause-due
rotate-requires-clause-due g c =
    subst (λ (f : Stored). (1 ≤ f.batches) ⊎ (f.head.format ≡ 1)) (sym (ap (λ (s : Kept). s.files) c.self.view_is)) c.requires.due

pub rotate-requires-clause-batches : goal.rotate-requires-clause-batches
rotate-requires-clause-batches g c =
    subst (λ (f : Stored). c.args.batches ≡ f.head.batches + f.batches) (sym (ap (λ (s : Kept). s.files) c.self.view_is)) c.requires.batches

pub returns-in_err-body-clause-images : goal.returns-in_err-body-clause-images
returns-in_err-body-clause-images g c none k later stands =
    let v : Values = (c.args.catalog.now, c.args.tables.now, c.args.held.now) in
    kept_leaves (g.D.Disk.history c.args.disk.now) c.args.self.now k later stands
    (λ images. Reopens images (Found (next_checkpoint c.args.self.now c.args.config.now.rule c.args.config.now.fallback c.args.batches c.args.requests v)
    []))

pub returns-in_err-rotate-clause-images : goal.returns-in_err-rotate-clause-images
returns-in_err-rotate-clause-images g c none k later stands =
    let same = ap (λ (s : Kept). s.files) c.self.view_is in
    let v : Values = (c.args.catalog.now, c.args.tables.now, c.args.held.now) in
    let next = next_head c.args.self.now.files.head c.args.config.now.rule c.args.config.now.fallback c.args.batches c.args.requests in
    rotate_leaves c.self.inside.files c.args.self.now same c.args.config.now.rule c.args.config.now.fallback c.args.batches c.args.requests v c.deref.result.now
    (subst (λ (l : List ℕ). IsBodyFor next l v) (sym c.deref.ensures.value) (c.in_ok-body.ensures.body next c.requires.requests c.requires.carried))
    (g.D.Disk.history c.args.disk.now) (g.D.Disk.history c.rotate.new.disk) k later (c.rotate.ensures.images (ap (λ (f : Stored). f.closed) same ∙ none)) stands

pub returns-in_err-rotate-clause-refused : goal.returns-in_err-rotate-clause-refused
returns-in_err-rotate-clause-refused g c =
    let cause = write_refused g.D.Disk.history c.args.disk.now c.rotate.new.disk c.self.inside.files c.rotate.new.self c.args.self.now
    (ap (λ (s : Kept). s.files) c.self.view_is) c.in_err-rotate.field-0.0 c.in_err-rotate.ensures.refused in
    search rules

pub returns-clause-images : goal.returns-clause-images
returns-clause-images g c none k later stands =
    let same = ap (λ (s : Kept). s.files) c.self.view_is in
    let v : Values = (c.args.catalog.now, c.args.tables.now, c.args.held.now) in
    let next = next_head c.args.self.now.files.head c.args.config.now.rule c.args.config.now.fallback c.args.batches c.args.requests in
    rotate_leaves c.self.inside.files c.args.self.now same c.args.config.now.rule c.args.config.now.fallback c.args.batches c.args.requests v c.deref.result.now
    (subst (λ (l : List ℕ). IsBodyFor next l v) (sym c.deref.ensures.value) (c.in_ok-body.ensures.body next c.requires.requests c.requires.carried))
    (g.D.Disk.history c.args.disk.now) (g.D.Disk.history c.rotate.new.disk) k later (c.rotate.ensures.images (ap (λ (f : Stored). f.closed) same ∙ none)) stands

pub returns-clause-stands : goal.returns-clause-stands
returns-clause-stands g c =
    let same = ap (λ (s : Kept). s.files) c.self.view_is in
    let v : Values = (c.args.catalog.now, c.args.tables.now, c.args.held.now) in
    let next = next_head c.args.self.now.files.head c.args.config.now.rule c.args.config.now.fallback c.args.batches c.args.requests in
    rotate_stands c.self.inside.files c.args.self.now same c.args.config.now.rule c.args.config.now.fallback c.args.batches c.args.requests v c.deref.result.now
    (subst (λ (l : List ℕ). IsBodyFor next l v) (sym c.deref.ensures.value) (c.in_ok-body.ensures.body next c.requires.requests c.requires.carried))
    (g.D.Disk.history c.rotate.new.disk) c.rotate.new.self c.in_ok-rotate.ensures.known c.in_ok-rotate.ensures.holds

pub returns-clause-known : goal.returns-clause-known
returns-clause-known g c =
    rotate_known c.self.inside.files c.args.self.now (ap (λ (s : Kept). s.files) c.self.view_is) c.rotate.new.self c.args.config.now.rule
    c.args.config.now.fallback c.args.batches c.args.requests c.in_ok-rotate.ensures.known

pub returns-clause-faults : goal.returns-clause-faults
returns-clause-faults g c =
    let none = c.in_ok-rotate.ensures.open in
    let rests = subst (λ (f : Stored). f.closed ≡ None → Rests (g.D.Disk.history c.args.disk.now) f)
    (sym (ap (λ (s : Kept). s.files) c.self.view_is)) c.requires.rests none in
    (c.rotate.ensures.images none rests.body rests.log rests.holds).faults
