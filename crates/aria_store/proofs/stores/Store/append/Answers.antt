use Rattle.std.proofs.Common.{rules, ◌≡◌, ◌∙◌, ◌≤◌, ℕ, List, None, sym, subst, ap}
use Rattle.image_text.specs.Payloads.{Batch, IsPayload}
use Rattle.input_log.specs.declared.limits.TheConstants.{MOST_BEFORE}
use Rattle.store_files.specs.Stores.{Stored, Rests}
use Rattle.aria_store.specs.Reopens.{Reopens, Found}
use Rattle.aria_store.specs.Stands.{Kept, added}
use Rattle.aria_store.proofs.Founds.{kept_leaves}
use Rattle.aria_store.proofs.Lines.{payload_short}
use Rattle.aria_store.proofs.Written.{write_refused, append_leaves, append_stands, append_known}
use Rattle.aria_store.proofs.stores.Store.append.Goals as goal

pub append-requires-clause-rests : goal.append-requires-clause-rests
append-requires-clause-rests g c =
    subst (λ (f : Stored). f.closed ≡ None → Rests (g.D.Disk.history c.args.disk.now) f) (sym (ap (λ (s : Kept). s.files) c.self.view_is)) c.requires.rests

pub append-requires-clause-short : goal.append-requires-clause-short
append-requires-clause-short g c = subst (λ (f : Stored). f.at ≤ MOST_BEFORE) (sym (ap (λ (s : Kept). s.files) c.self.view_is)) c.requires.short

pub append-requires-clause-payload : goal.append-requires-clause-payload
append-requires-clause-payload g c =
    payload_short c.args.catalog.now (record { rule = c.args.rule; fallback = c.args.fallback; calls = c.args.calls.now }) c.deref.result.now
    (c.deref.ensures.value ∙ c.in_ok-payload.ensures.text) c.requires.lines c.requires.few

pub returns-in_err-payload-clause-images : goal.returns-in_err-payload-clause-images
returns-in_err-payload-clause-images g c none k later stands may =
    kept_leaves (g.D.Disk.history c.args.disk.now) c.args.self.now k later stands
    (λ images. Reopens images (Found k (added later c.args.rule c.args.fallback c.args.calls.now)))

pub returns-in_err-append-clause-images : goal.returns-in_err-append-clause-images
returns-in_err-append-clause-images g c none k later stands may =
    let same = ap (λ (s : Kept). s.files) c.self.view_is in
    let batch : Batch = record { rule = c.args.rule; fallback = c.args.fallback; calls = c.args.calls.now } in
    append_leaves (g.D.Disk.history c.args.disk.now) c.self.inside.files c.args.self.now same c.args.catalog.now batch c.deref.result.now c.requires.format
    (subst (λ (l : List ℕ). IsPayload c.args.catalog.now l batch) (sym c.deref.ensures.value) c.in_ok-payload.ensures.again) k later stands may
    (g.D.Disk.history c.append.new.disk) (c.append.ensures.images (ap (λ (f : Stored). f.closed) same ∙ none))

pub returns-in_err-append-clause-refused : goal.returns-in_err-append-clause-refused
returns-in_err-append-clause-refused g c =
    let cause = write_refused g.D.Disk.history c.args.disk.now c.append.new.disk c.self.inside.files c.append.new.self c.args.self.now
    (ap (λ (s : Kept). s.files) c.self.view_is) c.in_err-append.field-0.0 c.in_err-append.ensures.refused in
    search rules

pub returns-clause-images : goal.returns-clause-images
returns-clause-images g c none k later stands may =
    let same = ap (λ (s : Kept). s.files) c.self.view_is in
    let batch : Batch = record { rule = c.args.rule; fallback = c.args.fallback; calls = c.args.calls.now } in
    append_leaves (g.D.Disk.history c.args.disk.now) c.self.inside.files c.args.self.now same c.args.catalog.now batch c.deref.result.now c.requires.format
    (subst (λ (l : List ℕ). IsPayload c.args.catalog.now l batch) (sym c.deref.ensures.value) c.in_ok-payload.ensures.again) k later stands may
    (g.D.Disk.history c.append.new.disk) (c.append.ensures.images (ap (λ (f : Stored). f.closed) same ∙ none))

pub returns-clause-stands : goal.returns-clause-stands
returns-clause-stands g c k later stands may =
    let same = ap (λ (s : Kept). s.files) c.self.view_is in
    let batch : Batch = record { rule = c.args.rule; fallback = c.args.fallback; calls = c.args.calls.now } in
    append_stands (g.D.Disk.history c.args.disk.now) c.self.inside.files c.args.self.now same c.args.catalog.now batch c.deref.result.now c.requires.format
    (subst (λ (l : List ℕ). IsPayload c.args.catalog.now l batch) (sym c.deref.ensures.value) c.in_ok-payload.ensures.again) k later stands may
    (g.D.Disk.history c.append.new.disk) c.append.new.self c.in_ok-append.ensures.known c.in_ok-append.ensures.stored

pub returns-clause-known : goal.returns-clause-known
returns-clause-known g c =
    append_known c.self.inside.files c.args.self.now (ap (λ (s : Kept). s.files) c.self.view_is) c.append.new.self c.deref.result.now _
    (c.deref.ensures.value ∙ c.in_ok-payload.ensures.text) c.args.rule c.args.fallback c.in_ok-append.ensures.known

pub returns-clause-faults : goal.returns-clause-faults
returns-clause-faults g c =
    let none = c.in_ok-append.ensures.open in
    let rests = subst (λ (f : Stored). f.closed ≡ None → Rests (g.D.Disk.history c.args.disk.now) f)
    (sym (ap (λ (s : Kept). s.files) c.self.view_is)) c.requires.rests none in
    (c.append.ensures.images none rests.body rests.log rests.holds).faults
