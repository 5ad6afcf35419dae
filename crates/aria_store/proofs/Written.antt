-- What append, rotate and create leave, by the clauses of the files.
use Rattle.std.proofs.Common.{◌≡◌, ◌⊎◌, ℕ, ◌+◌, ◌-◌, ◌≤◌, List, [], ◌∷◌, ◌++◌, length, All, Bool, false, sym, ◌∙◌, ap, subst, arith, inl, inr, Option, None, Some}
use Rattle.std.proofs.lemmas.List.Elements.{All-nil}
use Rattle.std.specs.Prelude.{◌%◌, ◌==◌, IfSome, IsSomeAnd, true}
use Rattle.aria_base.specs.Faults.{one_more}
use Rattle.aria_base.specs.declared.calls.Request.{Request}
use Rattle.batch_rules.specs.declared.verdicts.Rule.{Rule}
use Rattle.disk_model.specs.Causes.{FaultOnly}
use Rattle.disk_model.specs.Files.{File}
use Rattle.disk_model.specs.Histories.{History, current, LeavesAll}
use Rattle.disk_model.specs.declared.refusals.LogRefused.{LogRefused}
use Rattle.disk_model.specs.declared.refusals.LogRefused.TheVariants as of_file
use Rattle.input_log.specs.Layout.{Log, Ends, with_record}
use Rattle.checkpoint.specs.declared.heads.Head.{Head}
use Rattle.checkpoint.specs.Slots.{is_open}
use Rattle.proc_lang.specs.Catalogs.{Plan}
use Rattle.image_text.specs.Bodies.{Values}
use Rattle.image_text.specs.Payloads.{Batch, IsPayload}
use Rattle.slot_images.specs.Images.{Checkpoint, checkpoint_of, MayCarry, IsBodyFor}
use Rattle.store_files.specs.declared.refusals.StoreRefused.{StoreRefused}
use Rattle.store_files.specs.declared.refusals.StoreRefused.TheVariants as of_store
use Rattle.store_files.specs.Attachments.{as_store, IsTaken}
use Rattle.store_files.specs.Openings.{Taken, opened_of}
use Rattle.store_files.specs.Holdings.{Holds}
use Rattle.store_files.specs.Stores.{Stored, StoreCause, slot_in, next_head}
use Rattle.store_files.proofs.Appends.{next_slot}
use Rattle.store_files.proofs.Syncs.{rose_later}
use Rattle.aria_store.specs.Causes.{WriteCause, CreateCause, HasGate}
use Rattle.aria_store.specs.Records.{SaysIn, Says}
use Rattle.aria_store.specs.Reopens.{Found, Reopens}
use Rattle.aria_store.specs.Stands.{Kept, Stands, MayAdd, with_batch, new_store, next_checkpoint}
use Rattle.aria_store.proofs.Founds.{added_leaves, stands_more, stands_new, rotated_leaves}

-- ---- refusals

pub write_refused : {D : Type 0} (history : D → History) (old new : D) (was is : Stored) (store : Kept) (same : was ≡ store.files)
    (e : StoreRefused) → StoreCause history old new was is e
    → WriteCause history old new store (record { files = is; rule = store.rule; fallback = store.fallback }) e
write_refused history old new was is store same of_store.Memory cause = (
  cause.0,
  ap (λ (f : Stored). record { files = f; rule = store.rule; fallback = store.fallback }) (cause.1 ∙ same),
  ap (λ (f : Stored). f.closed) (sym same) ∙ cause.2,
)
write_refused history old new was is store same of_store.DiskFault cause = (
  cause.0,
  ap (λ (f : Stored). record { files = f; rule = store.rule; fallback = store.fallback })
      (cause.1 ∙ ap (λ (f : Stored). record f { closed = Some (history new).faults }) same),
  ap (λ (f : Stored). f.closed) (sym same) ∙ cause.2,
)
write_refused history old new was is store same of_store.NoStore cause = cause
write_refused history old new was is store same of_store.Exists cause = cause
write_refused history old new was is store same (of_store.Damaged file at) cause = cause
write_refused history old new was is store same (of_store.Closed faults) cause = (
  cause.0,
  ap (λ (f : Stored). record { files = f; rule = store.rule; fallback = store.fallback }) (cause.1 ∙ same),
  ap (λ (f : Stored). f.closed) (sym same) ∙ cause.2,
)

pub create_refused : (a b z : History) (over : Bool) (r : LogRefused) → a.faults ≤ b.faults → FaultOnly b z r
    → CreateCause a z over (as_store r)
create_refused a b z over of_file.Memory le cause = absurd cause
create_refused a b z over of_file.DiskFault le cause = rose_later a.faults b.faults z.faults le cause
create_refused a b z over (of_file.Damaged file at) le cause = absurd cause

-- no gate is open, and one is
pub no_gate : (disk : History) → IsTaken disk false → HasGate disk → ⊥
no_gate disk free (inl first) = go (current disk 0) free.0 first
  where
    go : (t : Option File) → IfSome t (λ f. is_open f.seen ≡ false) → IsSomeAnd t (λ f. is_open f.seen ≡ true) → ⊥
    go None shut gate = absurd gate
    go (Some f) shut gate = let both : false ≡ true = sym shut ∙ gate in absurd (cc both)
no_gate disk free (inr second) = go (current disk 1) free.1 second
  where
    go : (t : Option File) → IfSome t (λ f. is_open f.seen ≡ false) → IsSomeAnd t (λ f. is_open f.seen ≡ true) → ⊥
    go None shut gate = absurd gate
    go (Some f) shut gate = let both : false ≡ true = sym shut ∙ gate in absurd (cc both)

-- ---- a batch more

module _ (old : History) (files : Stored) (store : Kept) (same : files ≡ store.files) (plan : Plan) (batch : Batch) (bytes : List ℕ)
    (second : store.files.head.format ≡ 2) (text : IsPayload plan bytes batch) (c : Checkpoint) (later : List Batch)
    (stands : Stands old store c later) (may : MayAdd plan (length batch.calls) c later) where
  says : Says c bytes batch
  says =
      let own : IsPayload c.plan bytes batch = subst (λ (p : Plan). IsPayload p bytes batch) may.catalog text in
      let format : c.head.format ≡ 2 = ap (λ (h : Head). h.format) (sym stands.known.head) ∙ second in
      let no : false ≡ (c.head.format == 1) = ap (λ (n : ℕ). n == 1) (sym format) in
      subst (λ (b : Bool). SaysIn b c bytes batch) no own

  holds : Holds old (slot_in files) files.head stands.body (Ends stands.payloads files.at)
  holds = subst (λ (f : Stored). Holds old (slot_in f) f.head stands.body (Ends stands.payloads f.at)) (sym same) stands.holds

  pub append_leaves : (new : History)
      → ((b : List ℕ) (log : Log) → Holds old (slot_in files) files.head b log
      → LeavesAll old new (λ images. (opened_of images ≡ Taken (slot_in files) files.head b log)
      ⊎ (opened_of images ≡ Taken (slot_in files) files.head b (with_record bytes log))))
      → LeavesAll old new (λ images. Reopens images (Found c later) ⊎ Reopens images (Found c (later ++ batch ∷ [])))
  append_leaves new each =
      added_leaves old store c later stands batch bytes says may.within new
      (subst (λ (f : Stored). LeavesAll old new
      (λ images. (opened_of images ≡ Taken (slot_in f) f.head stands.body (Ends stands.payloads f.at))
      ⊎ (opened_of images ≡ Taken (slot_in f) f.head stands.body (with_record bytes (Ends stands.payloads f.at)))))
      same (each stands.body (Ends stands.payloads files.at) holds))

  pub append_stands : (new : History) (after : Stored)
      → after ≡ record files { at = files.at + 5 + length bytes; batches = one_more files.batches }
      → ((b : List ℕ) (log : Log) → Holds old (slot_in files) files.head b log
      → Holds new (slot_in files) files.head b (with_record bytes log))
      → Stands new (record { files = after; rule = batch.rule; fallback = batch.fallback }) c (later ++ batch ∷ [])
  append_stands new after known each =
      stands_more old store c later stands batch bytes says may.within new after
      (known ∙ ap (λ (f : Stored). record f { at = f.at + 5 + length bytes; batches = one_more f.batches }) same)
      (subst (λ (f : Stored). Holds new (slot_in f) f.head stands.body (with_record bytes (Ends stands.payloads f.at)))
      same (each stands.body (Ends stands.payloads files.at) holds))

-- what the store knows then
pub append_known : (files : Stored) (store : Kept) → files ≡ store.files → (after : Stored) (bytes text : List ℕ) → bytes ≡ text
    → (rule : Rule) (fallback : ℕ) → after ≡ record files { at = files.at + 5 + length bytes; batches = one_more files.batches }
    → record { files = after; rule = rule; fallback = fallback } ≡ with_batch store (length text) rule fallback
append_known files store same after bytes text is rule fallback known =
    ap (λ (f : Stored). record { files = f; rule = rule; fallback = fallback })
    (known ∙ ap (λ (f : Stored). record f { at = f.at + 5 + length bytes; batches = one_more f.batches }) same
    ∙ ap (λ (l : List ℕ). record store.files { at = store.files.at + 5 + length l; batches = one_more store.files.batches }) is)

-- ---- the next checkpoint

module _ (files : Stored) (store : Kept) (same : files ≡ store.files) (rule : Rule) (fallback batches requests : ℕ) (v : Values)
    (body : List ℕ) (text : IsBodyFor (next_head store.files.head rule fallback batches requests) body (v.0, v.1, v.2)) where
  abbrev next : Head
  next = next_head store.files.head rule fallback batches requests

  pub rotate_leaves : (old new : History) (c : Checkpoint) (later : List Batch)
      → ((b : List ℕ) (log : Log) → Holds old (slot_in files) files.head b log
      → LeavesAll old new (λ images. (opened_of images ≡ Taken (slot_in files) files.head b log)
      ⊎ (opened_of images ≡ Taken (1 - slot_in files) (next_head files.head rule fallback batches requests) body (Ends [] 0))))
      → Stands old store c later
      → LeavesAll old new
      (λ images. Reopens images (Found c later) ⊎ Reopens images (Found (next_checkpoint store rule fallback batches requests v) []))
  rotate_leaves old new c later each stands =
      let holds : Holds old (slot_in files) files.head stands.body (Ends stands.payloads files.at) =
      subst (λ (f : Stored). Holds old (slot_in f) f.head stands.body (Ends stands.payloads f.at)) (sym same) stands.holds in
      rotated_leaves old new store c later stands (checkpoint_of next v) (1 - slot_in store.files) body text
      (subst (λ (f : Stored). LeavesAll old new
      (λ images. (opened_of images ≡ Taken (slot_in f) f.head stands.body (Ends stands.payloads f.at))
      ⊎ (opened_of images ≡ Taken (1 - slot_in f) (next_head f.head rule fallback batches requests) body (Ends [] 0))))
      same (each stands.body (Ends stands.payloads files.at) holds))

  pub rotate_stands : (new : History) (after : Stored)
      → after ≡ record { head = next_head files.head rule fallback batches requests; at = 0; batches = 0; closed = None }
      → Holds new (1 - slot_in files) (next_head files.head rule fallback batches requests) body (Ends [] 0)
      → Stands new (record { files = after; rule = rule; fallback = fallback })
      (next_checkpoint store rule fallback batches requests v) []
  rotate_stands new after known holds =
      let now : after ≡ record { head = next; at = 0; batches = 0; closed = None } =
      known ∙ ap (λ (f : Stored). record { head = next_head f.head rule fallback batches requests; at = 0; batches = 0; closed = None })
      same in
      stands_new new after (checkpoint_of next v) (1 - slot_in store.files) body (ap (λ (f : Stored). f.head) now)
      (ap (λ (f : Stored). f.at) now) (ap (λ (f : Stored). f.batches) now) (next_slot store.files.head) text
      (subst (λ (f : Stored). Holds new (1 - slot_in f) (next_head f.head rule fallback batches requests) body (Ends [] 0)) same holds)

pub rotate_known : (files : Stored) (store : Kept) → files ≡ store.files → (after : Stored) (rule : Rule) (fallback batches requests : ℕ)
    → after ≡ record { head = next_head files.head rule fallback batches requests; at = 0; batches = 0; closed = None }
    → record { files = after; rule = rule; fallback = fallback } ≡ new_store (next_head store.files.head rule fallback batches requests)
rotate_known files store same after rule fallback batches requests known =
    ap (λ (f : Stored). record { files = f; rule = rule; fallback = fallback })
    (known ∙ ap (λ (f : Stored). record { head = next_head f.head rule fallback batches requests; at = 0; batches = 0; closed = None }) same)

-- ---- the first checkpoint

pub none_fit : {X : Type 0} (P : X → Type 0) (xs : List X) → xs ≡ [] → All P xs
none_fit P xs none = subst (All P) (sym none) (All-nil P)

pub none_carried : (head : Head) (held : List Request) → held ≡ [] → MayCarry head held
none_carried head held none =
    subst (λ (l : List Request). MayCarry head l) (sym none) (record { numbered = omega arith; few = omega arith })

pub create_stands : (new : History) (after : Stored) (c : Checkpoint) (body : List ℕ)
    → after ≡ record { head = c.head; at = 0; batches = 0; closed = None } → c.head.generation ≡ 1
    → IsBodyFor c.head body (c.plan, c.rows, c.held) → Holds new 1 c.head body (Ends [] 0)
    → Stands new (record { files = after; rule = c.head.rule; fallback = c.head.fallback }) c []
create_stands new after c body known one text holds =
    stands_new new after c 1 body (ap (λ (f : Stored). f.head) known) (ap (λ (f : Stored). f.at) known)
    (ap (λ (f : Stored). f.batches) known) (ap (λ (n : ℕ). n % 2) one) text holds
