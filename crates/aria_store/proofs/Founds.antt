-- From what a disk holds to what its files read as.
use Rattle.std.proofs.Common.{◌≡◌, ◌⊎◌, ℕ, ◌+◌, List, [], ◌∷◌, ◌++◌, length, refl, sym, ◌∙◌, ap, subst, arith, inl, inr, length-append}
use Rattle.std.specs.Prelude.{◌%◌}
use Rattle.aria_base.specs.Faults.{one_more}
use Rattle.disk_model.specs.Histories.{History, MayLeave, LeavesAll}
use Rattle.disk_model.proofs.Spans.{leaves_more, leaves_still, still_none}
use Rattle.input_log.specs.Layout.{Log, Ends, Breaks, with_record, with_payload}
use Rattle.input_log.specs.declared.logs.Payload.{Payload}
use Rattle.checkpoint.specs.declared.heads.Head.{Head}
use Rattle.image_text.specs.Payloads.{Batch}
use Rattle.slot_images.specs.Images as images
use Rattle.slot_images.specs.Images.{Checkpoint, values_in, IsBodyFor, Reading, BodyReads}
use Rattle.slot_images.proofs.Once.{body_once}
use Rattle.store_files.specs.Openings.{Opened, NoGate, Damage, Taken, opened_of}
use Rattle.store_files.specs.Holdings.{Holds}
use Rattle.store_files.specs.Stores.{Stored, slot_in}
use Rattle.store_files.proofs.Whole.{holds_opens}
use Rattle.store_files.proofs.Appends.{slot_low}
use Rattle.aria_store.specs.Records.{Says, IsWithin, AreBatches, requests_after}
use Rattle.aria_store.specs.Reopens.{Reopened, NoStore, Damaged, Found, LogReads, TakenReads, OpenedReads, Reopens}
use Rattle.aria_store.specs.Stands.{Kept, Stands}
use Rattle.aria_store.proofs.Batches.{are_added, rule_added, fallback_added, batches_once, not_both, wrong_once}

-- ---- a slot that is taken, with the text of a checkpoint and a log of batches

pub taken_found : (slot : ℕ) (head : Head) (body : List ℕ) (payloads : List Payload) (end : ℕ) (c : Checkpoint) (later : List Batch)
    → head ≡ c.head → IsBodyFor c.head body (values_in c) → AreBatches c c.head.batches c.head.requests payloads later
    → OpenedReads (Taken slot head body (Ends payloads end)) (Found c later)
taken_found slot head body payloads end c later is text are =
    (images.Says c, (sym is, subst (λ (h : Head). IsBodyFor h body (values_in c)) (sym is) text), (refl, are))

module _ (disk : History) (store : Kept) (c : Checkpoint) (later : List Batch) (stands : Stands disk store c later) where
  log_now : Log
  log_now = Ends stands.payloads store.files.at

  pub found_by : (images : ℕ → List ℕ) → opened_of images ≡ Taken (slot_in store.files) store.files.head stands.body
      (Ends stands.payloads store.files.at)
      → Reopens images (Found c later)
  found_by images opens = subst (λ (o : Opened). OpenedReads o (Found c later)) (sym opens)
      (taken_found
      (slot_in store.files) store.files.head stands.body stands.payloads store.files.at c later stands.known.head stands.says stands.are)

  pub found_now : (images : ℕ → List ℕ) → MayLeave disk disk.now images → Reopens images (Found c later)
  found_now images left = found_by images
      (holds_opens disk (slot_in store.files) store.files.head stands.body (Ends stands.payloads store.files.at)
      (slot_low store.files) stands.holds images left)

  -- where no call is made
  pub kept_leaves : (P : (ℕ → List ℕ) → Type 0) → LeavesAll disk disk (λ images. Reopens images (Found c later) ⊎ P images)
  kept_leaves P = leaves_still disk disk (λ images. Reopens images (Found c later) ⊎ P images) (still_none disk) (λ images left. inl (found_now images left))

  -- ---- a batch more

  module _ (batch : Batch) (bytes : List ℕ) (says : Says c bytes batch)
      (within : IsWithin (c.head.batches + length later) (requests_after c.head.requests later) (length batch.calls)) where
    abbrev pub more : List Payload
    more = with_payload stands.payloads store.files.at bytes

    are_more : AreBatches c c.head.batches c.head.requests more (later ++ batch ∷ [])
    are_more =
        are_added c c.head.batches c.head.requests stands.payloads later
        (record { at = store.files.at; bytes = bytes }) batch stands.are (says, within)

    pub found_more : (images : ℕ → List ℕ) (end : ℕ)
        → opened_of images ≡ Taken (slot_in store.files) store.files.head stands.body (Ends more end)
        → Reopens images (Found c (later ++ batch ∷ []))
    found_more images end opens = subst (λ (o : Opened). OpenedReads o (Found c (later ++ batch ∷ []))) (sym opens)
        (taken_found (slot_in store.files) store.files.head stands.body more end c (later ++ batch ∷ []) stands.known.head stands.says are_more)

    pub added_leaves : (new : History)
        → LeavesAll disk new
        (λ images. (opened_of images ≡ Taken (slot_in store.files) store.files.head stands.body (Ends stands.payloads store.files.at))
        ⊎ (opened_of images ≡ Taken (slot_in store.files) store.files.head stands.body
        (with_record bytes (Ends stands.payloads store.files.at))))
        → LeavesAll disk new (λ images. Reopens images (Found c later) ⊎ Reopens images (Found c (later ++ batch ∷ [])))
    added_leaves new all =
        leaves_more disk new _ (λ images. Reopens images (Found c later) ⊎ Reopens images (Found c (later ++ batch ∷ []))) all
        (λ images either. elim either [
          | inl was ↦ inl (found_by images was)
          | inr is ↦ inr (found_more images (store.files.at + 5 + length bytes) is)
        ])

    pub stands_more : (new : History) (files : Stored)
        → files ≡ record store.files { at = store.files.at + 5 + length bytes; batches = one_more store.files.batches }
        → Holds new (slot_in store.files) store.files.head stands.body (with_record bytes (Ends stands.payloads store.files.at))
        → Stands new (record { files = files; rule = batch.rule; fallback = batch.fallback }) c (later ++ batch ∷ [])
    stands_more new files known holds =
        let counted : one_more store.files.batches ≡ length (later ++ batch ∷ []) =
        omega (arith, length-append later (batch ∷ []), stands.known.batches, within.batches) in
        record {
          known = record {
            head = ap (λ (f : Stored). f.head) known ∙ stands.known.head;
            rule = sym (rule_added c.head.rule later batch);
            fallback = sym (fallback_added c.head.fallback later batch);
            batches = ap (λ (f : Stored). f.batches) known ∙ counted;
          };
          body = stands.body;
          says = stands.says;
          payloads = more;
          are = are_more;
          holds = subst (λ (f : Stored). Holds new (slot_in f) f.head stands.body (Ends more f.at)) (sym known) holds;
        }

-- ---- a checkpoint with no batches

pub stands_new : (new : History) (files : Stored) (c : Checkpoint) (slot : ℕ) (body : List ℕ) → files.head ≡ c.head
    → files.at ≡ 0 → files.batches ≡ 0
    → c.head.generation % 2 ≡ slot → IsBodyFor c.head body (values_in c) → Holds new slot c.head body (Ends [] 0)
    → Stands new (record { files = files; rule = c.head.rule; fallback = c.head.fallback }) c []
stands_new new files c slot body head at batches parity says holds =
    let own : Holds new (c.head.generation % 2) c.head body (Ends [] 0) =
    subst (λ (n : ℕ). Holds new n c.head body (Ends [] 0)) (sym parity) holds in
    record {
      known = record { head = head; rule = refl; fallback = refl; batches = batches };
      body = body;
      says = says;
      payloads = [];
      are = tt;
      holds = subst (λ (n : ℕ). Holds new (slot_in files) files.head body (Ends [] n)) (sym at)
          (subst (λ (h : Head). Holds new (h.generation % 2) h body (Ends [] 0)) (sym head) own);
    }

pub rotated_leaves : (old new : History) (store : Kept) (c : Checkpoint) (later : List Batch) (stands : Stands old store c later)
    (next : Checkpoint) (slot : ℕ) (body : List ℕ) → IsBodyFor next.head body (values_in next)
    → LeavesAll old new
    (λ images. (opened_of images ≡ Taken (slot_in store.files) store.files.head stands.body (Ends stands.payloads store.files.at))
    ⊎ (opened_of images ≡ Taken slot next.head body (Ends [] 0)))
    → LeavesAll old new (λ images. Reopens images (Found c later) ⊎ Reopens images (Found next []))
rotated_leaves old new store c later stands next slot body says all =
    leaves_more old new _ (λ images. Reopens images (Found c later) ⊎ Reopens images (Found next [])) all (λ images either. elim either [
      | inl was ↦ inl (found_by old store c later stands images was)
      | inr is ↦ inr
          (subst (λ (o : Opened). OpenedReads o (Found next [])) (sym is) (taken_found slot next.head body [] 0 next [] refl says tt))
    ])

-- ---- four files read as one thing alone

log_once : (slot : ℕ) (c : Checkpoint) (log : Log) (body : List ℕ) → IsBodyFor c.head body (values_in c) → (one other : Reopened)
    → LogReads slot c log one → LogReads slot c log other → one ≡ other
log_once slot c (Breaks at) body text one other h k = h ∙ sym k
log_once slot c (Ends payloads end) body text NoStore other h k = absurd h
log_once slot c (Ends payloads end) body text (Damaged file at) NoStore h k = absurd k
log_once slot c (Ends payloads end) body text (Damaged file at) (Damaged other place) h k =
    let files : file ≡ other = h.0 ∙ sym k.0 in
    let places : at ≡ place = wrong_once c text.text.catalog c.head.batches c.head.requests payloads at place h.1 k.1 in
    λ i. Damaged (files i) (places i)
log_once slot c (Ends payloads end) body text (Damaged file at) (Found d later) h k =
    absurd (not_both c text.text.catalog c.head.batches c.head.requests payloads later at k.1 h.1)
log_once slot c (Ends payloads end) body text (Found d later) NoStore h k = absurd k
log_once slot c (Ends payloads end) body text (Found d later) (Damaged file at) h k =
    absurd (not_both c text.text.catalog c.head.batches c.head.requests payloads later at h.1 k.1)
log_once slot c (Ends payloads end) body text (Found d later) (Found e other) h k =
    let checkpoints : d ≡ e = h.0 ∙ sym k.0 in
    let batches : later ≡ other = batches_once c text.text.catalog c.head.batches c.head.requests payloads later other h.1 k.1 in
    λ i. Found (checkpoints i) (batches i)

taken_once : (slot : ℕ) (head : Head) (body : List ℕ) (log : Log) (reading : Reading) → BodyReads head body reading → (one other : Reopened)
    → TakenReads slot reading log one → TakenReads slot reading log other → one ≡ other
taken_once slot head body log images.Nothing reads one other h k = absurd h
taken_once slot head body log (images.Broken at) reads one other h k = h ∙ sym k
taken_once slot head body log (images.Says c) reads one other h k =
    log_once slot c log body (subst (λ (x : Head). IsBodyFor x body (values_in c)) (sym reads.0) reads.1) one other h k

opened_once : (opened : Opened) (one other : Reopened) → OpenedReads opened one → OpenedReads opened other → one ≡ other
opened_once NoGate one other h k = h ∙ sym k
opened_once (Damage file at) one other h k = h ∙ sym k
opened_once (Taken slot head body log) one other h k =
    let same : h.0 ≡ k.0 = body_once head body h.0 k.0 h.1 k.1 in
    taken_once slot head body log h.0 h.1 one other h.2 (subst (λ (r : Reading). TakenReads slot r log other) (sym same) k.2)

pub reopens_once : (images : ℕ → List ℕ) (one other : Reopened) → Reopens images one → Reopens images other → one ≡ other
reopens_once images one other h k = opened_once (opened_of images) one other h k
