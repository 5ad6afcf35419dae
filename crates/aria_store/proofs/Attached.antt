-- What was read of the files, as what the disk holds and as what its images read as.
use Rattle.std.proofs.Common.{◌≡◌, ℕ, ◌+◌, ◌-◌, ◌<◌, ◌≤◌, List, [], refl, sym, ◌∙◌, ap, subst, arith, false, true, Option, None, Some}
use Rattle.std.specs.Prelude.{IfSome, IfErr, IsSome, Result, Ok, Err}
use Rattle.batch_rules.specs.declared.verdicts.Rule.{Rule}
use Rattle.disk_model.specs.Files.{File}
use Rattle.disk_model.specs.Histories.{History, current, MayLeave, Still}
use Rattle.disk_model.specs.declared.refusals.LogRefused.{LogRefused}
use Rattle.disk_model.specs.declared.refusals.LogRefused.TheVariants as of_file
use Rattle.disk_model.proofs.Spans.{from_each, still_now, still_then}
use Rattle.input_log.specs.Causes.{ReadCause}
use Rattle.input_log.specs.Layout.{Log, Ends, Breaks, log_of}
use Rattle.input_log.specs.declared.logs.LogEnd.{LogEnd}
use Rattle.input_log.specs.declared.logs.Payload.{Payload}
use Rattle.checkpoint.specs.declared.heads.Head.{Head}
use Rattle.checkpoint.specs.Slots.{Slot, Shown, slot_of, IsHead}
use Rattle.image_text.specs.Payloads.{Batch}
use Rattle.slot_images.specs.Causes.{LoadCause}
use Rattle.slot_images.specs.Images.{Checkpoint, Reading, Nothing, Says, Broken, values_in, IsBodyFor, SlotReads, FileReads}
use Rattle.store_files.specs.declared.refusals.StoreRefused.{StoreRefused}
use Rattle.store_files.specs.declared.refusals.StoreRefused.TheVariants as of_store
use Rattle.store_files.specs.Openings.{Opened, Taken, opened_of}
use Rattle.store_files.specs.Holdings.{Holds, IsBehind, IsSettled}
use Rattle.store_files.specs.Stores.{Stored, Rests}
use Rattle.store_files.specs.Attachments.{as_store, Chosen, ReadsAlike, TakeCause, seen_of}
use Rattle.store_files.proofs.Attaching.{seen_image, still_left, shown_in, contents_hold, attached_holds, attached_rests}
use Rattle.store_files.proofs.Syncs.{rose_later}
use Rattle.store_files.proofs.Whole.{opens}
use Rattle.aria_store.specs.Records.{IsLater}
use Rattle.aria_store.specs.Reopens.{Damaged, NoStore, LogReads, OpenedReads}
use Rattle.aria_store.specs.Stands.{IsKnown, Stands, IsTold, rule_after, fallback_after}
use Rattle.aria_store.specs.Causes.{AttachCause, LaterCause, BatchesCause}
use Rattle.aria_store.proofs.Batches.{same_count}

-- ---- refusals

pub take_refused : (a b : History) (e : StoreRefused) → TakeCause a b e → AttachCause a b e
take_refused a b of_store.Memory cause = absurd cause
take_refused a b of_store.DiskFault cause = cause
take_refused a b of_store.NoStore cause = λ images left. subst (λ (o : Opened). OpenedReads o NoStore) (sym (cause images left)) refl
take_refused a b (of_store.Damaged file at) cause =
    λ images left. subst (λ (o : Opened). OpenedReads o (Damaged file at)) (sym (cause images left)) refl
take_refused a b of_store.Exists cause = cause
take_refused a b (of_store.Closed faults) cause = cause

pub attach_later : (a b c : History) → a.faults ≤ b.faults → (e : StoreRefused) → AttachCause b c e → AttachCause a c e
attach_later a b c le of_store.Memory cause = cause
attach_later a b c le of_store.DiskFault cause = rose_later a.faults b.faults c.faults le cause
attach_later a b c le of_store.NoStore cause = cause
attach_later a b c le (of_store.Damaged file at) cause = cause
attach_later a b c le of_store.Exists cause = cause
attach_later a b c le (of_store.Closed faults) cause = cause

pub later_answer : {X : Type 0} (a b c : History) → a.faults ≤ b.faults → (r : Result X StoreRefused)
    → IfErr r (AttachCause b c) → IfErr r (AttachCause a c)
later_answer a b c le (Ok x) cause = cause
later_answer a b c le (Err e) cause = attach_later a b c le e cause

-- ---- a disk that tells its files

some_on : (before after : Option File) → seen_of after ≡ seen_of before → IsSome before → IsSome after
some_on None after same some = let no : false ≡ true = some in absurd (cc no)
some_on (Some f) None same some = absurd (cc same)
some_on (Some f) (Some g) same some = refl

pub told_on : (old new : History) → ReadsAlike old new → IsTold old → IsTold new
told_on old new alike told file low = some_on (current old file) (current new file) (alike file) (told file low)

-- ---- the log

told_reads : (told : Option File) (slot : ℕ) (c : Checkpoint) (log : Log) (file at : ℕ) → IfSome told (λ f. log_of f.seen ≡ log)
    → LogReads slot c log (Damaged file at) → IfSome told (λ f. LogReads slot c (log_of f.seen) (Damaged file at))
told_reads None slot c log file at is reads = tt
told_reads (Some f) slot c log file at is reads = subst (λ (l : Log). LogReads slot c l (Damaged file at)) (sym is) reads

pub scan_refused : (c : Checkpoint) (old new : History) (slot : ℕ) (r : LogRefused) → ReadCause old new (2 + slot) r
    → LaterCause c old new slot (as_store r)
scan_refused c old new slot of_file.Memory cause = tt
scan_refused c old new slot of_file.DiskFault cause = cause
scan_refused c old new slot (of_file.Damaged file at) cause =
    told_reads (current old (2 + slot)) slot c (Breaks at) file at cause.1 (ap (λ (n : ℕ). Damaged n at) cause.0)

pub batches_refused : (c : Checkpoint) (old new : History) (slot : ℕ) (payloads : List Payload) (end : ℕ) (e : StoreRefused)
    → IfSome (current old (2 + slot)) (λ f. log_of f.seen ≡ Ends payloads end) → BatchesCause c (2 + slot) payloads e
    → LaterCause c old new slot e
batches_refused c old new slot payloads end of_store.Memory log cause = tt
batches_refused c old new slot payloads end of_store.DiskFault log cause = absurd cause
batches_refused c old new slot payloads end of_store.NoStore log cause = cause
batches_refused c old new slot payloads end (of_store.Damaged file at) log cause =
    told_reads (current old (2 + slot)) slot c (Ends payloads end) file at log cause
batches_refused c old new slot payloads end of_store.Exists log cause = cause
batches_refused c old new slot payloads end (of_store.Closed faults) log cause = cause

-- ---- the slot that was taken, after looks alone

module _ (a z : History) (settled : IsSettled a) (slot : ℕ) (head : Head) (chosen : Chosen a slot head) (still : Still a z) where
  low : slot < 4
  low = omega (arith, chosen.low)

  pub read_in : (Q : List ℕ → Type 0) → IfSome (current a slot) (λ f. Q f.seen) → (images : ℕ → List ℕ) → MayLeave z z.now images
      → Q (images slot)
  read_in Q q images left = seen_image (current a slot) Q (images slot) (settled slot low) q (still_left a z still images left slot low)

  pub log_in : (Q : List ℕ → Type 0) → IfSome (current a (2 + slot)) (λ f. Q f.seen) → (images : ℕ → List ℕ) → MayLeave z z.now images
      → Q (images (2 + slot))
  log_in Q q images left =
      let within : 2 + slot < 4 = omega (arith, chosen.low) in
      seen_image (current a (2 + slot)) Q (images (2 + slot)) (settled (2 + slot) within) q (still_left a z still images left (2 + slot) within)

  pub taken_in : (images : ℕ → List ℕ) → MayLeave z z.now images
      → (body : List ℕ) × (slot_of slot (images slot) ≡ Shown head body)
      × (opened_of images ≡ Taken slot head body (log_of (images (2 + slot))))
  taken_in images left =
      let was = still_left a z still images left in
      let shown = shown_in a settled slot head chosen images was in
      let behind : IsBehind (1 - slot) head.generation (images (1 - slot)) =
      from_each (current a (1 - slot)) (IsBehind (1 - slot) head.generation) (images (1 - slot)) chosen.behind
      (was (1 - slot) (omega (arith, chosen.low))) in
      (shown.0, shown.1, opens slot head shown.0 (log_of (images (2 + slot))) images chosen.low shown.1 behind refl)

  -- what its file reads as, of each image
  slot_in_reads : (reading : Reading) → IfSome (current a slot) (λ f. FileReads slot f.seen reading) → (images : ℕ → List ℕ)
      → (left : MayLeave z z.now images) → SlotReads (Shown head (taken_in images left).0) reading
  slot_in_reads reading reads images left =
      subst (λ (s : Slot). SlotReads s reading) (taken_in images left).1 (read_in (λ l. FileReads slot l reading) reads images left)

  pub load_refused : (r : LogRefused) → LoadCause a z slot r → AttachCause a z (as_store r)
  load_refused of_file.Memory cause = tt
  load_refused of_file.DiskFault cause = cause
  load_refused (of_file.Damaged file at) cause = λ images left.
      subst (λ (o : Opened). OpenedReads o (Damaged file at)) (sym (taken_in images left).2)
      (Broken at, slot_in_reads (Broken at) cause.1 images left, ap (λ (n : ℕ). Damaged n at) cause.0)

  -- A slot that reads otherwise than by its head is told by no disk.
  pub not_shut : IfSome (current a slot) (λ f. FileReads slot f.seen Nothing) → (file at : ℕ)
      → AttachCause a z (of_store.Damaged file at)
  not_shut reads file at = λ images left. absurd (slot_in_reads Nothing reads images left)

  pub not_other : (c : Checkpoint) → IfSome (current a slot) (λ f. FileReads slot f.seen (Says c)) → (c.head ≡ head → ⊥)
      → (file at : ℕ) → AttachCause a z (of_store.Damaged file at)
  not_other c reads other file at = λ images left. absurd (other (slot_in_reads (Says c) reads images left).0)

-- ---- the slot, its checkpoint and its log

module _ (b s z : History) (one : Still b s) (two : Still s z) (settled : IsSettled b) (slot : ℕ) (head : Head) (chosen : Chosen b slot head)
    (c : Checkpoint) (reads : IfSome (current b slot) (λ f. FileReads slot f.seen (Says c))) where
  both : Still b z
  both = still_then b s z one two

  pub later_refused : (a : History) → a.faults ≤ s.faults → (e : StoreRefused) → LaterCause c s z slot e → AttachCause a z e
  later_refused a le of_store.Memory cause = tt
  later_refused a le of_store.DiskFault cause = rose_later a.faults s.faults z.faults le cause
  later_refused a le of_store.NoStore cause = absurd cause
  later_refused a le (of_store.Damaged file at) cause = λ images left.
      let log : LogReads slot c (log_of (images (2 + slot))) (Damaged file at) =
      log_in b z settled slot head chosen both (λ l. LogReads slot c (log_of l) (Damaged file at))
      (subst (λ (t : Option File). IfSome t (λ f. LogReads slot c (log_of f.seen) (Damaged file at))) (still_now b s one (2 + slot)) cause)
      images left in
      subst (λ (o : Opened). OpenedReads o (Damaged file at)) (sym (taken_in b z settled slot head chosen both images left).2)
      (Says c, slot_in_reads b z settled slot head chosen both (Says c) reads images left, log)
  later_refused a le of_store.Exists cause = cause
  later_refused a le (of_store.Closed faults) cause = cause

  module _ (is_head : c.head ≡ head) (later : List Batch) (end : LogEnd) (log : IsLater c (current s (2 + slot)) later end) where
    abbrev pub attached_files : Stored
    attached_files = record { head = head; at = end.at; batches = end.batches; closed = None }

    body_of : (t : Option File) → IfSome t (λ f. IsHead (Some head) (slot_of slot f.seen))
        → (body : List ℕ) × IfSome t (λ f. slot_of slot f.seen ≡ Shown head body)
    body_of None shown = ([], tt)
    body_of (Some f) shown = shown

    own : (body : List ℕ) × IfSome (current b slot) (λ f. slot_of slot f.seen ≡ Shown head body)
    own = body_of (current b slot) chosen.shown

    holds : Holds b slot head own.0 (Ends log.payloads end.at)
    holds = contents_hold b settled slot head chosen s head own.0 (Ends log.payloads end.at) own.1 (still_now b s one (2 + slot)) log.log

    pub attach_rests : Rests z attached_files
    attach_rests = attached_rests b z attached_files slot own.0 log.payloads both settled chosen holds log.many

    pub attach_known : (rule : Rule) (fallback : ℕ) → rule ≡ rule_after c.head.rule later → fallback ≡ fallback_after c.head.fallback later
        → IsKnown (record { files = attached_files; rule = rule; fallback = fallback }) c later
    attach_known rule fallback of_rule of_fallback = record {
      head = sym is_head;
      rule = of_rule;
      fallback = of_fallback;
      batches = log.many ∙ sym (same_count c c.head.batches c.head.requests log.payloads later log.are);
    }

    says : (t : Option File) (body : List ℕ) → IsSome t → IfSome t (λ f. slot_of slot f.seen ≡ Shown head body)
        → IfSome t (λ f. FileReads slot f.seen (Says c)) → IsBodyFor c.head body (values_in c)
    says None body some shown file = let both : false ≡ true = some in absurd (cc both)
    says (Some f) body some shown file =
        subst (λ (h : Head). IsBodyFor h body (values_in c)) (sym is_head)
        (subst (λ (x : Slot). SlotReads x (Says c)) shown file).1

    pub attach_stands : (rule : Rule) (fallback : ℕ) → rule ≡ rule_after c.head.rule later → fallback ≡ fallback_after c.head.fallback later
        → IsTold z → Stands z (record { files = attached_files; rule = rule; fallback = fallback }) c later
    attach_stands rule fallback of_rule of_fallback told =
        let some : IsSome (current b slot) =
        subst (λ (t : Option File). IsSome t) (still_now b z both slot) (told slot (omega (arith, chosen.low))) in
        record {
          known = attach_known rule fallback of_rule of_fallback;
          body = own.0;
          says = says (current b slot) own.0 some own.1 reads;
          payloads = log.payloads;
          are = log.are;
          holds = attached_holds b z slot head own.0 (Ends log.payloads end.at) both chosen holds;
        }
