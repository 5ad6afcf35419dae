-- What a loaded slot's file reads as.
use Rattle.std.proofs.Common.{◌≡◌, ℕ, List, refl, sym, ◌∙◌, ap, subst, arith}
use Rattle.std.specs.Prelude.{Option, None, Some, IfSome}
use Rattle.std.proofs.lemmas.Bool.Decides.{nat_tests}
use Rattle.disk_model.specs.Files.{File}
use Rattle.disk_model.specs.Histories.{History, current}
use Rattle.disk_model.specs.declared.refusals.LogRefused.{LogRefused}
use Rattle.disk_model.specs.declared.refusals.LogRefused.TheVariants.{Memory, DiskFault, Damaged}
use Rattle.checkpoint.specs.declared.heads.Head.{Head}
use Rattle.checkpoint.specs.Heads.{fields_for}
use Rattle.checkpoint.specs.Damage.{IsSound}
use Rattle.checkpoint.specs.Slots.{Slot, Shut, Shown, Bad, slot_of}
use Rattle.checkpoint.specs.Causes.{ReadCause}
use Rattle.checkpoint.proofs.Showing.{clear}
use Rattle.slot_images.specs.Images.{Checkpoint, values_in, IsBodyFor, Reading, Nothing, Says, Broken, BodyReads, SlotReads, FileReads}
use Rattle.slot_images.specs.Said.{IsFitting, IsInOrder}
use Rattle.slot_images.specs.Causes.{LoadCause}

module _ (slot : ℕ) where
  -- a file reads as its slot does
  file_reads : (told : Option File) (s : Slot) (reading : Reading) → SlotReads s reading → IfSome told (λ f. slot_of slot f.seen ≡ s)
      → IfSome told (λ f. FileReads slot f.seen reading)
  file_reads None s reading r h = tt
  file_reads (Some f) s reading r h = subst (λ (t : Slot). SlotReads t reading) (sym h) r

  pub reads_nothing : (told : Option File) → IfSome told (λ f. slot_of slot f.seen ≡ Shut) → IfSome told (λ f. FileReads slot f.seen Nothing)
  reads_nothing told h = file_reads told Shut Nothing refl h

  pub reads_body : (told : Option File) (head : Head) (body : List ℕ) (reading : Reading) → BodyReads head body reading
      → IfSome told (λ f. slot_of slot f.seen ≡ Shown head body)
      → IfSome told (λ f. FileReads slot f.seen reading)
  reads_body told head body reading r h = file_reads told (Shown head body) reading r h

  pub reads_broken : (told : Option File) (at : ℕ) → IfSome told (λ f. slot_of slot f.seen ≡ Bad at) → IfSome told (λ f. FileReads slot f.seen (Broken at))
  reads_broken told at h = file_reads told (Bad at) (Broken at) refl h

pub load_refused : (old new : History) (slot : ℕ) (refused : LogRefused) → ReadCause old new slot refused → LoadCause old new slot refused
load_refused old new slot Memory h = tt
load_refused old new slot DiskFault h = h
load_refused old new slot (Damaged file at) h = (h.0, reads_broken slot (current old slot) at h.1)

pub in_order : (slot : ℕ) (head : Head) (c : Checkpoint) → IsSound slot head → c.head ≡ head → IsFitting c → IsInOrder slot c
in_order slot head c sound is fits =
    let own : IsSound slot c.head = subst (IsSound slot) (sym is) sound in
    let known = clear slot (fields_for c.head 0) own in
    record {
      sound = own;
      fallback = grind (arith, nat_tests, known.fallback);
      batches = grind (arith, nat_tests, known.batches);
      requests = grind (arith, nat_tests, known.requests);
      fits = fits;
    }

-- a file that reads as a checkpoint shows its head, and a body that is the text of its values
pub says_shown : (slot : ℕ) (bytes : List ℕ) (c : Checkpoint) → FileReads slot bytes (Says c) → (body : List ℕ) × (slot_of slot bytes ≡ Shown c.head body)
    × IsBodyFor c.head body (values_in c)
says_shown slot bytes c reads = by (slot_of slot bytes) refl reads
  where
    by : (s : Slot) → slot_of slot bytes ≡ s → SlotReads s (Says c) → (body : List ℕ) × (slot_of slot bytes ≡ Shown c.head body)
        × IsBodyFor c.head body (values_in c)
    by Shut e r = absurd (cc r)
    by (Shown head body) e r =
        (body, e ∙ ap (λ (h : Head). Shown h body) (sym r.0), subst (λ (h : Head). IsBodyFor h body (values_in c)) (sym r.0) r.1)
    by (Bad at) e r = absurd (cc r)
