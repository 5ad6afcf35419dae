-- A record more, on all four files.
use Rattle.std.proofs.Common.{◌≡◌, ◌⊎◌, ℕ, ◌+◌, ◌-◌, ◌<◌, List, [], sym, ◌∙◌, subst, ap, arith, inl, inr, Option, None, Some}
use Rattle.std.specs.Prelude.{IfSome, ◌%◌}
use Rattle.std.proofs.lemmas.Bool.{cases_eq}
use Rattle.disk_model.specs.Files.{File, IsImage}
use Rattle.disk_model.specs.Histories.{History, current, EachImage, IsStable, Within, Leaves, LeavesAll}
use Rattle.disk_model.proofs.Spans.{from_each, each_more, other_stays, leaves_file}
use Rattle.input_log.specs.Layout.{Log, Ends, log_of, with_record, EndsAt, IsWithOrWithout}
use Rattle.checkpoint.specs.declared.heads.Head.{Head}
use Rattle.checkpoint.specs.Damage.{IsSound}
use Rattle.checkpoint.specs.Slots.{Shown, slot_of}
use Rattle.store_files.specs.Openings.{Taken, opened_of}
use Rattle.store_files.specs.Holdings.{IsBehind, Holds, IsSettled}
use Rattle.store_files.specs.Stores.{Stored, slot_in, Rests}
use Rattle.store_files.proofs.Whole.{opens}

module _ (slot : ℕ) (is : slot < 2) (h : Head) (body : List ℕ) (log : Log) (a b : History) (payload : List ℕ)
    (holds : Holds a slot h body log) (all : Leaves a b (2 + slot) (IsWithOrWithout (current a (2 + slot)) payload)) where
  logs : (image : List ℕ) → IsWithOrWithout (current a (2 + slot)) payload image
      → (log_of image ≡ log) ⊎ (log_of image ≡ with_record payload log)
  logs image own =
      let was : log_of own.0 ≡ log = from_each (current a (2 + slot)) _ own.0 holds.records own.1 in
      elim own.2 [ inl same ↦ inl (same ∙ was) | inr more ↦ inr (more ∙ ap (with_record payload) was) ]

  pub appending : LeavesAll a b
      (λ images. (opened_of images ≡ Taken slot h body log) ⊎ (opened_of images ≡ Taken slot h body (with_record payload log)))
  appending =
      leaves_file a b (2 + slot) _
      (λ images. (opened_of images ≡ Taken slot h body log) ⊎
      (opened_of images ≡ Taken slot h body (with_record payload log))) (omega (arith, is)) all (λ images own others.
      let shown =
      from_each (current a slot) _ (images slot) holds.shown (others slot (omega (arith, is)) (λ e. absurd (omega (arith, e, is)))) in
      let behind =
      from_each (current a (1 - slot)) _ (images (1 - slot)) holds.behind
      (others (1 - slot) (omega (arith, is)) (λ e. absurd (omega (arith, e, is)))) in
      elim (logs (images (2 + slot)) own) [
        | inl same ↦ inl (opens slot h body log images is shown behind same)
        | inr more ↦ inr (opens slot h body (with_record payload log) images is shown behind more)
      ])

  stored_records : IfSome (current a (2 + slot)) (λ f. IsImage f f.seen)
      → IfSome (current a (2 + slot))
      (λ f. EachImage (current b (2 + slot)) (λ image. log_of image ≡ with_record payload (log_of f.seen)))
      → EachImage (current b (2 + slot)) (λ image. log_of image ≡ with_record payload log)
  stored_records reads stored =
      go (current a (2 + slot)) (current b (2 + slot)) reads stored holds.records (all.each b.now all.later (omega arith))
    where
      go : (t u : Option File) → IfSome t (λ f. IsImage f f.seen)
          → IfSome t (λ f. EachImage u (λ image. log_of image ≡ with_record payload (log_of f.seen)))
          → EachImage t (λ image. log_of image ≡ log) → EachImage u (IsWithOrWithout t payload)
          → EachImage u (λ image. log_of image ≡ with_record payload log)
      go t None r s k e = tt
      go None (Some g) r s k e = λ image is_image. let own = e image is_image in absurd own.1
      go (Some f) (Some g) r s k e = λ image is_image. s image is_image ∙ ap (with_record payload) (k f.seen r)

  pub appended : IfSome (current a (2 + slot)) (λ f. IsImage f f.seen)
      → IfSome (current a (2 + slot))
      (λ f. EachImage (current b (2 + slot)) (λ image. log_of image ≡ with_record payload (log_of f.seen)))
      → Holds b slot h body (with_record payload log)
  appended reads stored = record {
    shown = subst (λ (t : Option File). EachImage t (λ image. slot_of slot image ≡ Shown h body))
        (sym (other_stays a b (2 + slot) _ all slot (λ e. absurd (omega (arith, e, is))))) holds.shown;
    behind = subst (λ (t : Option File). EachImage t (IsBehind (1 - slot) h.generation))
        (sym (other_stays a b (2 + slot) _ all (1 - slot) (λ e. absurd (omega (arith, e, is))))) holds.behind;
    records = stored_records reads stored;
  }

pub settled_file : (a b : History) (file : ℕ) (P : Option File → Type 0) → Within a b file P → IsSettled a
    → IsStable (current b file) → IsSettled b
settled_file a b file P all settled own other low = elim (cases_eq other file) [
  | inl same ↦ subst (λ (n : ℕ). IsStable (current b n)) (sym same) own
  | inr apart ↦ subst IsStable (sym (other_stays a b file P all other apart)) (settled other low)
]

pub slot_low : (s : Stored) → slot_in s < 2
slot_low s = omega arith

pub next_slot : (h : Head) → (h.generation + 1) % 2 ≡ 1 - h.generation % 2
next_slot h = omega arith

module _ (a z : History) (s new : Stored) (payload : List ℕ) (same : new.head ≡ s.head) (rests : Rests a s)
    (all : Leaves a z (2 + slot_in s) (IsWithOrWithout (current a (2 + slot_in s)) payload))
    (reads : IfSome (current a (2 + slot_in s)) (λ f. IsImage f f.seen))
    (stored : IfSome (current a (2 + slot_in s))
    (λ f. EachImage (current z (2 + slot_in s)) (λ image. log_of image ≡ with_record payload (log_of f.seen))))
    (stable : IsStable (current z (2 + slot_in s)))
    (ends : EachImage (current z (2 + slot_in s)) (λ image. EndsAt image new.at new.batches)) where
  pub rests_appended : Rests z new
  rests_appended = record {
    settled = settled_file a z (2 + slot_in s) _ all rests.settled stable;
    sound = subst (λ (h : Head). IsSound (h.generation % 2) h) (sym same) rests.sound;
    body = rests.body;
    log = with_record payload rests.log;
    holds = subst (λ (h : Head). Holds z (h.generation % 2) h rests.body (with_record payload rests.log)) (sym same)
        (appended (slot_in s) (slot_low s) s.head rests.body rests.log a z payload rests.holds all reads stored);
    ends = subst (λ (h : Head). EachImage (current z (2 + h.generation % 2)) (λ image. EndsAt image new.at new.batches)) (sym same) ends;
  }

pub rests_rotated : (z : History) (new : Stored) (slot : ℕ) (body : List ℕ) → new.head.generation % 2 ≡ slot
    → IsSettled z → IsSound slot new.head → Holds z slot new.head body (Ends [] 0) → new.at ≡ 0 → new.batches ≡ 0 → Rests z new
rests_rotated z new slot body is settled sound holds at batches = record {
  settled = settled;
  sound = subst (λ (n : ℕ). IsSound n new.head) (sym is) sound;
  body = body;
  log = Ends [] 0;
  holds = subst (λ (n : ℕ). Holds z n new.head body (Ends [] 0)) (sym is) holds;
  ends = subst (λ (n : ℕ). EachImage (current z (2 + n)) (λ image. EndsAt image new.at new.batches)) (sym is)
      (each_more (current z (2 + slot)) _ _ (λ image e. ([], e ∙ ap (λ (n : ℕ). Ends [] n) (sym at), sym batches)) holds.records);
}
