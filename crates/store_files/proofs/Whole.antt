-- From one file to all four: which slot is taken, and what calls on one file leave of that.
use Rattle.std.proofs.Common.{◌≡◌, ℕ, zero, suc, ◌+◌, ◌-◌, ◌^◌, ◌<◌, List, [], ◌∷◌, ◌++◌, length, take, drop, Bool, true, false}
use Rattle.std.proofs.Common.{refl, sym, ◌∙◌, subst, ap, arith, inl, inr, Option, None, Some, option_map, length-append}
use Rattle.std.specs.Prelude.{nat_lt, IfSome, if◌then◌else◌}
use Rattle.std.proofs.lemmas.Bool.Decides.{nat_tests}
use Rattle.std.proofs.lemmas.List.{take-append-drop}
use Rattle.disk_model.specs.Files.{File, IsImage, untouched}
use Rattle.disk_model.specs.Histories.{History, current, EachImage, HasImage, MayLeave, Leaves, LeavesAll}
use Rattle.disk_model.proofs.Images.{untouched_image}
use Rattle.disk_model.proofs.Spans.{from_each, each_more, other_stays, leaves_file}
use Rattle.input_log.specs.Layout.{Log, Ends, log_of, EndsAt}
use Rattle.input_log.specs.declared.logs.Payload.{Payload}
use Rattle.checkpoint.specs.declared.heads.Head.{Head}
use Rattle.checkpoint.specs.Damage.{IsSound}
use Rattle.checkpoint.specs.Slots.{Slot, Shut, Shown, Bad, slot_of, opened, laid}
use Rattle.checkpoint.specs.Gates.{IsShut, IsShutOrSame}
use Rattle.checkpoint.proofs.Showing.{longer_shown, longer_shut, closed_slot, laid_shows}
use Rattle.store_files.specs.Openings.{Opened, Taken, beside, by_slots, opened_of}
use Rattle.store_files.specs.Holdings.{IsLower, IsBehind, Holds}

-- which slot is taken
beside_some : (file : ℕ) (bytes : List ℕ) (taken : Opened) → 0 < length bytes → beside file bytes taken ≡ taken
beside_some file [] taken some = absurd (omega arith)
beside_some file (b ∷ bytes) taken some = refl

takes_first : (h : Head) (body : List ℕ) (other : Slot) (images : ℕ → List ℕ) → IsLower h.generation other
    → 0 < length (images 1) → by_slots (Shown h body) other images ≡ Taken 0 h body (log_of (images 2))
takes_first h body Shut images lower some = beside_some 1 (images 1) (Taken 0 h body (log_of (images 2))) some
takes_first h body (Bad at) images lower some = absurd lower
takes_first h body (Shown i c) images lower some =
    let yes : nat_lt i.generation h.generation ≡ true = grind (arith, nat_tests, lower) in
    ap (λ (b : Bool). if b then Taken 0 h body (log_of (images 2)) else Taken 1 i c (log_of (images 3))) yes

takes_second : (h : Head) (body : List ℕ) (other : Slot) (images : ℕ → List ℕ) → IsLower h.generation other
    → 0 < length (images 0) → by_slots other (Shown h body) images ≡ Taken 1 h body (log_of (images 3))
takes_second h body Shut images lower some = beside_some 0 (images 0) (Taken 1 h body (log_of (images 3))) some
takes_second h body (Bad at) images lower some = absurd lower
takes_second h body (Shown i c) images lower some =
    let no : nat_lt h.generation i.generation ≡ false = grind (arith, nat_tests, lower) in
    ap (λ (b : Bool). if b then Taken 0 i c (log_of (images 2)) else Taken 1 h body (log_of (images 3))) no

pub opens : (slot : ℕ) (h : Head) (body : List ℕ) (log : Log) (images : ℕ → List ℕ) → slot < 2
    → slot_of slot (images slot) ≡ Shown h body → IsBehind (1 - slot) h.generation (images (1 - slot)) → log_of (images (2 + slot)) ≡ log
    → opened_of images ≡ Taken slot h body log
opens zero h body log images is shown behind l =
    ap (λ (s : Slot). by_slots s (slot_of 1 (images 1)) images) shown ∙ takes_first h body
    (slot_of 1 (images 1)) images behind.1 behind.0 ∙ ap (λ (x : Log). Taken 0 h body x) l
opens (suc zero) h body log images is shown behind l =
    ap (λ (s : Slot). by_slots (slot_of 0 (images 0)) s images) shown ∙ takes_second h body
    (slot_of 0 (images 0)) images behind.1 behind.0 ∙ ap (λ (x : Log). Taken 1 h body x) l
opens (suc (suc n)) h body log images is shown behind l = absurd (omega arith)

pub shut_behind : (slot generation : ℕ) (image : List ℕ) → IsShut image → IsBehind slot generation image
shut_behind slot generation [] shut = absurd shut
shut_behind slot generation (g ∷ image) shut = (omega arith, subst (IsLower generation) (sym (closed_slot slot (g ∷ image) shut)) tt)

module _ (slot : ℕ) (h : Head) (body : List ℕ) (log : Log) (is : slot < 2) where
  abbrev pub Opens : (ℕ → List ℕ) → Type 0
  Opens images = opened_of images ≡ Taken slot h body log

  -- calls on the other slot that leave it behind
  pub other_slot : (a b : History) (P : List ℕ → Type 0) → Holds a slot h body log → Leaves a b (1 - slot) P
      → ((image : List ℕ) → P image → IsBehind (1 - slot) h.generation image) → LeavesAll a b Opens
  other_slot a b P holds all behind =
      leaves_file a b (1 - slot) P Opens (omega (arith, is)) all (λ images own others. opens slot h body log images is
      (from_each (current a slot) _ (images slot) holds.shown (others slot (omega (arith, is)) (λ e. absurd (omega (arith, e, is)))))
      (behind (images (1 - slot)) own)
      (from_each (current a (2 + slot)) _ (images (2 + slot)) holds.records
      (others (2 + slot) (omega (arith, is)) (λ e. absurd (omega (arith, e, is))))))

  pub other_slot_holds : (a b : History) (P : List ℕ → Type 0) → Holds a slot h body log → Leaves a b (1 - slot) P
      → ((image : List ℕ) → P image → IsBehind (1 - slot) h.generation image) → Holds b slot h body log
  other_slot_holds a b P holds all behind = record {
    shown = subst (λ (t : Option File). EachImage t (λ image. slot_of slot image ≡ Shown h body))
        (sym (other_stays a b (1 - slot) _ all slot (λ e. absurd (omega (arith, e, is))))) holds.shown;
    behind = each_more (current b (1 - slot)) P (IsBehind (1 - slot) h.generation) behind (all.each b.now all.later (omega arith));
    records =
        subst (λ (t : Option File). EachImage t (λ image. log_of image ≡ log))
        (sym (other_stays a b (1 - slot) _ all (2 + slot) (λ e. absurd (omega (arith, e, is))))) holds.records;
  }

  -- calls on the other log
  pub other_log : (a b : History) (P : List ℕ → Type 0) → Holds a slot h body log → Leaves a b (2 + (1 - slot)) P → LeavesAll a b Opens
  other_log a b P holds all =
      leaves_file a b (2 + (1 - slot)) P Opens (omega (arith, is)) all (λ images own others. opens slot h body log images is
      (from_each (current a slot) _ (images slot) holds.shown (others slot (omega (arith, is)) (λ e. absurd (omega (arith, e, is)))))
      (from_each (current a (1 - slot)) _ (images (1 - slot)) holds.behind
      (others (1 - slot) (omega (arith, is)) (λ e. absurd (omega (arith, e, is)))))
      (from_each (current a (2 + slot)) _ (images (2 + slot)) holds.records
      (others (2 + slot) (omega (arith, is)) (λ e. absurd (omega (arith, e, is))))))

  pub other_log_holds : (a b : History) (P : List ℕ → Type 0) → Holds a slot h body log → Leaves a b (2 + (1 - slot)) P
      → Holds b slot h body log
  other_log_holds a b P holds all = record {
    shown = subst (λ (t : Option File). EachImage t (λ image. slot_of slot image ≡ Shown h body))
        (sym (other_stays a b (2 + (1 - slot)) _ all slot (λ e. absurd (omega (arith, e, is))))) holds.shown;
    behind = subst (λ (t : Option File). EachImage t (IsBehind (1 - slot) h.generation))
        (sym (other_stays a b (2 + (1 - slot)) _ all (1 - slot) (λ e. absurd (omega (arith, e, is))))) holds.behind;
    records =
        subst (λ (t : Option File). EachImage t (λ image. log_of image ≡ log))
        (sym (other_stays a b (2 + (1 - slot)) _ all (2 + slot) (λ e. absurd (omega (arith, e, is))))) holds.records;
  }

lower_longer : (slot generation : ℕ) (before more : List ℕ) (s : Slot) → slot_of slot before ≡ s → IsLower generation s
    → 0 < length before → IsLower generation (slot_of slot (before ++ more))
lower_longer slot generation [] more s e lower some = absurd (omega (arith, some))
lower_longer slot generation (g ∷ before) more (Bad at) e lower some = absurd lower
lower_longer slot generation (g ∷ before) more (Shown h body) e lower some =
    subst (IsLower generation) (sym (longer_shown slot (g ∷ before) more h body e)) lower
lower_longer slot generation (g ∷ before) more Shut e lower some = subst (IsLower generation) (sym (longer_shut slot g before more e)) tt

longer : (slot generation : ℕ) (before more : List ℕ) → IsBehind slot generation before → IsBehind slot generation (before ++ more)
longer slot generation before more behind = (
  omega (arith, length-append before more, behind.0),
  lower_longer slot generation before more
      (slot_of slot before) refl behind.1 behind.0,
)

-- an image that begins with one that is behind
same_behind : (slot generation : ℕ) (before image : List ℕ) → take (length before) image ≡ before
    → IsBehind slot generation before → IsBehind slot generation image
same_behind slot generation before image front behind =
    let split : image ≡ before ++ drop (length before) image =
    sym (take-append-drop (length before) image) ∙ ap (λ (l : List ℕ). l ++ drop (length before) image) front in
    subst (IsBehind slot generation) (sym split) (longer slot generation before (drop (length before) image) behind)

pub shut_or_same : (told : Option File) (slot generation : ℕ) (image : List ℕ)
    → EachImage told (IsBehind slot generation) → IsShutOrSame told image → IsBehind slot generation image
shut_or_same told slot generation image each (inl shut) = shut_behind slot generation image shut
shut_or_same told slot generation image each (inr same) =
    same_behind slot generation same.0 image same.2 (from_each told _ same.0 each same.1)

nonempty : (slot : ℕ) (image : List ℕ) (h : Head) (body : List ℕ) → slot_of slot image ≡ Shown h body → 0 < length image
nonempty slot [] h body e = absurd (cc e)
nonempty slot (g ∷ image) h body e = omega arith

-- what is shown is behind what has a higher generation
pub shown_behind : (slot generation : ℕ) (image : List ℕ) (h : Head) (body : List ℕ) → slot_of slot image ≡ Shown h body
    → h.generation < generation → IsBehind slot generation image
shown_behind slot generation image h body e lower = (nonempty slot image h body e, subst (IsLower generation) (sym e) lower)

no_records : (payloads : List Payload) → length payloads ≡ 0 → payloads ≡ []
no_records [] e = refl
no_records (p ∷ payloads) e = absurd (omega (arith, e))

pub empty_log : (image : List ℕ) → EndsAt image 0 0 → log_of image ≡ Ends [] 0
empty_log image ends = ends.1 ∙ ap (λ (ps : List Payload). Ends ps 0) (no_records ends.0 ends.2)

module _ (slot : ℕ) (head : Head) (body : List ℕ) (sound : IsSound slot head) (small : length body < 256 ^ 8)
    (was : Option File) (reads : IfSome was (λ f. IsImage f f.seen)) (shut : EachImage was IsShut) where
  some_in : (bytes : List ℕ) → IsShut bytes → 0 < length bytes
  some_in [] s = absurd s
  some_in (g ∷ bytes) s = omega arith

  abbrev pub after_lay : Option File
  after_lay = option_map (λ f. untouched (laid head body f.seen)) was

  -- an image that begins with what was laid, its gate open
  pub begins_laid : (before image : List ℕ) → HasImage after_lay before → take (length (opened before)) image
      ≡ opened before → slot_of slot image ≡ Shown head body
  begins_laid before image has front = go was reads shut has
    where
      go : (t : Option File) → IfSome t (λ f. IsImage f f.seen) → EachImage t IsShut
          → HasImage (option_map (λ f. untouched (laid head body f.seen)) t) before → slot_of slot image ≡ Shown head body
      go None r s h = absurd h
      go (Some f) r s h =
          let same : before ≡ laid head body f.seen = untouched_image (laid head body f.seen) before h in
          laid_shows slot head body f.seen image sound small (some_in f.seen (s f.seen r))
          (subst (λ (l : List ℕ). take (length (opened l)) image ≡ opened l) same front)

  all : (l : List ℕ) → take (length l) l ≡ l
  all [] = refl
  all (b ∷ l) = ap (λ (x : List ℕ). b ∷ x) (all l)

  pub shown_laid : EachImage (option_map (λ f. untouched (opened f.seen)) after_lay) (λ image. slot_of slot image ≡ Shown head body)
  shown_laid = go was reads shut
    where
      go : (t : Option File) → IfSome t (λ f. IsImage f f.seen) → EachImage t IsShut
          → EachImage
          (option_map (λ f. untouched (opened f.seen)) (option_map (λ f. untouched (laid head body f.seen)) t))
          (λ image. slot_of slot image ≡ Shown head body)
      go None r s = tt
      go (Some f) r s = λ image is.
          let same : image ≡ opened (laid head body f.seen) = untouched_image (opened (laid head body f.seen)) image is in
          laid_shows slot head body f.seen image sound small (some_in f.seen (s f.seen r))
          (subst (λ (l : List ℕ). take (length (opened (laid head body f.seen))) l ≡ opened (laid head body f.seen))
          (sym same) (all (opened (laid head body f.seen))))

-- every image that a stop now may leave reads as what the disk holds
pub holds_opens : (disk : History) (slot : ℕ) (h : Head) (body : List ℕ) (log : Log) → slot < 2 → Holds disk slot h body log
    → (images : ℕ → List ℕ) → MayLeave disk disk.now images → opened_of images ≡ Taken slot h body log
holds_opens disk slot h body log is holds images left =
    opens slot h body log images is
    (from_each (current disk slot) _ (images slot) holds.shown (left slot (omega (arith, is))))
    (from_each (current disk (1 - slot)) _ (images (1 - slot)) holds.behind (left (1 - slot) (omega (arith, is))))
    (from_each (current disk (2 + slot)) _ (images (2 + slot)) holds.records (left (2 + slot) (omega (arith, is))))
