-- From looks at one file each to what a store has.
use Rattle.std.proofs.Common.{◌≡◌, ◌≢◌, ℕ, zero, suc, ◌+◌, ◌-◌, ◌<◌, ◌≤◌, List, [], ◌∷◌, length, refl, sym, ◌∙◌, subst, ap, arith, inl, inr, Option, None, Some}
use Rattle.std.proofs.Common.{Bool, true, false}
use Rattle.std.specs.Prelude.{IfSome, nat_lt, ◌%◌, ◌==◌, not, ◌||◌, if◌then◌else◌}
use Rattle.std.proofs.lemmas.Bool.{cases_lt}
use Rattle.std.proofs.lemmas.Bool.Decides.{nat_tests}
use Rattle.disk_model.specs.Files.{File}
use Rattle.disk_model.specs.Histories.{History, current, EachImage, HasImage, IsStable, MayLeave, Still, LeavesAll}
use Rattle.disk_model.specs.declared.refusals.LogRefused.{LogRefused}
use Rattle.disk_model.specs.declared.refusals.LogRefused.TheVariants as of_file
use Rattle.disk_model.proofs.Spans.{each_more, still_now}
use Rattle.input_log.specs.Layout.{Log, Ends, log_of}
use Rattle.input_log.specs.declared.logs.Payload.{Payload}
use Rattle.checkpoint.specs.declared.heads.Head.{Head}
use Rattle.checkpoint.specs.Damage.{IsSound}
use Rattle.checkpoint.specs.Heads.{fields_for}
use Rattle.checkpoint.specs.Slots.{Slot, Shut, Shown, Bad, slot_of, is_open, IsHead}
use Rattle.checkpoint.specs.Causes.{LookCause}
use Rattle.checkpoint.proofs.Showing.{clear}
use Rattle.store_files.specs.declared.refusals.StoreRefused.{StoreRefused}
use Rattle.store_files.specs.declared.refusals.StoreRefused.TheVariants as of_store
use Rattle.store_files.specs.Openings.{by_slots, beside, opened_of, NoGate, Damage, Taken}
use Rattle.store_files.specs.Holdings.{IsLower, IsBehind, Holds, IsSettled}
use Rattle.store_files.specs.Stores.{Stored, slot_in, Rests}
use Rattle.store_files.proofs.Syncs.{rose_later}
use Rattle.store_files.specs.Attachments.{as_store, pick_of, Heads, Chosen, TakeCause, IsTaken}

-- what was left before is left still
pub still_leaves : (a b c : History) → LeavesAll a b (MayLeave a a.now) → Still b c → LeavesAll a c (MayLeave a a.now)
still_leaves a b c first still = record {
  later = omega (arith, first.later, still.later);
  past = λ moment other le. still.past moment other (omega (arith, le, first.later)) ∙ first.past moment other le;
  each = λ moment from to images left. elim (cases_lt b.now moment) [
    | inl after ↦ first.each b.now first.later (omega arith) images
        (λ file is. subst (λ (t : Option File). HasImage t (images file)) (still.same moment file (omega (arith, after)) to) (left file is))
    | inr until ↦ first.each moment from until images
        (λ file is. subst (λ (t : Option File). HasImage t (images file)) (still.past moment file until) (left file is))
  ];
  faults = omega (arith, first.faults, still.faults);
}

pub still_left : (b c : History) → Still b c → (images : ℕ → List ℕ) → MayLeave c c.now images → MayLeave b b.now images
still_left b c still images left =
    λ file is. subst (λ (t : Option File). HasImage t (images file)) (still_now b c still file) (left file is)

pub still_settled : (b c : History) → Still b c → IsSettled b → IsSettled c
still_settled b c still settled file low = subst IsStable (sym (still_now b c still file)) (settled file low)

-- ---- what a read gives is the only image

pub seen_image : (t : Option File) (Q : List ℕ → Type 0) (image : List ℕ) → IsStable t → IfSome t (λ f. Q f.seen)
    → HasImage t image → Q image
seen_image None Q image stable q has = absurd has
seen_image (Some f) Q image stable q has = subst Q (sym (stable image has)) q

pub seen_each : (t : Option File) (Q : List ℕ → Type 0) → IsStable t → IfSome t (λ f. Q f.seen) → EachImage t Q
seen_each None Q stable q = tt
seen_each (Some f) Q stable q = λ image has. subst Q (sym (stable image has)) q

-- ---- the heads of both slots

pub take_later : (a b c : History) → a.faults ≤ b.faults → (e : StoreRefused) → TakeCause b c e → TakeCause a c e
take_later a b c le of_store.Memory cause = cause
take_later a b c le of_store.DiskFault cause = rose_later a.faults b.faults c.faults le cause
take_later a b c le of_store.NoStore cause = cause
take_later a b c le (of_store.Damaged file at) cause = cause
take_later a b c le of_store.Exists cause = cause
take_later a b c le (of_store.Closed faults) cause = cause

module _ (a : History) (settled : IsSettled a) where
  pub first_cause : (b : History) → Still a b → (r : LogRefused) → LookCause a b 0 r → TakeCause a b (as_store r)
  first_cause b still of_file.Memory cause = cause
  first_cause b still of_file.DiskFault cause = cause
  first_cause b still (of_file.Damaged file at) cause = λ images left.
      let was = still_left a b still images left in
      let bad : slot_of 0 (images 0) ≡ Bad at =
      seen_image (current a 0) (λ l. slot_of 0 l ≡ Bad at) (images 0) (settled 0 (omega arith)) cause.1 (was 0 (omega arith)) in
      ap (λ (s : Slot). by_slots s (slot_of 1 (images 1)) images) bad ∙ ap (λ (n : ℕ). Damage n at) (sym cause.0)

  second_bad : (first : Option Head) (s : Slot) (at : ℕ) (images : ℕ → List ℕ) → IsHead first s → by_slots s (Bad at) images ≡ Damage 1 at
  second_bad None s at images is = ap (λ (x : Slot). by_slots x (Bad at) images) is
  second_bad (Some h) s at images is = ap (λ (x : Slot). by_slots x (Bad at) images) is.1

  pub second_cause : (b c : History) (first : Option Head) → IfSome (current a 0) (λ f. IsHead first (slot_of 0 f.seen))
      → Still a b → Still a c
      → (r : LogRefused) → LookCause b c 1 r → TakeCause a c (as_store r)
  second_cause b c first head begun still of_file.Memory cause = cause
  second_cause b c first head begun still of_file.DiskFault cause = rose_later a.faults b.faults c.faults begun.faults cause
  second_cause b c first head begun still (of_file.Damaged file at) cause = λ images left.
      let was = still_left a c still images left in
      let told = subst (λ (t : Option File). IfSome t (λ f. slot_of 1 f.seen ≡ Bad at)) (still_now a b begun 1) cause.1 in
      let bad : slot_of 1 (images 1) ≡ Bad at =
      seen_image (current a 1) (λ l. slot_of 1 l ≡ Bad at) (images 1) (settled 1 (omega arith)) told (was 1 (omega arith)) in
      let own = seen_image (current a 0) (λ l. IsHead first (slot_of 0 l)) (images 0) (settled 0 (omega arith)) head
      (was 0 (omega arith)) in
      ap (λ (s : Slot). by_slots (slot_of 0 (images 0)) s images) bad ∙ second_bad first (slot_of 0 (images 0)) at images own
      ∙ ap (λ (n : ℕ). Damage n at) (sym cause.0)

-- a sound head has the parity of its slot
pub parity : (slot : ℕ) (h : Head) → IsSound slot h → h.generation % 2 ≡ slot
parity slot h sound =
    let no = (clear slot (fields_for h 0) sound).generation in
    grind (arith, nat_tests, middle_or (h.generation == 0) (h.generation % 2 == slot) (nat_lt (h.batches + h.format) h.generation) no)
  where
    middle_or : (a b c : Bool) → a || not b || c ≡ false → b ≡ true
    middle_or false true c e = refl
    middle_or false false c e = absurd (cc e)
    middle_or true b c e = absurd (cc e)

pub record Picked (a : History) (slot : ℕ) (head : Head) : Type 0 where
  pub low : slot < 2
  pub sound : IsSound slot head
  pub shown : IfSome (current a slot) (λ f. IsHead (Some head) (slot_of slot f.seen))
  pub lower : IfSome (current a (1 - slot)) (λ f. IsLower head.generation (slot_of (1 - slot) f.seen))

lower_than : (t : Option File) (slot generation : ℕ) (other : Option Head)
    → IfSome t (λ f. IsHead other (slot_of slot f.seen)) → ((h : Head) → other ≡ Some h → h.generation < generation)
    → IfSome t (λ f. IsLower generation (slot_of slot f.seen))
lower_than None slot generation other reads less = tt
lower_than (Some f) slot generation None reads less = subst (IsLower generation) (sym reads) tt
lower_than (Some f) slot generation (Some h) reads less = subst (IsLower generation) (sym reads.1) (less h refl)

to_picked : (a : History) (s t : ℕ) (h i : Head) → ◌≡◌ {A = ℕ × Head} (s, h) (t, i) → Picked a s h → Picked a t i
to_picked a s t h i e p = subst (λ (x : ℕ × Head). Picked a x.0 x.1) e p

pub picks : (a : History) (first second : Option Head) (slot : ℕ) (head : Head) → Heads a first second
    → pick_of first second ≡ Some (slot, head) → Picked a slot head
picks a None None slot head hs e = absurd (cc e)
picks a (Some h) None slot head hs e =
    to_picked a 0 slot h head (cc e)
    (record {
      low = omega arith;
      sound = hs.sound_first;
      shown = hs.reads_first;
      lower = lower_than (current a 1) 1 h.generation None hs.reads_second (λ i x. absurd (cc x));
    })
picks a None (Some i) slot head hs e =
    to_picked a 1 slot i head (cc e)
    (record {
      low = omega arith;
      sound = hs.sound_second;
      shown = hs.reads_second;
      lower = lower_than (current a 0) 0 i.generation None hs.reads_first (λ h x. absurd (cc x));
    })
picks a (Some h) (Some i) slot head hs e = elim (cases_lt i.generation h.generation) [
  | inl less ↦
      let yes : nat_lt i.generation h.generation ≡ true = grind (arith, nat_tests, less) in
      let same : ◌≡◌ {A = Option (ℕ × Head)} (Some (0, h)) (Some (slot, head)) =
      sym (ap (λ (b : Bool). if◌then◌else◌ {A = Option (ℕ × Head)} b (Some (0, h)) (Some (1, i))) yes) ∙ e in
      to_picked a 0 slot h head (cc same)
      (record {
        low = omega arith;
        sound = hs.sound_first;
        shown = hs.reads_first;
        lower = lower_than (current a 1) 1 h.generation (Some i) hs.reads_second
            (λ x is. let own : i ≡ x = cc is in subst (λ (y : Head). y.generation < h.generation) own less);
      })
  | inr more ↦
      let no : nat_lt i.generation h.generation ≡ false = grind (arith, nat_tests, more) in
      let same : ◌≡◌ {A = Option (ℕ × Head)} (Some (1, i)) (Some (slot, head)) =
      sym (ap (λ (b : Bool). if◌then◌else◌ {A = Option (ℕ × Head)} b (Some (0, h)) (Some (1, i))) no) ∙ e in
      let even : h.generation % 2 ≡ 0 = parity 0 h hs.sound_first in
      let odd : i.generation % 2 ≡ 1 = parity 1 i hs.sound_second in
      let less : h.generation < i.generation = omega (arith, more, even, odd) in
      to_picked a 1 slot i head (cc same)
      (record {
        low = omega arith;
        sound = hs.sound_second;
        shown = hs.reads_second;
        lower = lower_than (current a 0) 0 i.generation (Some h) hs.reads_first
            (λ x is. let own : h ≡ x = cc is in subst (λ (y : Head). y.generation < i.generation) own less);
      })
]

behind_both : (t : Option File) (slot generation len : ℕ) → IsStable t → IfSome t (λ f. len ≡ length f.seen) → len ≢ 0
    → IfSome t (λ f. IsLower generation (slot_of slot f.seen)) → EachImage t (IsBehind slot generation)
behind_both None slot generation len stable size some lower = tt
behind_both (Some f) slot generation len stable size some lower =
    λ image has. subst (IsBehind slot generation) (sym (stable image has)) (omega (arith, size, some), lower)

pub chooses : (a : History) (slot : ℕ) (head : Head) (len : ℕ) → IsSettled a → Picked a slot head
    → IfSome (current a (1 - slot)) (λ f. len ≡ length f.seen) → len ≢ 0 → Chosen a slot head
chooses a slot head len settled p size some =
    record {
      low = p.low;
      sound = p.sound;
      shown = p.shown;
      behind = behind_both (current a (1 - slot)) (1 - slot) head.generation len
          (settled (1 - slot) (omega (arith, p.low))) size some p.lower;
    }

no_gates : (images : ℕ → List ℕ) → slot_of 0 (images 0) ≡ Shut → slot_of 1 (images 1) ≡ Shut → opened_of images ≡ NoGate
no_gates images first second =
    ap (λ (s : Slot). by_slots s (slot_of 1 (images 1)) images) first ∙ ap (λ (s : Slot). by_slots Shut s images) second

pub picks_none : (a c : History) (first second : Option Head) → IsSettled a → Still a c → Heads a first second → pick_of first second ≡ None
    → (images : ℕ → List ℕ) → MayLeave c c.now images → opened_of images ≡ NoGate
picks_none a c (Some h) None settled still hs e images left = absurd (cc e)
picks_none a c None (Some i) settled still hs e images left = absurd (cc e)
picks_none a c (Some h) (Some i) settled still hs e images left = absurd (not_none (nat_lt i.generation h.generation) e)
  where
    not_none : (b : Bool) → if◌then◌else◌ {A = Option (ℕ × Head)} b (Some (0, h)) (Some (1, i)) ≡ None → ⊥
    not_none true x = absurd (cc x)
    not_none false x = absurd (cc x)
picks_none a c None None settled still hs e images left =
    let was = still_left a c still images left in
    no_gates images
    (seen_image (current a 0) (λ l. slot_of 0 l ≡ Shut) (images 0) (settled 0 (omega arith)) hs.reads_first (was 0 (omega arith)))
    (seen_image (current a 1) (λ l. slot_of 1 l ≡ Shut) (images 1) (settled 1 (omega arith)) hs.reads_second (was 1 (omega arith)))

other_empty : (slot : ℕ) (h : Head) (body : List ℕ) (images : ℕ → List ℕ) → slot < 2
    → slot_of slot (images slot) ≡ Shown h body → images (1 - slot) ≡ [] → opened_of images ≡ Damage (1 - slot) 0
other_empty zero h body images low shown empty =
    ap (λ (s : Slot). (by_slots s (slot_of 1 (images 1)) images)) shown ∙ ap
    (λ (l : List ℕ). (by_slots (Shown h body) (slot_of 1 l) (λ n. images n))) empty ∙ ap
    (λ (l : List ℕ). (beside 1 l (Taken 0 h body (log_of (images 2))))) empty
other_empty (suc zero) h body images low shown empty =
    ap (λ (s : Slot). (by_slots (slot_of 0 (images 0)) s images)) shown ∙ ap
    (λ (l : List ℕ). (by_slots (slot_of 0 l) (Shown h body) (λ n. images n))) empty ∙ ap
    (λ (l : List ℕ). (beside 0 l (Taken 1 h body (log_of (images 3))))) empty
other_empty (suc (suc n)) h body images low shown empty = absurd (omega (arith, low))

empty_list : (l : List ℕ) → 0 ≡ length l → l ≡ []
empty_list [] e = refl
empty_list (x ∷ l) e = absurd (omega (arith, e))

pub empty_other : (a c : History) (slot : ℕ) (head : Head) → IsSettled a → Still a c → Picked a slot head
    → IfSome (current a (1 - slot)) (λ f. 0 ≡ length f.seen)
    → (images : ℕ → List ℕ) → MayLeave c c.now images → opened_of images ≡ Damage (1 - slot) 0
empty_other a c slot head settled still p size images left =
    let was = still_left a c still images left in
    let own = seen_image (current a slot) (λ l. IsHead (Some head) (slot_of slot l)) (images slot)
    (settled slot (omega (arith, p.low))) p.shown (was slot (omega (arith, p.low))) in
    let none : 0 ≡ length (images (1 - slot)) =
    seen_image (current a (1 - slot)) (λ l. 0 ≡ length l) (images (1 - slot))
    (settled (1 - slot) (omega (arith, p.low))) size (was (1 - slot) (omega (arith, p.low))) in
    other_empty slot head own.0 images p.low own.1 (empty_list (images (1 - slot)) none)

module _ (a : History) (settled : IsSettled a) (slot : ℕ) (head : Head) (chosen : Chosen a slot head) where
  pub shown_in : (images : ℕ → List ℕ) → MayLeave a a.now images → IsHead (Some head) (slot_of slot (images slot))
  shown_in images left = seen_image (current a slot) (λ l. IsHead (Some head) (slot_of slot l)) (images slot)
      (settled slot (omega (arith, chosen.low))) chosen.shown (left slot (omega (arith, chosen.low)))

  same_head : (t : Option File) (h : Head) (body : List ℕ) → IfSome t (λ f. IsHead (Some head) (slot_of slot f.seen))
      → IfSome t (λ f. slot_of slot f.seen ≡ Shown h body) → IfSome t (λ f. slot_of slot f.seen ≡ Shown head body)
  same_head None h body own loaded = tt
  same_head (Some f) h body own loaded = let e : Shown h body ≡ Shown head own.0 =
      sym loaded ∙ own.1 in let same : h ≡ head = cc e in loaded ∙ ap (λ (x : Head). Shown x body) same

  pub contents_hold : (b : History) (h : Head) (body : List ℕ) (log : Log)
      → IfSome (current a slot) (λ f. slot_of slot f.seen ≡ Shown h body) → current b (2 + slot) ≡ current a (2 + slot)
      → IfSome (current b (2 + slot)) (λ f. log_of f.seen ≡ log) → Holds a slot head body log
  contents_hold b h body log loaded same found = record {
    shown = seen_each (current a slot) (λ l. slot_of slot l ≡ Shown head body)
        (settled slot (omega (arith, chosen.low))) (same_head (current a slot) h body chosen.shown loaded);
    behind = chosen.behind;
    records = seen_each (current a (2 + slot)) (λ l. log_of l ≡ log) (settled (2 + slot) (omega (arith, chosen.low)))
        (subst (λ (t : Option File). IfSome t (λ f. log_of f.seen ≡ log)) same found);
  }

pub chosen_parity : (b : History) (slot : ℕ) (head : Head) → Chosen b slot head → head.generation % 2 ≡ slot
chosen_parity b slot head chosen = parity slot head chosen.sound

still_holds : (b c : History) (slot : ℕ) (head : Head) (body : List ℕ) (log : Log) → Still b c
    → Holds b slot head body log → Holds c slot head body log
still_holds b c slot head body log still holds = record {
  shown = subst (λ (t : Option File). EachImage t (λ image. slot_of slot image ≡ Shown head body))
      (sym (still_now b c still slot)) holds.shown;
  behind = subst (λ (t : Option File). EachImage t (IsBehind (1 - slot) head.generation))
      (sym (still_now b c still (1 - slot))) holds.behind;
  records = subst (λ (t : Option File). EachImage t (λ image. log_of image ≡ log)) (sym (still_now b c still (2 + slot))) holds.records;
}

pub attached_holds : (b c : History) (slot : ℕ) (head : Head) (body : List ℕ) (log : Log) → Still b c
    → Chosen b slot head → Holds b slot head body log → Holds c (head.generation % 2) head body log
attached_holds b c slot head body log still chosen holds =
    subst (λ (n : ℕ). Holds c n head body log) (sym (chosen_parity b slot head chosen)) (still_holds b c slot head body log still holds)

pub attached_rests : (b c : History) (s : Stored) (slot : ℕ) (body : List ℕ) (payloads : List Payload) → Still b c
    → IsSettled b → Chosen b slot s.head → Holds b slot s.head body (Ends payloads s.at) → s.batches ≡ length payloads → Rests c s
attached_rests b c s slot body payloads still settled chosen holds count =
    let now = attached_holds b c slot s.head body (Ends payloads s.at) still chosen holds in record {
      settled = λ file low. subst IsStable (sym (still_now b c still file)) (settled file low);
      sound = subst (λ (n : ℕ). IsSound n s.head) (sym (chosen_parity b slot s.head chosen)) chosen.sound;
      body = body;
      log = Ends payloads s.at;
      holds = now;
      ends = each_more (current c (2 + slot_in s)) _ _ (λ image e. (payloads, e, sym count)) now.records;
    }

pub still_chosen : (b c : History) (slot : ℕ) (head : Head) → Still b c → Chosen b slot head → Chosen c slot head
still_chosen b c slot head still chosen = record {
  low = chosen.low;
  sound = chosen.sound;
  shown = subst (λ (t : Option File). IfSome t (λ f. IsHead (Some head) (slot_of slot f.seen)))
      (sym (still_now b c still slot)) chosen.shown;
  behind = subst (λ (t : Option File). EachImage t (IsBehind (1 - slot) head.generation))
      (sym (still_now b c still (1 - slot))) chosen.behind;
}

-- ---- whether a gate is tells

gate_is : (told : Option File) (shown answer : Bool) → IfSome told (λ f. shown ≡ is_open f.seen) → shown ≡ answer → IfSome told (λ f. is_open f.seen ≡ answer)
gate_is None shown answer tells is = tt
gate_is (Some f) shown answer tells is = sym tells ∙ is

pub taken_first : (a : History) (shown : Bool) → IfSome (current a 0) (λ f. shown ≡ is_open f.seen) → shown ≡ true → IsTaken a true
taken_first a shown tells is = inl (gate_is (current a 0) shown true tells is)

pub taken_second : (a b : History) (first second : Bool) → Still a b → IfSome (current a 0) (λ f. first ≡ is_open f.seen) → first ≡ false
    → IfSome (current b 1) (λ f. second ≡ is_open f.seen) → IsTaken a second
taken_second a b first true still tells is other =
    inr (gate_is (current a 1) true true (subst (λ (t : Option File). IfSome t (λ f. true ≡ is_open f.seen)) (still_now a b still 1) other) refl)
taken_second a b first false still tells is other = (
  gate_is (current a 0) first false tells is,
  gate_is (current a 1) false false (subst (λ (t : Option File). IfSome t (λ f. false ≡ is_open f.seen)) (still_now a b still 1) other) refl,
)
