-- What of a slot a torn write may leave.
use Rattle.std.proofs.Common.{◌≡◌, ◌≢◌, ℕ, zero, suc, ◌+◌, ◌<◌, ◌≤◌, List, [], ◌∷◌, length, take, drop, get_or, Bool, true, false, refl, sym, ◌∙◌, subst, ap, arith, inl, inr, Option, None, Some, option_map}
use Rattle.std.specs.Prelude.{nat_le, nat_lt, ◌&&◌, ◌||◌, IfSome}
use Rattle.std.proofs.lemmas.Bool.{cases_eq}
use Rattle.std.proofs.lemmas.Bool.Decides.{nat_tests}
use Rattle.std.proofs.lemmas.List.{same_lists, get_or_default, take_all, get_or-take, drop_more, length-take-le}
use Rattle.disk_model.specs.Files.{File, IsImage, covers, loosened, untouched, put, wrote}
use Rattle.disk_model.specs.Histories.{History, current, EachImage, HasImage, IsStable, MayLose, Acts, Leaves}
use Rattle.disk_model.specs.Readings.{wrote_reads}
use Rattle.disk_model.proofs.Images.{untouched_image}
use Rattle.disk_model.proofs.Spans.{each_more, within_call, within_then, within_more}
use Rattle.disk_model.proofs.Torn.{put_here, put_length, torn_front}
use Rattle.checkpoint.specs.declared.heads.Head.{Head}
use Rattle.checkpoint.specs.Heads.{head_bytes}
use Rattle.checkpoint.specs.Slots.{opened, closed}
use Rattle.checkpoint.specs.Gates.{IsShut, IsShutOrSame, IsShutOrOpened}

-- ---- the byte of a gate

some_bytes : (bytes : List ℕ) → IsShut bytes → 0 < length bytes
some_bytes [] shut = absurd shut
some_bytes (gate ∷ rest) shut = omega arith

pub some_of_shut : (told : Option File) → EachImage told IsShut → EachImage told (λ image. 0 < length image)
some_of_shut told shut = each_more told IsShut (λ image. 0 < length image) some_bytes shut

shut_by : (bytes : List ℕ) → 0 < length bytes → get_or bytes 0 0 ≢ 1 → IsShut bytes
shut_by [] some shut = absurd (omega arith)
shut_by (gate ∷ rest) some shut = shut

same_gate : (before bytes : List ℕ) (n : ℕ) → 0 < n → take n before ≡ take n bytes → IsShut before → IsShut bytes
same_gate [] bytes n some same shut = absurd shut
same_gate (b ∷ before) bytes zero some same shut = absurd (omega arith)
same_gate (b ∷ before) [] (suc n) some same shut = absurd (cc same)
same_gate (b ∷ before) (c ∷ bytes) (suc n) some same shut = let gate : b ≡ c = cc same in λ is_open. shut (gate ∙ is_open)

length_opened : (bytes : List ℕ) → 0 < length bytes → length (opened bytes) ≡ length bytes
length_opened [] some = absurd (omega arith)
length_opened (gate ∷ rest) some = refl

opened_byte : (bytes : List ℕ) (k : ℕ) → 0 < k → k < length bytes → get_or (opened bytes) k 0 ≡ get_or bytes k 0
opened_byte [] k behind within = absurd (omega arith)
opened_byte (gate ∷ rest) zero behind within = absurd (omega arith)
opened_byte (gate ∷ rest) (suc k) behind within = refl

opened_again : (bytes : List ℕ) → get_or bytes 0 0 ≡ 1 → opened bytes ≡ bytes
opened_again [] is_open = absurd (omega arith)
opened_again (gate ∷ rest) is_open = ap (λ (g : ℕ). g ∷ rest) (sym is_open)

-- the gate that was read
pub gate_is : (told : Option File) (buf : List ℕ) → IfSome told (λ f. buf ≡ take 1 (drop 0 f.seen)) → get_or buf 0 0 ≡ 1
    → IfSome told (λ f. get_or f.seen 0 0 ≡ 1)
gate_is None buf read is_open = tt
gate_is (Some f) buf read is_open = sym (first_of f.seen (ap (λ (l : List ℕ). get_or l 0 0) read)) ∙ is_open
  where
    first_of : (bytes : List ℕ) → get_or buf 0 0 ≡ get_or (take 1 (drop 0 bytes)) 0 0 → get_or buf 0 0 ≡ get_or bytes 0 0
    first_of [] same = same
    first_of (gate ∷ rest) same = same

-- a closed gate was written
pub shut_written : (told : Option File) → EachImage (option_map (λ f. untouched (closed f.seen)) told) IsShut
shut_written None = tt
shut_written (Some f) = λ image is. subst IsShut (sym (untouched_image (closed f.seen) image is)) (λ no. absurd (cc no))

-- ---- a torn write of a gate, where what a read gives is the only image

-- what the last sync made stable is an image
synced_image : (f : File) → IsImage f f.synced
synced_image f = record { long = omega arith; short = λ none. omega arith; stays = λ place within free. refl }

-- one byte of a range that was written may be any
loose_byte : (f : File) (k byte : ℕ) → k < length f.synced → covers f.loose k ≡ true → IsImage f (put f.synced k (byte ∷ []))
loose_byte f k byte within loose =
    let base : File = record { seen = f.synced; synced = f.synced; loose = f.loose } in
    let made = wrote_reads base k (byte ∷ []) (record { long = omega arith; short = λ none. omega arith; stays = λ place inside free. refl }) in record {
      long = made.long;
      short = λ none. let no : false ≡ true = sym (ap (λ (l : List (ℕ × ℕ)). covers l k) none) ∙ loose in absurd (cc no);
      stays = λ place inside free. elim (cases_eq place k) [
        | inl same ↦ let no : true ≡ false = sym loose ∙ ap (λ (p : ℕ). covers f.loose p) (sym same) ∙ free in absurd (cc no)
        | inr apart ↦
            let out : nat_le k place && nat_lt place (k + 1) ≡ false = grind (arith, nat_tests) in
            made.stays place inside (ap (λ (b : Bool). b || covers f.loose place) out ∙ free)
      ];
    }

module _ (f : File) (image : List ℕ) (stable : (i : List ℕ) → IsImage f i → i ≡ f.seen) (torn : IsImage (loosened 0 1 f) image) where
  same : f.synced ≡ f.seen
  same = stable f.synced (synced_image f)

  -- every other byte stays: one that might be another would make a second image
  other_byte : (k : ℕ) → 0 < k → k < length f.synced → get_or image k 0 ≡ get_or f.synced k 0
  other_byte k behind within = go (covers f.loose k) refl
    where
      go : (b : Bool) → covers f.loose k ≡ b → get_or image k 0 ≡ get_or f.synced k 0
      go false free =
          let out : nat_le 0 k && nat_lt k 1 ≡ false = grind (arith, nat_tests) in
          torn.stays k within (ap (λ (b : Bool). b || covers f.loose k) out ∙ free)
      go true loose =
          let byte : ℕ = get_or image k 0 in
          let made : put f.synced k (byte ∷ []) ≡ f.synced = stable _ (loose_byte f k byte within loose) ∙ sym same in
          let from : drop k (put f.synced k (byte ∷ [])) ≡ byte ∷ drop (k + 1) f.synced = put_here f.synced k (byte ∷ []) (omega arith) in
          let split : get_or f.synced k 0 ∷ drop (k + 1) f.synced ≡ byte ∷ drop (k + 1) f.synced = sym (drop_more f.synced k 0 within)
          ∙ ap (λ (l : List ℕ). drop k l) (sym made) ∙ from in
          sym (cc split)

  begins_open : 0 < length f.seen → get_or image 0 0 ≡ 1 → take (length (opened f.seen)) image ≡ opened f.seen
  begins_open some is_open =
      let size : length f.synced ≡ length f.seen = ap (λ (l : List ℕ). length l) same in
      let long : length (opened f.seen) ≡ length f.seen = length_opened f.seen some in
      let len : length (take (length (opened f.seen)) image) ≡ length (opened f.seen) =
      length-take-le (length (opened f.seen)) image (omega (arith, torn.long, size, long)) in
      same_lists (take (length (opened f.seen)) image) (opened f.seen) len (λ k d within.
      let low : k < length (opened f.seen) = omega (arith, within, len) in
      get_or_default (take (length (opened f.seen)) image) k d 0 within
      ∙ get_or-take (length (opened f.seen)) image k 0 low
      ∙ elim (cases_eq k 0) as (λ _. get_or image k 0 ≡ get_or (opened f.seen) k 0) [
        | inl first ↦ ap (λ (n : ℕ). get_or image n 0) first ∙ is_open ∙ ap (λ (n : ℕ). get_or (opened f.seen) n 0) (sym first)
        | inr later ↦ other_byte k (omega arith) (omega (arith, low, long, size)) ∙ ap (λ (l : List ℕ). get_or l k 0) same
            ∙ sym (opened_byte f.seen k (omega arith) (omega (arith, low, long)))
      ]
      ∙ get_or_default (opened f.seen) k 0 d low)

pub torn_gate : (told : Option File) (image : List ℕ) → IfSome told (λ f. IsImage f f.seen) → EachImage told (λ i. 0 < length i) → IsStable told
    → HasImage (option_map (loosened 0 1) told) image → IsShutOrOpened told image
torn_gate None image reads some stable has = absurd has
torn_gate (Some f) image reads some stable has = elim (cases_eq (get_or image 0 0) 1) [
  | inl is_open ↦ inr (f.seen, reads, begins_open f image stable has (some f.seen reads) is_open)
  | inr shut ↦ inl (shut_by image (omega (arith, has.long, ap (λ (l : List ℕ). length l) (same f image stable has), some f.seen reads)) shut)
]

-- of one that was open
torn_open : (told : Option File) (image : List ℕ) → IfSome told (λ f. get_or f.seen 0 0 ≡ 1) → IsStable told → IsShutOrOpened told image
    → IsShutOrSame told image
torn_open None image gate stable (inl shut) = inl shut
torn_open None image gate stable (inr (before, has, front)) = absurd has
torn_open (Some f) image gate stable (inl shut) = inl shut
torn_open (Some f) image gate stable (inr (before, has, front)) =
    let is_open : get_or before 0 0 ≡ 1 = ap (λ (l : List ℕ). get_or l 0 0) (stable before has) ∙ gate in
    inr (before, has, subst (λ (l : List ℕ). take (length l) image ≡ l) (opened_again before is_open) front)

-- ---- shutting

module _ (a b : History) (file : ℕ) (stable : IsStable (current a file)) (some : EachImage (current a file) (λ i. 0 < length i))
    (reads : IfSome (current a file) (λ f. IsImage f f.seen)) (acts : Acts a b file) (still : current b file ≡ current a file) where
  as_it_was : EachImage (current a file) (IsShutOrSame (current a file))
  as_it_was = go (current a file)
    where
      go : (told : Option File) → EachImage told (IsShutOrSame told)
      go None = tt
      go (Some f) = λ image has. inr (image, has, take_all (length image) image (omega arith))

  -- while the gate is read
  pub read_leaves : Leaves a b file (IsShutOrSame (current a file))
  read_leaves = within_call a b file acts (λ told. EachImage told (IsShutOrSame (current a file))) as_it_was
      (subst (λ told. EachImage told (IsShutOrSame (current a file))) (sym still) as_it_was)

  -- and then closed
  pub shut_leaves : (c : History) → IfSome (current a file) (λ f. get_or f.seen 0 0 ≡ 1)
      → Leaves b c file (HasImage (option_map (loosened 0 1) (current b file))) → Leaves a c file (IsShutOrSame (current a file))
  shut_leaves c gate writes =
      within_then a b c file _ _ (λ told. EachImage told (IsShutOrSame (current a file))) read_leaves writes (λ told each. each)
      (λ told each. each_more told _ _ (λ image has.
      torn_open (current a file) image gate stable (torn_gate (current a file) image reads some stable
      (subst (λ t. HasImage (option_map (loosened 0 1) t) image) still has))) each)

-- ---- showing

pub show_leaves : (a b : History) (file : ℕ) → IfSome (current a file) (λ f. IsImage f f.seen) → EachImage (current a file) IsShut → IsStable (current a file)
    → Leaves a b file (HasImage (option_map (loosened 0 1) (current a file))) → Leaves a b file (IsShutOrOpened (current a file))
show_leaves a b file reads shut stable writes =
    within_more a b file _ (λ told. EachImage told (IsShutOrOpened (current a file))) writes
    (λ told each. each_more told _ _ (λ image has. torn_gate (current a file) image reads (some_of_shut (current a file) shut) stable has) each)

-- ---- laying

-- a torn write behind a gate leaves it closed
torn_behind : (f g : File) (at len : ℕ) → 0 < at → at ≤ length f.seen → IsImage f f.seen → ((i : List ℕ) → IsImage f i → IsShut i) → g.synced ≡ f.synced
    → g.loose ≡ (at, len) ∷ f.loose
    → (i : List ℕ) → IsImage g i → IsShut i
torn_behind f g at len behind within reads shut synced loose i is =
    let torn = torn_front f at len i reads within (record {
      long = subst (λ (l : List ℕ). length l ≤ length i) synced is.long;
      short = λ none. absurd (cc none);
      stays = λ place inside free.
          is.stays place (subst (λ (l : List ℕ). place < length l) (sym synced) inside) (ap (λ (l : List (ℕ × ℕ)). covers l place) loose ∙ free)
          ∙ ap (λ (l : List ℕ). get_or l place 0) synced;
    }) in
    same_gate torn.0 i at behind torn.2 (shut torn.0 torn.1)

module _ (a b : History) (file : ℕ) (reads : IfSome (current a file) (λ f. IsImage f f.seen)) (shut : EachImage (current a file) IsShut) (bytes : List ℕ)
    (size : length bytes ≡ 39) (acts : Acts a b file) where
  -- while the write of the head fails
  pub head_lost : MayLose 1 (length bytes) (current a file) (current b file) → Leaves a b file IsShut
  head_lost lost = within_call a b file acts (λ told. EachImage told IsShut) shut (go (current a file) (current b file) reads shut lost)
    where
      go : (t n : Option File) → IfSome t (λ f. IsImage f f.seen) → EachImage t IsShut → MayLose 1 (length bytes) t n → EachImage n IsShut
      go None n r s l = subst (λ told. EachImage told IsShut) (sym l) tt
      go (Some f) None r s (inl as_before) = absurd (cc as_before)
      go (Some f) (Some g) r s (inl as_before) = let e : g ≡ f = cc as_before in λ i is. s i (subst (λ (h : File). IsImage h i) e is)
      go (Some f) None r s (inr l) = absurd l
      go (Some f) (Some g) r s (inr l) = torn_behind f g 1 (length bytes) (omega arith) (some_bytes f.seen (s f.seen r)) r s l.synced l.loose

  module _ (written : current b file ≡ option_map (wrote 1 bytes) (current a file)) where
    head_there : EachImage (current b file) IsShut
    head_there = subst (λ told. EachImage told IsShut) (sym written) (go (current a file) reads shut)
      where
        go : (t : Option File) → IfSome t (λ f. IsImage f f.seen) → EachImage t IsShut → EachImage (option_map (wrote 1 bytes) t) IsShut
        go None r s = tt
        go (Some f) r s = torn_behind f (wrote 1 bytes f) 1 (length bytes) (omega arith) (some_bytes f.seen (s f.seen r)) r s refl refl

    -- the body may be written behind it
    pub head_room : IfSome (current b file) (λ f. 40 ≤ length f.seen)
    head_room = subst (λ told. IfSome told (λ f. 40 ≤ length f.seen)) (sym written) (go (current a file) reads shut)
      where
        go : (t : Option File) → IfSome t (λ f. IsImage f f.seen) → EachImage t IsShut → IfSome (option_map (wrote 1 bytes) t) (λ f. 40 ≤ length f.seen)
        go None r s = tt
        go (Some f) r s = omega (arith, put_length f.seen 1 bytes (some_bytes f.seen (s f.seen r)), size)

    -- while both are written
    pub lay_leaves : (c : History) (len : ℕ) → IfSome (current b file) (λ f. IsImage f f.seen)
        → Leaves b c file (HasImage (option_map (loosened 40 len) (current b file))) → Leaves a c file IsShut
    lay_leaves c len reads_b writes =
        within_then a b c file _ _ (λ told. EachImage told IsShut) (within_call a b file acts (λ told. EachImage told IsShut) shut head_there) writes
        (λ told each. each)
        (λ told each. each_more told _ _ (go (current b file) reads_b head_there head_room) each)
      where
        go : (t : Option File) → IfSome t (λ f. IsImage f f.seen) → EachImage t IsShut → IfSome t (λ f. 40 ≤ length f.seen) → (image : List ℕ)
            → HasImage (option_map (loosened 40 len) t) image → IsShut image
        go None r s room image has = absurd has
        go (Some f) r s room image has = torn_behind f (loosened 40 len f) 40 len (omega arith) room r s refl refl image has

-- both writes
pub laid_both : (told : Option File) (front body : List ℕ) → option_map (λ f. untouched (put f.seen 40 body)) (option_map (wrote 1 front) told) ≡ option_map
    (λ f. untouched (put (put f.seen 1 front) 40 body)) told
laid_both None front body = refl
laid_both (Some f) front body = refl

pub head_size : (h : Head) (n : ℕ) → length (head_bytes h n) ≡ 39
head_size h n = refl
