-- What a stop leaves at each stage of an append, from a disk that may tell its files.
use Rattle.std.proofs.Common.{◌≡◌, ◌⊎◌, ℕ, ◌+◌, ◌<◌, ◌≤◌, ◌^◌, List, [], ◌∷◌, ◌++◌, length, take, drop, get_or, Option, None, Some, option_map, refl, sym, ◌∙◌, subst, ap, arith, inl, inr, append_assoc, length-take}
use Rattle.std.specs.Prelude.{IfSome}
use Rattle.std.proofs.lemmas.Bool.{cases_eq}
use Rattle.std.proofs.lemmas.List.{take-append-drop, take_at, drop_at, take-take, drop_more, get_or-take, length-take-le, length_push}
use Rattle.byteorder.specs.Endian.{little_number, little_bytes}
use Rattle.byteorder.specs.Numbers.{little_number-reads_back}
use Rattle.aria_base.specs.Faults.{one_more}
use Rattle.disk_model.specs.Files.{File, IsImage, loosened, untouched, put}
use Rattle.disk_model.specs.Histories.{History, current, EachImage, HasImage, Leaves}
use Rattle.disk_model.proofs.Images.{untouched_image}
use Rattle.disk_model.proofs.Spans.{each_more, within_then, within_more}
use Rattle.disk_model.proofs.Torn.{put_before, put_here, put_length, put_twice, same_part, torn_front, torn_byte}
use Rattle.input_log.specs.declared.logs.Payload.{Payload}
use Rattle.input_log.specs.Layout.{Open, next_of, Ends, with_payload, log_from, log_of, with_record, behind_gate, record_bytes, EndsAt, IsWithOrWithout}
use Rattle.input_log.proofs.Gates.{openly, closed_next}
use Rattle.input_log.proofs.Reached.{front_of, same_front, log_record, log_closed, few_records}

-- bytes with an open gate and its record where the log ended
pub gate_open : (bytes other payload : List ℕ) (payloads : List Payload) (at : ℕ) → log_of bytes ≡ Ends payloads at → take at other ≡ take at bytes
    → at < length other → get_or other at 0 ≡ 1
    → take (length (behind_gate payload)) (drop (at + 1) other) ≡ behind_gate payload → length payload < 256 ^ 4
    → log_of other ≡ Ends (with_payload payloads at payload) (at + 5 + length payload)
gate_open bytes other payload payloads at e front within is_open record_is small =
    let n : ℕ = length (behind_gate payload) in
    let behind : List ℕ = drop n (drop (at + 1) other) in
    let from_gate : drop at other ≡ 1 ∷ (behind_gate payload ++ behind) =
    drop_more other at 0 within ∙ ap (λ (g : ℕ). g ∷ drop (at + 1) other) is_open
    ∙ ap (λ (l : List ℕ). 1 ∷ l) (sym (take-append-drop n (drop (at + 1) other)) ∙ ap (λ (l : List ℕ). l ++ behind) record_is) in
    let size : List ℕ = little_bytes 4 (length payload) in
    let record_bytes : List ℕ = 1 ∷ (size ++ payload) in
    let split : drop at other ≡ record_bytes ++ (0 ∷ behind) = from_gate ∙ ap (λ (l : List ℕ). 1 ∷ l) (append_assoc (size ++ payload) (0 ∷ []) behind) in
    let value : little_number 4 size ≡ length payload = little_number-reads_back 4 (length payload) [] small in
    let opens : next_of (drop at other) ≡ Open payload =
    openly (drop at other) payload (record {
      a = get_or size 0 0;
      b = get_or size 1 0;
      c = get_or size 2 0;
      d = get_or size 3 0;
      behind = 0 ∷ behind;
      split =
          split;
      more = omega arith;
      size = value;
    }) in
    let next : drop (5 + length payload) (drop at other) ≡ 0 ∷ behind = ap (λ (l : List ℕ). drop (5 + length payload) l) split
    ∙ drop_at record_bytes (0 ∷ behind) (5 + length payload) (omega arith) in
    (front_of bytes payloads at e).leads other front within
    ∙ log_record payloads at (drop at other) payload opens
    ∙ ap (λ (l : List ℕ). log_from (with_payload payloads at payload) (at + 5 + length payload) l) next
    ∙ log_closed (with_payload payloads at payload) (at + 5 + length payload) (0 ∷ behind) (closed_next 0 behind (λ no. absurd (omega arith)))

-- the record stands behind the closed gate
record_written : (seen payload : List ℕ) (payloads : List Payload) (at : ℕ) → log_of seen ≡ Ends payloads at
    → (log_of (put seen (at + 1) (behind_gate payload)) ≡ Ends payloads at)
    × (take (length (behind_gate payload)) (drop (at + 1) (put seen (at + 1) (behind_gate payload))) ≡ behind_gate payload)
    × (at + 1 + length (behind_gate payload) ≤ length (put seen (at + 1) (behind_gate payload)))
record_written seen payload payloads at e =
    let bytes : List ℕ = behind_gate payload in
    let new : List ℕ = put seen (at + 1) bytes in
    let f = front_of seen payloads at e in
    let room : at + 1 ≤ length seen = omega (arith, f.within) in
    let front : take (at + 1) new ≡ take (at + 1) seen = put_before seen (at + 1) bytes room in
    let long : at + 1 + length bytes ≤ length new = put_length seen (at + 1) bytes room in
    let gate : get_or new at 0 ≡ get_or seen at 0 = sym (get_or-take (at + 1) new at 0 (omega arith)) ∙ ap (λ (l : List ℕ). get_or l at 0) front
    ∙ get_or-take (at + 1) seen at 0 (omega arith) in
    let shorter : take at new ≡ take at seen = sym (take-take at (at + 1) new (omega arith)) ∙ ap (λ (l : List ℕ). take at l) front
    ∙ take-take at (at + 1) seen (omega arith) in (
      same_front seen new payloads at e shorter (omega (arith, long)) (λ is_open. f.shut (sym gate ∙ is_open)),
      ap (λ (l : List ℕ). take (length bytes) l) (put_here seen (at + 1) bytes room) ∙ take_at bytes (drop (at + 1 + length bytes) seen) (length bytes) refl,
      long,
    )

-- an image of a file whose gate alone was written
gate_torn : (seen image payload : List ℕ) (payloads : List Payload) (at : ℕ) → log_of seen ≡ Ends payloads at
    → take (length (behind_gate payload)) (drop (at + 1) seen) ≡ behind_gate payload
    → at + 1 + length (behind_gate payload) ≤ length seen → length payload < 256 ^ 4 → IsImage (loosened at 1 (untouched seen)) image
    → (log_of image ≡ Ends payloads at) ⊎ (log_of image ≡ Ends (with_payload payloads at payload) (at + 5 + length payload))
gate_torn seen image payload payloads at e record_is long small torn =
    let n : ℕ = length (behind_gate payload) in
    let front : take at image ≡ take at seen = same_part 0 at image seen (omega (arith, torn.long)) (omega arith)
    (λ k from to. torn_byte seen at image torn k (omega arith) (λ is. absurd (omega arith))) in
    let behind : take n (drop (at + 1) image) ≡ take n (drop (at + 1) seen) =
    same_part (at + 1) n image seen (omega (arith, torn.long)) long (λ k from to. torn_byte seen at image torn k (omega arith) (λ is. absurd (omega arith))) in
    elim (cases_eq (get_or image at 0) 1) [
      | inl is_open ↦ inr (gate_open seen image payload payloads at e front (omega (arith, torn.long)) is_open (behind ∙ record_is) small)
      | inr shut ↦ inl (same_front seen image payloads at e front (omega (arith, torn.long)) shut)
    ]

-- after the gate was written
gate_written : (seen payload : List ℕ) (payloads : List Payload) (at : ℕ) → log_of seen ≡ Ends payloads at
    → take (length (behind_gate payload)) (drop (at + 1) seen) ≡ behind_gate payload
    → length payload < 256 ^ 4 → log_of (put seen at (1 ∷ [])) ≡ Ends (with_payload payloads at payload) (at + 5 + length payload)
gate_written seen payload payloads at e record_is small =
    let f = front_of seen payloads at e in
    let new : List ℕ = put seen at (1 ∷ []) in
    let room : at ≤ length seen = omega (arith, f.within) in
    let from_gate : drop at new ≡ 1 ∷ drop (at + 1) seen = put_here seen at (1 ∷ []) room in
    let within : at < length new = omega (arith, put_length seen at (1 ∷ []) room) in
    let split : get_or new at 0 ∷ drop (at + 1) new ≡ 1 ∷ drop (at + 1) seen = sym (drop_more new at 0 within) ∙ from_gate in
    let behind : drop (at + 1) new ≡ drop (at + 1) seen = cc split in
    gate_open seen new payload payloads at e (put_before seen at (1 ∷ []) room) within (cc split)
    (ap (λ (l : List ℕ). take (length (behind_gate payload)) l) behind ∙ record_is) small

-- a file that begins with a closed gate
pub fresh_ends : (told : Option File) → EachImage (option_map (λ f. untouched (put f.seen 0 (0 ∷ []))) told) (λ image. EndsAt image 0 0)
fresh_ends None = tt
fresh_ends (Some f) = λ image is. subst (λ (l : List ℕ). EndsAt l 0 0) (sym (untouched_image (put f.seen 0 (0 ∷ [])) image is)) ([], refl, refl)

module _ (told : Option File) (at batches : ℕ) (payload : List ℕ) (reads : IfSome told (λ f. IsImage f f.seen))
    (ends : EachImage told (λ image. EndsAt image at batches)) where
  -- with the record behind the gate
  abbrev pub staged : Option File
  staged = option_map (λ f. untouched (put f.seen (at + 1) (behind_gate payload))) told

  -- and with the gate opened
  abbrev pub closed_behind : Option File
  closed_behind = option_map (λ f. untouched (put f.seen at (1 ∷ []))) staged

  pub room_behind : IfSome told (λ f. at + 1 ≤ length f.seen)
  room_behind = go told reads ends
    where
      go : (t : Option File) → IfSome t (λ f. IsImage f f.seen) → EachImage t (λ image. EndsAt image at batches) → IfSome t (λ f. at + 1 ≤ length f.seen)
      go None r e = tt
      go (Some f) r e = let own = e f.seen r in omega (arith, (front_of f.seen own.0 at own.1).within)

  pub room_at : IfSome staged (λ f. at ≤ length f.seen)
  room_at = go told reads ends
    where
      go : (t : Option File) → IfSome t (λ f. IsImage f f.seen) → EachImage t (λ image. EndsAt image at batches)
          → IfSome (option_map (λ f. untouched (put f.seen (at + 1) (behind_gate payload))) t) (λ f. at ≤ length f.seen)
      go None r e = tt
      go (Some f) r e = let own = e f.seen r in omega (arith, (record_written f.seen payload own.0 at own.1).2)

  pub counted : IfSome told (λ f. batches ≤ at)
  counted = go told reads ends
    where
      go : (t : Option File) → IfSome t (λ f. IsImage f f.seen) → EachImage t (λ image. EndsAt image at batches) → IfSome t (λ f. batches ≤ at)
      go None r e = tt
      go (Some f) r e = let own = e f.seen r in omega (arith, few_records (length f.seen) [] 0 f.seen own.0 at own.1, own.2)

  -- while the record is written
  pub stage_record : (len : ℕ) (image : List ℕ) → HasImage (option_map (loosened (at + 1) len) told) image → IsWithOrWithout told payload image
  stage_record len image has = go told reads ends has
    where
      go : (t : Option File) → IfSome t (λ f. IsImage f f.seen) → EachImage t (λ image. EndsAt image at batches)
          → HasImage (option_map (loosened (at + 1) len) t) image → IsWithOrWithout t payload image
      go None r e h = absurd h
      go (Some f) r e h =
          let own = e f.seen r in
          let t = torn_front f (at + 1) len image r (omega (arith, (front_of f.seen own.0 at own.1).within)) h in
          let was = e t.0 t.1 in
          let f_was = front_of t.0 was.0 at was.1 in
          let size : length (take (at + 1) image) ≡ at + 1 = ap (λ (l : List ℕ). length l) (sym t.2)
          ∙ length-take-le (at + 1) t.0 (omega (arith, f_was.within)) in
          let within : at < length image = omega (arith, size, length-take (at + 1) image) in
          let front : take at image ≡ take at t.0 = sym (take-take at (at + 1) image (omega arith)) ∙ ap (λ (l : List ℕ). take at l) (sym t.2)
          ∙ take-take at (at + 1) t.0 (omega arith) in
          let gate : get_or image at 0 ≡ get_or t.0 at 0 = sym (get_or-take (at + 1) image at 0 (omega arith)) ∙ ap (λ (l : List ℕ). get_or l at 0) (sym t.2)
          ∙ get_or-take (at + 1) t.0 at 0 (omega arith) in
          (t.0, t.1, inl (same_front t.0 image was.0 at was.1 front within (λ is_open. f_was.shut (sym gate ∙ is_open)) ∙ sym was.1))

  -- while the gate is opened
  pub stage_gate : length payload < 256 ^ 4 → (image : List ℕ) → HasImage (option_map (loosened at 1) staged) image → IsWithOrWithout told payload image
  stage_gate small image has = go told reads ends has
    where
      go : (t : Option File) → IfSome t (λ f. IsImage f f.seen) → EachImage t (λ image. EndsAt image at batches)
          → HasImage (option_map (loosened at 1) (option_map (λ f. untouched (put f.seen (at + 1) (behind_gate payload))) t)) image
          → IsWithOrWithout t payload image
      go None r e h = absurd h
      go (Some f) r e h =
          let own = e f.seen r in
          let w = record_written f.seen payload own.0 at own.1 in
          let added : with_record payload (log_of f.seen) ≡ Ends (with_payload own.0 at payload) (at + 5 + length payload) = ap (with_record payload) own.1 in (
            f.seen,
            r,
            elim (gate_torn (put f.seen (at + 1) (behind_gate payload)) image payload own.0 at w.0 w.1 w.2 small h) [
              | inl without ↦
                  inl (without ∙ sym own.1)
              | inr with_it ↦ inr (with_it ∙ sym added)
            ],
          )

  -- afterwards
  pub stage_done : length payload < 256 ^ 4 → IfSome told (λ f. EachImage closed_behind (λ image. log_of image ≡ with_record payload (log_of f.seen)))
  stage_done small = go told reads ends
    where
      go : (t : Option File) → IfSome t (λ f. IsImage f f.seen) → EachImage t (λ image. EndsAt image at batches)
          → IfSome t (λ f. EachImage (option_map (λ f. untouched (put f.seen at (1 ∷ [])))
          (option_map (λ f. untouched (put f.seen (at + 1) (behind_gate payload))) t)) (λ image. log_of image ≡ with_record payload (log_of f.seen)))
      go None r e = tt
      go (Some f) r e = λ image is.
          let own = e f.seen r in
          let w = record_written f.seen payload own.0 at own.1 in
          let seen : List ℕ = put f.seen (at + 1) (behind_gate payload) in
          ap (λ (l : List ℕ). log_of l) (untouched_image (put seen at (1 ∷ [])) image is) ∙ gate_written seen payload own.0 at w.0 w.1 small
          ∙ sym (ap (with_record payload) own.1)

  pub stage_ends : length payload < 256 ^ 4 → (end end_batches : ℕ) → end ≡ at + 5 + length payload → IfSome told (λ f. end_batches ≡ batches + 1)
      → EachImage closed_behind (λ image. EndsAt image end end_batches)
  stage_ends small end end_batches end_is batches_are = go told reads ends batches_are
    where
      go : (t : Option File) → IfSome t (λ f. IsImage f f.seen) → EachImage t (λ image. EndsAt image at batches) → IfSome t (λ f. end_batches ≡ batches + 1)
          → EachImage (option_map (λ f. untouched (put f.seen at (1 ∷ []))) (option_map (λ f. untouched (put f.seen (at + 1) (behind_gate payload))) t))
          (λ image. EndsAt image end end_batches)
      go None r e b = tt
      go (Some f) r e b = λ image is.
          let own = e f.seen r in
          let w = record_written f.seen payload own.0 at own.1 in
          let seen : List ℕ = put f.seen (at + 1) (behind_gate payload) in (
            with_payload own.0 at payload,
            ap (λ (l : List ℕ). log_of l) (untouched_image (put seen at (1 ∷ [])) image is) ∙ gate_written seen payload own.0 at w.0 w.1 small
                ∙ ap (λ (n : ℕ). Ends (with_payload own.0 at payload) n) (sym end_is),
            length_push own.0 (record { at = at; bytes = payload }) ∙ ap (λ (n : ℕ). n + 1) own.2 ∙ sym b,
          )

  -- both writes are one of the whole record
  pub stage_bytes : closed_behind ≡ option_map (λ f. untouched (put f.seen at (record_bytes payload))) told
  stage_bytes = go told room_behind
    where
      go : (t : Option File) → IfSome t (λ f. at + 1 ≤ length f.seen)
          → option_map (λ f. untouched (put f.seen at (1 ∷ []))) (option_map (λ f. untouched (put f.seen (at + 1) (behind_gate payload))) t) ≡ option_map
          (λ f. untouched (put f.seen at (record_bytes payload))) t
      go None room = refl
      go (Some f) room = ap (λ (l : List ℕ). Some (untouched l)) (put_twice f.seen at (behind_gate payload) 1 room)

  -- the count of a log that is told does not reach its last value
  pub one_more_is : at < 2 ^ 63 → (new : ℕ) → new ≡ one_more batches → IfSome told (λ f. new ≡ batches + 1)
  one_more_is short new is = go told counted
    where
      go : (t : Option File) → IfSome t (λ f. batches ≤ at) → IfSome t (λ f. new ≡ batches + 1)
      go None few = tt
      go (Some f) few = omega (arith, is, few, short)

-- what the two writes leave
module _ (a b c : History) (file at batches : ℕ) (payload : List ℕ) (reads : IfSome (current a file) (λ f. IsImage f f.seen))
    (ends : EachImage (current a file) (λ image. EndsAt image at batches)) where
  pub record_leaves : (len : ℕ) → Leaves a b file (HasImage (option_map (loosened (at + 1) len) (current a file)))
      → Leaves a b file (IsWithOrWithout (current a file) payload)
  record_leaves len writes =
      within_more a b file _ (λ t. EachImage t (IsWithOrWithout (current a file) payload)) writes
      (λ t each. each_more t _ _ (stage_record (current a file) at batches payload reads ends len) each)

  pub gate_leaves : (len : ℕ) → length payload < 256 ^ 4 → Leaves a b file (HasImage (option_map (loosened (at + 1) len) (current a file)))
      → current b file ≡ staged (current a file) at batches payload reads ends
      → Leaves b c file (HasImage (option_map (loosened at 1) (current b file))) → Leaves a c file (IsWithOrWithout (current a file) payload)
  gate_leaves len small writes staged_is opens =
      within_then a b c file _ _ (λ t. EachImage t (IsWithOrWithout (current a file) payload)) (record_leaves len writes) opens (λ t each. each)
      (λ t each. each_more t _ _ (λ image has. stage_gate (current a file) at batches payload reads ends small image
      (subst (λ (o : Option File). HasImage (option_map (loosened at 1) o) image) staged_is has)) each)
