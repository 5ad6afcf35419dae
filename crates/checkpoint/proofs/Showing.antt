-- How a slot reads from bytes.
use Rattle.std.proofs.Common.{◌≡◌, ℕ, zero, suc, ◌+◌, ◌-◌, ◌^◌, ◌<◌, ◌≤◌, List, [], ◌∷◌, ◌++◌, length, take, drop, Bool, true, false, refl, sym, ◌∙◌, subst, ap, arith, inl, inr, Option, None, Some, length-append, length-drop}
use Rattle.std.specs.Prelude.{nat_lt, ◌==◌, ◌%◌, ◌||◌, not, if◌then◌else◌}
use Rattle.std.proofs.lemmas.Bool.{cases_eq}
use Rattle.std.proofs.lemmas.Bool.Decides.{nat_tests}
use Rattle.std.proofs.lemmas.List.{take-append-drop, take_at, take-append-le, append_assoc}
use Rattle.byteorder.specs.Endian.{little_bytes, little_number}
use Rattle.byteorder.specs.Numbers.{little_number-reads_back}
use Rattle.batch_rules.specs.declared.verdicts.Rule.{Rule}
use Rattle.batch_rules.specs.declared.verdicts.Rule.TheVariants.{Plain, Reorder}
use Rattle.aria_base.specs.declared.limits.TheConstants.{GREATEST_NUMBER, MOST_PERCENT}
use Rattle.disk_model.specs.Files.{put}
use Rattle.checkpoint.specs.declared.heads.Head.{Head}
use Rattle.checkpoint.specs.declared.heads.Fields.{Fields}
use Rattle.checkpoint.specs.Heads.{magic, fields_of, rule_of, rule_byte, head_in, fields_for, head_bytes}
use Rattle.checkpoint.specs.Damage.{wrong_generation, faults, first_fault, IsSound}
use Rattle.checkpoint.specs.Slots.{Slot, Shut, Shown, Bad, is_open, by_fault, open_slot, slot_of, opened, laid}
use Rattle.checkpoint.specs.Gates.{IsShut}

pub record ShowsBy (o l r : Bool) (fault : Option ℕ) (s shown : Slot) : Type 0 where
  pub gate : o ≡ true
  pub long : l ≡ false
  pub sound : fault ≡ None
  pub room : r ≡ false
  pub same : s ≡ shown

invert : (o l r : Bool) (fault : Option ℕ) (at : ℕ) (s : Slot) (h : Head) (body : List ℕ)
    → (if o then (if l then Bad at else by_fault fault (if r then Bad 32 else s)) else Shut) ≡ Shown h body → ShowsBy o l r fault s (Shown h body)
invert false l r fault at s h body e = absurd (cc e)
invert true true r fault at s h body e = absurd (cc e)
invert true false r (Some n) at s h body e = absurd (cc e)
invert true false true None at s h body e = absurd (cc e)
invert true false false None at s h body e = record { gate = refl; long = refl; sound = refl; room = refl; same = e }

rebuild : (o l r : Bool) (fault : Option ℕ) (at : ℕ) (s shown : Slot) → ShowsBy o l r fault s shown
    → (if o then (if l then Bad at else by_fault fault (if r then Bad 32 else s)) else Shut) ≡ shown
rebuild false l r fault at s shown b = let no : false ≡ true = b.gate in absurd (cc no)
rebuild true true r fault at s shown b = let no : true ≡ false = b.long in absurd (cc no)
rebuild true false r (Some n) at s shown b = let no : Some n ≡ None = b.sound in absurd (cc no)
rebuild true false true None at s shown b = let no : true ≡ false = b.room in absurd (cc no)
rebuild true false false None at s shown b = b.same

drop_front : (n : ℕ) (bytes more : List ℕ) → n ≤ length bytes → drop n (bytes ++ more) ≡ drop n bytes ++ more
drop_front zero bytes more le = refl
drop_front (suc n) [] more le = absurd (omega arith)
drop_front (suc n) (b ∷ bytes) more le = drop_front n bytes more (omega arith)

open_front : (bytes more : List ℕ) → is_open bytes ≡ true → is_open (bytes ++ more) ≡ true
open_front [] more e = absurd (cc e)
open_front (b ∷ bytes) more e = e

-- what stands behind a slot's body does not count
pub longer_shown : (slot : ℕ) (bytes more : List ℕ) (h : Head) (body : List ℕ) → slot_of slot bytes ≡ Shown h body → slot_of slot (bytes ++ more) ≡ Shown h body
longer_shown slot bytes more h body e =
    let f : Fields = fields_of (take 40 bytes) in
    let b = invert (is_open bytes) (nat_lt (length bytes) 40) (nat_lt (length bytes - 40) f.body) (first_fault (faults slot f)) (length bytes)
    (Shown (head_in f) (take f.body (drop 40 bytes))) h body e in
    let long : 40 ≤ length bytes = grind (arith, nat_tests, b.long) in
    let room : f.body ≤ length bytes - 40 = grind (arith, nat_tests, b.room) in
    let size : length (bytes ++ more) ≡ length bytes + length more = length-append bytes more in
    let front : take 40 (bytes ++ more) ≡ take 40 bytes = take-append-le 40 bytes more long in
    let rest : take f.body (drop 40 (bytes ++ more)) ≡ take f.body (drop 40 bytes) =
    ap (λ (l : List ℕ). take f.body l) (drop_front 40 bytes more long)
    ∙ take-append-le f.body (drop 40 bytes) more (omega (arith, room, length-drop 40 bytes)) in
    rebuild (is_open (bytes ++ more)) (nat_lt (length (bytes ++ more)) 40) (nat_lt (length (bytes ++ more) - 40) (fields_of (take 40 (bytes ++ more))).body)
    (first_fault (faults slot (fields_of (take 40 (bytes ++ more))))) (length (bytes ++ more))
    (Shown (head_in (fields_of (take 40 (bytes ++ more)))) (take (fields_of (take 40 (bytes ++ more))).body (drop 40 (bytes ++ more)))) (Shown h body) (record {
      gate = open_front bytes more b.gate;
      long = grind (arith, nat_tests, long, size);
      sound = ap (λ (l : List ℕ). first_fault (faults slot (fields_of l))) front ∙ b.sound;
      room = ap (λ (l : List ℕ). nat_lt (length (bytes ++ more) - 40) (fields_of l).body) front ∙ grind (arith, nat_tests, room, size);
      same = ap (λ (l : List ℕ). Shown (head_in (fields_of l)) (take (fields_of l).body (drop 40 (bytes ++ more)))) front
          ∙ ap (λ (l : List ℕ). Shown (head_in f) l) rest ∙ b.same;
    })

shut_gate : (o l : Bool) (at : ℕ) (fault : Option ℕ) (r : Bool) (h : Head) (body : List ℕ)
    → (if o then (if l then Bad at else by_fault fault (if r then Bad 32 else Shown h body)) else Shut) ≡ Shut → o ≡ false
shut_gate false l at fault r h body e = refl
shut_gate true true at fault r h body e = absurd (cc e)
shut_gate true false at (Some n) r h body e = absurd (cc e)
shut_gate true false at None true h body e = absurd (cc e)
shut_gate true false at None false h body e = absurd (cc e)

pub longer_shut : (slot gate : ℕ) (bytes more : List ℕ) → slot_of slot (gate ∷ bytes) ≡ Shut → slot_of slot ((gate ∷ bytes) ++ more) ≡ Shut
longer_shut slot gate bytes more e =
    let f : Fields = fields_of (take 40 (gate ∷ bytes)) in
    let no : gate == 1 ≡ false = shut_gate (gate == 1) (nat_lt (length (gate ∷ bytes)) 40) (length (gate ∷ bytes)) (first_fault (faults slot f))
    (nat_lt (length (gate ∷ bytes) - 40) f.body) (head_in f) (take f.body (drop 40 (gate ∷ bytes))) e in
    ap (λ (b : Bool). if b then open_slot slot ((gate ∷ bytes) ++ more) else Shut) no

pub closed_slot : (slot : ℕ) (image : List ℕ) → IsShut image → slot_of slot image ≡ Shut
closed_slot slot [] shut = absurd shut
closed_slot slot (gate ∷ rest) shut =
    let no : gate == 1 ≡ false = grind (arith, nat_tests, shut) in
    ap (λ (b : Bool). if b then open_slot slot (gate ∷ rest) else Shut) no

-- what an opened gate shows of what was laid, whatever stands behind it
opened_laid : (h : Head) (body : List ℕ) (gate : ℕ) (rest : List ℕ)
    → opened (laid h body (gate ∷ rest)) ≡ ((1 ∷ head_bytes h (length body)) ++ body) ++ drop (40 + length body)
    (put (gate ∷ rest) 1 (head_bytes h (length body)))
opened_laid h body gate rest = refl

read_front : (h : Head) (n : ℕ) (more : List ℕ) → take 40 ((1 ∷ head_bytes h n) ++ more) ≡ 1 ∷ head_bytes h n
read_front h n more = refl

pub record Ranges (h : Head) : Type 0 where
  pub generation : h.generation < 256 ^ 8
  pub batches : h.batches < 256 ^ 8
  pub requests : h.requests < 256 ^ 8

abbrev fields_with : Head → ℕ → ℕ → ℕ → ℕ → Fields
fields_with h generation batches requests body = record (fields_for h body) { generation = generation; batches = batches; requests = requests }

read_fields : (h : Head) (n : ℕ) → Ranges h → n < 256 ^ 8 → fields_of (1 ∷ head_bytes h n) ≡ fields_for h n
read_fields h n fits small =
    let gs : List ℕ = little_bytes 8 h.generation in
    let bs : List ℕ = little_bytes 8 h.batches in
    let rs : List ℕ = little_bytes 8 h.requests in
    let ns : List ℕ = little_bytes 8 n in
    let e1 : little_number 8 (gs ++ (bs ++ (rs ++ ns))) ≡ h.generation = little_number-reads_back 8 h.generation (bs ++ (rs ++ ns)) fits.generation in
    let e2 : little_number 8 (bs ++ (rs ++ ns)) ≡ h.batches = little_number-reads_back 8 h.batches (rs ++ ns) fits.batches in
    let e3 : little_number 8 (rs ++ ns) ≡ h.requests = little_number-reads_back 8 h.requests ns fits.requests in
    let e4 : little_number 8 (ns ++ []) ≡ n = little_number-reads_back 8 n [] small in
    ap (λ (x : ℕ). fields_with h x (little_number 8 (bs ++ (rs ++ ns))) (little_number 8 (rs ++ ns)) (little_number 8 (ns ++ []))) e1
    ∙ ap (λ (x : ℕ). fields_with h h.generation x (little_number 8 (rs ++ ns)) (little_number 8 (ns ++ []))) e2
    ∙ ap (λ (x : ℕ). fields_with h h.generation h.batches x (little_number 8 (ns ++ []))) e3
    ∙ ap (λ (x : ℕ). fields_with h h.generation h.batches h.requests x) e4

no_fault : (b : Bool) (at : ℕ) (rows : List (Bool × ℕ)) → first_fault ((b, at) ∷ rows) ≡ None → (b ≡ false) × (first_fault rows ≡ None)
no_fault false at rows e = (refl, e)
no_fault true at rows e = absurd (cc e)

known_format : (n : ℕ) → not (n == 1 || n == 2) ≡ false → n ≤ 2
known_format n e = elim (cases_eq n 1) [
  | inl one ↦ omega (arith, one)
  | inr not_one ↦ elim (cases_eq n 2) [
    | inl two ↦ omega (arith, two)
    | inr not_two ↦
        let a : n == 1 ≡ false = grind (arith, nat_tests, not_one) in
        let b : n == 2 ≡ false = grind (arith, nat_tests, not_two) in
        let no : true ≡ false = sym (ap (λ (x : Bool). not (x || n == 2)) a ∙ ap (λ (y : Bool). not (false || y)) b) ∙ e in
        absurd (cc no)
  ]
]

last_or : (a b c : Bool) → a || b || c ≡ false → c ≡ false
last_or false false c e = e
last_or false true c e = absurd (cc e)
last_or true b c e = absurd (cc e)

-- what is known of fields with which nothing is wrong
pub record Clear (slot : ℕ) (f : Fields) : Type 0 where
  pub behind_magic : first_fault (drop 1 (faults slot f)) ≡ None
  pub format : not (f.format == 1 || f.format == 2) ≡ false
  pub rule : nat_lt 1 f.rule ≡ false
  pub fallback : nat_lt MOST_PERCENT f.fallback ≡ false
  pub generation : wrong_generation slot f ≡ false
  pub batches : nat_lt GREATEST_NUMBER f.batches ≡ false
  pub requests : nat_lt GREATEST_NUMBER f.requests ≡ false

pub clear : (slot : ℕ) (f : Fields) → first_fault (faults slot f) ≡ None → Clear slot f
clear slot f none =
    let magic_row = no_fault (not (f.magic == magic)) 1 (drop 1 (faults slot f)) none in
    let format_row = no_fault (not (f.format == 1 || f.format == 2)) 5 (drop 2 (faults slot f)) magic_row.1 in
    let rule_row = no_fault (nat_lt 1 f.rule) 6 (drop 3 (faults slot f)) format_row.1 in
    let fallback_row = no_fault (nat_lt MOST_PERCENT f.fallback) 7 (drop 4 (faults slot f)) rule_row.1 in
    let generation_row = no_fault (wrong_generation slot f) 8 (drop 5 (faults slot f)) fallback_row.1 in
    let batches_row = no_fault (nat_lt GREATEST_NUMBER f.batches) 16 (drop 6 (faults slot f)) generation_row.1 in
    let requests_row = no_fault (nat_lt GREATEST_NUMBER f.requests) 24 [] batches_row.1 in
    record {
      behind_magic = magic_row.1;
      format = format_row.0;
      rule = rule_row.0;
      fallback = fallback_row.0;
      generation = generation_row.0;
      batches = batches_row.0;
      requests = requests_row.0;
    }

pub ranges : (slot : ℕ) (h : Head) → IsSound slot h → Ranges h
ranges slot h sound =
    let known = clear slot (fields_for h 0) sound in
    let format : h.format ≤ 2 = known_format h.format known.format in
    let above : nat_lt (h.batches + h.format) h.generation ≡ false =
    last_or (h.generation == 0) (not (h.generation % 2 == slot)) (nat_lt (h.batches + h.format) h.generation) known.generation in
    let generation : h.generation ≤ h.batches + h.format = grind (arith, nat_tests, above) in
    let batches : h.batches ≤ GREATEST_NUMBER = grind (arith, nat_tests, known.batches) in
    let requests : h.requests ≤ GREATEST_NUMBER = grind (arith, nat_tests, known.requests) in
    record { generation = omega (arith, generation, batches, format); batches = omega (arith, batches); requests = omega (arith, requests) }

rule_back : (rule : Rule) → rule_of (rule_byte rule) ≡ rule
rule_back Plain = refl
rule_back Reorder = refl

head_back : (h : Head) (n : ℕ) → head_in (fields_for h n) ≡ h
head_back h n = ap (λ (rule : Rule). record h { rule = rule }) (rule_back h.rule)

-- a head and a body behind an open gate
pub front_shows : (slot : ℕ) (h : Head) (body more : List ℕ) → IsSound slot h → length body < 256 ^ 8
    → slot_of slot ((1 ∷ head_bytes h (length body)) ++ (body ++ more)) ≡ Shown h body
front_shows slot h body more sound small =
    let r = ranges slot h sound in
    let n : ℕ = length body in
    let bytes : List ℕ = (1 ∷ head_bytes h n) ++ (body ++ more) in
    let size : length bytes ≡ 40 + (length body + length more) = length-append (1 ∷ head_bytes h n) (body ++ more)
    ∙ ap (λ (k : ℕ). 40 + k) (length-append body more) in
    let fields : fields_of (take 40 bytes) ≡ fields_for h n = read_fields h n r small in
    rebuild (is_open bytes) (nat_lt (length bytes) 40) (nat_lt (length bytes - 40) (fields_of (take 40 bytes)).body)
    (first_fault (faults slot (fields_of (take 40 bytes)))) (length bytes)
    (Shown (head_in (fields_of (take 40 bytes))) (take (fields_of (take 40 bytes)).body (drop 40 bytes))) (Shown h body) (record {
      gate = refl;
      long = grind (arith, nat_tests, size);
      sound = ap (λ (f : Fields). first_fault (faults slot f)) fields ∙ sound;
      room = ap (λ (f : Fields). nat_lt (length bytes - 40) f.body) fields ∙ grind (arith, nat_tests, size);
      same = ap (λ (f : Fields). Shown (head_in f) (take f.body (body ++ more))) fields ∙ ap (λ (x : Head). Shown x (take n (body ++ more))) (head_back h n)
          ∙ ap (λ (l : List ℕ). Shown h l) (take_at body more n refl);
    })

pub laid_shows : (slot : ℕ) (h : Head) (body bytes image : List ℕ) → IsSound slot h → length body < 256 ^ 8 → 0 < length bytes
    → take (length (opened (laid h body bytes))) image ≡ opened (laid h body bytes) → slot_of slot image ≡ Shown h body
laid_shows slot h body [] image sound small some front = absurd (omega (arith, some))
laid_shows slot h body (gate ∷ rest) image sound small some front =
    let hb : List ℕ = 1 ∷ head_bytes h (length body) in
    let tail : List ℕ = drop (40 + length body) (put (gate ∷ rest) 1 (head_bytes h (length body))) in
    let all : List ℕ = opened (laid h body (gate ∷ rest)) in
    let split : image ≡ all ++ drop (length all) image = sym (take-append-drop (length all) image) ∙ ap (λ (l : List ℕ). l ++ drop (length all) image) front in
    let grouped : all ++ drop (length all) image ≡ hb ++ (body ++ (tail ++ drop (length all) image)) =
    ap (λ (l : List ℕ). l ++ drop (length all) image) (opened_laid h body gate rest ∙ append_assoc hb body tail)
    ∙ append_assoc hb (body ++ tail) (drop (length all) image) ∙ ap (λ (l : List ℕ). hb ++ l) (append_assoc body tail (drop (length all) image)) in
    ap (λ (l : List ℕ). slot_of slot l) (split ∙ grouped) ∙ front_shows slot h body (tail ++ drop (length all) image) sound small

-- a head that was read is sound, whether the disk tells its bytes or not
known_rule : (n : ℕ) → n ≤ 1 → rule_byte (rule_of n) ≡ n
known_rule zero le = refl
known_rule (suc zero) le = refl
known_rule (suc (suc n)) le = absurd (omega (arith, le))

pub sound_head : (slot : ℕ) (f : Fields) → first_fault (faults slot f) ≡ None → (h : Head) → h ≡ head_in f → IsSound slot h
sound_head slot f none h is =
    let known = clear slot f none in
    let small : f.rule ≤ 1 = grind (arith, nat_tests, known.rule) in
    let rule : rule_byte (rule_of f.rule) ≡ f.rule = known_rule f.rule small in
    subst (IsSound slot) (sym is) (ap (λ (r : ℕ). first_fault (faults slot (record f { magic = magic; rule = r; body = 0 }))) rule ∙ known.behind_magic)
