-- What a command on a store comes to, by what its files read as.
use Rattle.std.proofs.Common.{◌≡◌, ◌≢◌, ◌⊎◌, inl, inr, ◌∙◌, sym, ap, subst, refl, ℕ, ◌<◌, ◌||◌, Bool, true, false, List, [], Option, Some, None, arith}
use Rattle.std.specs.Prelude.{Result, Ok, Err, IfOk, IfSome, IsSomeAnd}
use Rattle.std.specs.Io.KnownBytes.{Appends}
use Rattle.aria_base.specs.Streams.{AppendsFront}
use Rattle.aria_store.specs.Reopens.{Reopened, NoStore, Damaged, Found}
use Rattle.checkpoint.specs.Slots.{is_open}
use Rattle.command_words.specs.declared.settings.Init.{Init}
use Rattle.command_words.specs.declared.settings.Run.{Run}
use Rattle.disk_model.specs.Files.{File}
use Rattle.disk_model.specs.Histories.{History, Still, current}
use Rattle.run_commands.specs.Resumes.{CompletesOver, IsToldOver, damaged_out, none_out, out_from, out_over, start_over, told_from}
use Rattle.disk_model.proofs.Spans.{still_none}
use Rattle.script_course.specs.Served.{Completes, IsToldOf}
use Rattle.script_course.specs.declared.statuses.TheConstants.{DONE}
use Rattle.script_course.specs.declared.stops.Stop.{Stop}
use Rattle.script_course.specs.declared.stops.Stop.TheVariants as stop
use Rattle.store_commands.specs.Drafts.{told_of}
use Rattle.store_commands.specs.Inits.{Inits, IsMade, Leaves, out_of}
use Rattle.store_files.specs.Attachments.{IsTaken}
use Rattle.store_openings.specs.Openings.{ReadsAs}
use Rattle.aria_top.specs.Disks.{is_taken}
use Rattle.aria_top.specs.Statuses.{IsAnswered, final_status}
use Rattle.aria_top.proofs.Asked.{by_left}
use Rattle.aria_top.proofs.Stopped.{IsStored, answered, front, is_read, one_answered, one_front, own_stored, told_read}

-- ---- whether there is a store

gate : (told : Option File) (bytes : List ℕ) (b : Bool) → IsSomeAnd told (λ f. f.seen ≡ bytes) → IfSome told (λ f. is_open f.seen ≡ b) → is_open bytes ≡ b
gate None bytes b reads h = absurd reads
gate (Some f) bytes b reads h = sym (ap is_open reads) ∙ h

either_open : (a b : Bool) → (a ≡ true) ⊎ (b ≡ true) → (a || b) ≡ true
either_open true b h = refl
either_open false b (inl h) = absurd cc
either_open false b (inr h) = h

neither_open : (a b : Bool) → a ≡ false → b ≡ false → (a || b) ≡ false
neither_open true b h k = absurd cc
neither_open false b h k = k

module _ (disk : History) (images : ℕ → List ℕ) (reads : ReadsAs disk images) where
  gate_at : (file : ℕ) (b : Bool) → file < 4 → IfSome (current disk file) (λ f. is_open f.seen ≡ b) → is_open (images file) ≡ b
  gate_at file b low h = gate (current disk file) (images file) b (reads file low) h

  pub taken_is : (taken : Bool) → IsTaken disk taken → taken ≡ is_taken images
  taken_is true (inl h) = sym (either_open (is_open (images 0)) (is_open (images 1)) (inl (gate_at 0 true (omega arith) h)))
  taken_is true (inr h) = sym (either_open (is_open (images 0)) (is_open (images 1)) (inr (gate_at 1 true (omega arith) h)))
  taken_is false h = sym (neither_open (is_open (images 0)) (is_open (images 1)) (gate_at 0 false (omega arith) h.0) (gate_at 1 false (omega arith) h.1))

  module _ (settings : Init) (is : History) (left rest old new : Option (List ℕ)) (result : Result ℕ Stop)
      (h : Inits settings disk is left rest old new result) where
    pub init_completes : Completes told_of (out_of settings (is_taken images)) left rest old new result
    init_completes = subst (λ (taken : Bool). Completes told_of (out_of settings taken) left rest old new result) (taken_is h.taken h.looked) h.completes

    pub init_unmade : IfSome left (λ text. (out_of settings (is_taken images) text).status ≢ DONE → Still disk is)
    init_unmade = subst (λ (taken : Bool). IfSome left (λ text. (out_of settings taken text).status ≢ DONE → Still disk is))
        (taken_is h.taken h.looked) h.unwritten

    pub init_stored : IfSome left (λ text. (out_of settings (is_taken images) text).status ≡ DONE → Appends old new [] ⊎ IsMade settings left is)
    init_stored = subst (λ (taken : Bool). IfSome left (λ text. (out_of settings taken text).status ≡ DONE → Appends old new [] ⊎ IsMade settings left is))
        (taken_is h.taken h.looked) h.stored

-- what was told where the source failed goes by no store
pub init_told : {settings : Init} {was is : History} {left rest old new : Option (List ℕ)} {result : Result ℕ Stop}
    → Inits settings was is left rest old new result → (status : ℕ) → status ≡ final_status result → IfOk result IsStored → status ≡ 3
    → IsToldOf told_of left rest old new
init_told {left = left} {rest = rest} {old = old} {new = new} {result = result} h status same own e =
    told_read told_of left rest old new result status same (own_stored result own) h.completes.1 e

-- ---- `run`

module _ (settings : Run) (left rest old new : Option (List ℕ)) (result : Result ℕ Stop) where
  pub over_answered : (found : Reopened) (status : ℕ) → status ≡ final_status result → CompletesOver settings found left rest old new result → IsAnswered status
      → IfSome (out_over settings found left) (λ o. (status ≡ o.status) × Appends old new o.bytes)
  over_answered NoStore status is h a = one_answered none_out old new result status is h.0 a
  over_answered (Damaged file at) status is h a = one_answered (damaged_out file at) old new result status is h.0 a
  over_answered (Found c later) status is h a =
      by_left (out_from settings.drain (start_over settings c later)) left (λ o. (status ≡ o.status) × Appends old new o.bytes)
      (answered (told_from (start_over settings c later)) (out_from settings.drain (start_over settings c later)) left rest old new result status is h a)

  pub over_front : (found : Reopened) → CompletesOver settings found left rest old new result
      → IfSome (out_over settings found left) (λ o. AppendsFront old new o.bytes)
  over_front NoStore h = one_front none_out old new result h.0
  over_front (Damaged file at) h = one_front (damaged_out file at) old new result h.0
  over_front (Found c later) h =
      by_left (out_from settings.drain (start_over settings c later)) left (λ o. AppendsFront old new o.bytes)
      (front (told_from (start_over settings c later)) (out_from settings.drain (start_over settings c later)) left rest old new result h)

  -- the source is at fault only where a store was opened
  pub over_told : (found : Reopened) (status : ℕ) → status ≡ final_status result → IfOk result IsStored → CompletesOver settings found left rest old new result
      → status ≡ 3
      → IsToldOver settings found left rest old new
  over_told NoStore status is own h e = absurd (h.1 (is_read result status is (own_stored result own) e))
  over_told (Damaged file at) status is own h e = absurd (h.1 (is_read result status is (own_stored result own) e))
  over_told (Found c later) status is own h e =
      told_read (told_from (start_over settings c later)) left rest old new result status is (own_stored result own) h.1 e

-- ---- what the disk holds then

abbrev HasEnded : Result ℕ Stop → Type 0
HasEnded result = (result ≡ Ok DONE) ⊎ (result ≡ Err stop.Refused)

pub has_ended : (result : Result ℕ Stop) (status : ℕ) → status ≡ final_status result → IfOk result IsStored → (status ≡ 0) ⊎ (status ≡ 1) → HasEnded result
has_ended (Ok s) status is (inl e) ended = inl (ap (λ (n : ℕ). Ok n) e)
has_ended (Ok s) status is (inr e) ended = absurd (grind (arith, is, e, ended))
has_ended (Err stop.Refused) status is own ended = inr refl
has_ended (Err stop.NoMemory) status is own ended = absurd (grind (arith, is, ended))
has_ended (Err stop.NoWrite) status is own ended = absurd (grind (arith, is, ended))
has_ended (Err stop.NoDisk) status is own ended = absurd (grind (arith, is, ended))
has_ended (Err stop.NoRead) status is own ended = absurd (grind (arith, is, ended))

abbrev IsUnmade : ℕ → Type 0
IsUnmade status = (status ≡ 1) ⊎ (status ≡ 3) ⊎ (status ≡ 6)

abbrev IsEarly : ℕ → Type 0
IsEarly status = (status ≡ 1) ⊎ (status ≡ 3)

module _ {D : Type 0} (history : D → History) (old new : D) where
  still_same : new ≡ old → Still (history old) (history new)
  still_same e = subst (λ (d : D). Still (history old) (history d)) (sym e) (still_none (history old))

  pub unmade : (result : Result ℕ Stop) (status : ℕ) → status ≡ final_status result → IfOk result IsStored → Leaves history old new result → IsUnmade status
      → Still (history old) (history new)
  unmade (Ok s) status is (inl e) h which = absurd (grind (arith, is, e, which))
  unmade (Ok s) status is (inr e) h which = h e
  unmade (Err stop.Refused) status is own h which = still_same h
  unmade (Err stop.NoMemory) status is own h which = absurd (grind (arith, is, which))
  unmade (Err stop.NoWrite) status is own h which = absurd (grind (arith, is, which))
  unmade (Err stop.NoDisk) status is own h which = absurd (grind (arith, is, which))
  unmade (Err stop.NoRead) status is own h which = still_same h

  pub unlooked : (result : Result ℕ Stop) (status : ℕ) → status ≡ final_status result → IfOk result IsStored → Leaves history old new result → IsEarly status
      → new ≡ old
  unlooked (Ok s) status is own h early = absurd (grind (arith, is, own, early))
  unlooked (Err stop.Refused) status is own h early = h
  unlooked (Err stop.NoMemory) status is own h early = absurd (grind (arith, is, early))
  unlooked (Err stop.NoWrite) status is own h early = absurd (grind (arith, is, early))
  unlooked (Err stop.NoDisk) status is own h early = absurd (grind (arith, is, early))
  unlooked (Err stop.NoRead) status is own h early = h
