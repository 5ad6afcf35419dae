-- What a command comes to that ended or stopped, by its status.
use Rattle.std.proofs.Common.{◌≡◌, ◌≢◌, ◌∙◌, sym, ap, subst, refl, ℕ, List, Option, Some, None, ◌⊎◌, inl, inr, arith}
use Rattle.std.specs.Prelude.{Result, Ok, Err, IfErr, IfOk}
use Rattle.std.specs.Option.{IfSome}
use Rattle.std.specs.Io.KnownBytes.{Appends}
use Rattle.aria_base.specs.Streams.{AppendsFront}
use Rattle.script_course.proofs.Turns.{front_all}
use Rattle.script_course.specs.Causes.{IsCause, IsReadCause}
use Rattle.script_course.specs.Courses.{Course, Out, status_of}
use Rattle.script_course.specs.Served.{Completes, Finishes, IsToldOf, Tells}
use Rattle.script_course.specs.declared.statuses.TheConstants.{DONE}
use Rattle.script_course.specs.declared.stops.Stop.{Stop}
use Rattle.script_course.specs.declared.stops.Stop.TheVariants as stop
use Rattle.aria_top.specs.Statuses.{IsAnswered, IsEnded, final_status}

if_some : {A : Type 0} (o : Option A) (P Q : A → Type 0) → ((a : A) → P a → Q a) → IfSome o P → IfSome o Q
if_some None P Q f h = tt
if_some (Some a) P Q f h = f a h

-- ---- what was printed

module _ (out : Out) (old new : Option (List ℕ)) where
  pub one_answered : (result : Result ℕ Stop) (status : ℕ) → status ≡ final_status result → Finishes out old new result → IsAnswered status
      → (status ≡ out.status) × Appends old new out.bytes
  one_answered (Ok s) status is h a = (is ∙ sym h.0, h.1)
  one_answered (Err stop.Refused) status is h a = (is ∙ sym h.0, h.1)
  one_answered (Err stop.NoMemory) status is h a = absurd (grind (arith, is, a))
  one_answered (Err stop.NoWrite) status is h a = absurd (grind (arith, is, a))
  one_answered (Err stop.NoDisk) status is h a = absurd (grind (arith, is, a))
  one_answered (Err stop.NoRead) status is h a = absurd (grind (arith, is, a))

  pub one_front : (result : Result ℕ Stop) → Finishes out old new result → AppendsFront old new out.bytes
  one_front (Ok s) h = front_all old new out.bytes h.1
  one_front (Err stop.Refused) h = front_all old new out.bytes h.1
  one_front (Err stop.NoMemory) h = h
  one_front (Err stop.NoWrite) h = h
  one_front (Err stop.NoDisk) h = h
  one_front (Err stop.NoRead) h = h

-- by the text that was read
module _ {R : Type 0} (told : List ℕ → Course R) (out : List ℕ → Out) (left rest old new : Option (List ℕ)) (result : Result ℕ Stop) where
  pub answered : (status : ℕ) → status ≡ final_status result → Completes told out left rest old new result → IsAnswered status
      → IfSome left (λ text. (status ≡ (out text).status) × Appends old new (out text).bytes)
  answered status is h a = if_some left (λ text. Finishes (out text) old new result) (λ text. (status ≡ (out text).status) × Appends old new (out text).bytes)
      (λ text k. one_answered (out text) old new result status is k a) h.0

  pub front : Completes told out left rest old new result → IfSome left (λ text. AppendsFront old new (out text).bytes)
  front h = if_some left (λ text. Finishes (out text) old new result) (λ text. AppendsFront old new (out text).bytes)
      (λ text k. one_front (out text) old new result k) h.0

-- ---- a status of its own is no fault

pub own_done : (result : Result ℕ Stop) → IfOk result (λ s. s ≡ DONE) → IfOk result IsAnswered
own_done (Ok s) h = inl (inl h)
own_done (Err why) h = tt

pub own_ended : (result : Result ℕ Stop) → IfOk result IsEnded → IfOk result IsAnswered
own_ended (Ok s) h = inl h
own_ended (Err why) h = tt

-- done, or a store refused
abbrev pub IsStored : ℕ → Type 0
IsStored status = (status ≡ 0) ⊎ (status ≡ 6)

pub own_stored : (result : Result ℕ Stop) → IfOk result IsStored → IfOk result IsAnswered
own_stored (Ok s) (inl e) = inl (inl e)
own_stored (Ok s) (inr e) = inr (inr (inr e))
own_stored (Err why) h = tt

-- ---- the cause of a stop

module _ (source sink disk : Type 0) where
  abbrev Caused : Result ℕ Stop → Type 0
  Caused result = IfErr result (λ why. IsReadCause why source sink disk)

  pub read_fault : (result : Result ℕ Stop) (status : ℕ) → status ≡ final_status result → IfOk result IsAnswered → Caused result → status ≡ 3 → source
  read_fault (Ok s) status is own h e = absurd (grind (arith, is, own, e))
  read_fault (Err stop.Refused) status is own h e = absurd (omega (arith, is, e))
  read_fault (Err stop.NoMemory) status is own h e = absurd (omega (arith, is, e))
  read_fault (Err stop.NoWrite) status is own h e = absurd (omega (arith, is, e))
  read_fault (Err stop.NoDisk) status is own h e = absurd (omega (arith, is, e))
  read_fault (Err stop.NoRead) status is own h e = h

  pub write_fault : (result : Result ℕ Stop) (status : ℕ) → status ≡ final_status result → IfOk result IsAnswered → Caused result → status ≡ 4 → sink
  write_fault (Ok s) status is own h e = absurd (grind (arith, is, own, e))
  write_fault (Err stop.Refused) status is own h e = absurd (omega (arith, is, e))
  write_fault (Err stop.NoMemory) status is own h e = absurd (omega (arith, is, e))
  write_fault (Err stop.NoWrite) status is own h e = h
  write_fault (Err stop.NoDisk) status is own h e = absurd (omega (arith, is, e))
  write_fault (Err stop.NoRead) status is own h e = absurd (omega (arith, is, e))

  pub disk_fault : (result : Result ℕ Stop) (status : ℕ) → status ≡ final_status result → IfOk result IsAnswered → Caused result → status ≡ 5 → disk
  disk_fault (Ok s) status is own h e = absurd (grind (arith, is, own, e))
  disk_fault (Err stop.Refused) status is own h e = absurd (omega (arith, is, e))
  disk_fault (Err stop.NoMemory) status is own h e = absurd (omega (arith, is, e))
  disk_fault (Err stop.NoWrite) status is own h e = absurd (omega (arith, is, e))
  disk_fault (Err stop.NoDisk) status is own h e = h
  disk_fault (Err stop.NoRead) status is own h e = absurd (omega (arith, is, e))

-- a command that reads nothing
pub unread : (sink disk : Type 0) (result : Result ℕ Stop) → IfErr result (λ why. IsCause why sink disk) → Caused ⊥ sink disk result
unread sink disk (Ok s) h = tt
unread sink disk (Err stop.Refused) h = tt
unread sink disk (Err stop.NoMemory) h = tt
unread sink disk (Err stop.NoWrite) h = h
unread sink disk (Err stop.NoDisk) h = h
unread sink disk (Err stop.NoRead) h = h

-- ---- which statuses there are

-- of a script, beside those of its own
module _ (source sink : Type 0) (P : ℕ → Type 0) where
  pub others : (result : Result ℕ Stop) (status : ℕ) → status ≡ final_status result → IfOk result P → Caused source sink ⊥ result
      → P status ⊎ (status ≡ 1) ⊎ (status ≡ 3) ⊎ (status ≡ 4) ⊎ (status ≡ 7)
  others (Ok s) status is own h = inl (subst P (sym is) own)
  others (Err stop.Refused) status is own h = inr (inl is)
  others (Err stop.NoMemory) status is own h = inr (inr (inr (inr is)))
  others (Err stop.NoWrite) status is own h = inr (inr (inr (inl is)))
  others (Err stop.NoDisk) status is own h = absurd h
  others (Err stop.NoRead) status is own h = inr (inr (inl is))

-- of a script that is drawn
pub others_drawn : (bytes : List ℕ) (old new : Option (List ℕ)) (sink : Type 0) (result : Result ℕ Stop) (status : ℕ) → status ≡ final_status result
    → IfOk result (λ s. s ≡ DONE)
    → Finishes (record { bytes = bytes; status = DONE }) old new result → IfErr result (λ why. IsCause why sink ⊥)
    → (status ≡ 0) ⊎ (status ≡ 4) ⊎ (status ≡ 7)
others_drawn bytes old new sink (Ok s) status is own h cause = inl (is ∙ own)
others_drawn bytes old new sink (Err stop.Refused) status is own h cause = let wrong : DONE ≡ status_of stop.Refused = h.0 in absurd (cc wrong)
others_drawn bytes old new sink (Err stop.NoMemory) status is own h cause = inr (inr is)
others_drawn bytes old new sink (Err stop.NoWrite) status is own h cause = inr (inl is)
others_drawn bytes old new sink (Err stop.NoDisk) status is own h cause = absurd cause
others_drawn bytes old new sink (Err stop.NoRead) status is own h cause = absurd cause

-- of a script over a store, and of a head
pub others_stored : (result : Result ℕ Stop) (status : ℕ) → status ≡ final_status result → IfOk result IsStored
    → (status ≡ 0) ⊎ (status ≡ 6) ⊎ (status ≡ 1) ⊎ (status ≡ 3) ⊎ (status ≡ 4) ⊎ (status ≡ 5) ⊎ (status ≡ 7)
others_stored (Ok s) status is (inl e) = inl (is ∙ e)
others_stored (Ok s) status is (inr e) = inr (inl (is ∙ e))
others_stored (Err stop.Refused) status is own = inr (inr (inl is))
others_stored (Err stop.NoMemory) status is own = inr (inr (inr (inr (inr (inr is)))))
others_stored (Err stop.NoWrite) status is own = inr (inr (inr (inr (inl is))))
others_stored (Err stop.NoDisk) status is own = inr (inr (inr (inr (inr (inl is)))))
others_stored (Err stop.NoRead) status is own = inr (inr (inr (inl is)))

-- of a log
pub others_logged : (result : Result ℕ Stop) (status : ℕ) → status ≡ final_status result → IfOk result IsStored → result ≢ Err stop.Refused
    → result ≢ Err stop.NoRead
    → (status ≡ 0) ⊎ (status ≡ 6) ⊎ (status ≡ 4) ⊎ (status ≡ 5) ⊎ (status ≡ 7)
others_logged (Ok s) status is (inl e) refused read = inl (is ∙ e)
others_logged (Ok s) status is (inr e) refused read = inr (inl (is ∙ e))
others_logged (Err stop.Refused) status is own refused read = absurd (refused refl)
others_logged (Err stop.NoMemory) status is own refused read = inr (inr (inr (inr is)))
others_logged (Err stop.NoWrite) status is own refused read = inr (inr (inl is))
others_logged (Err stop.NoDisk) status is own refused read = inr (inr (inr (inl is)))
others_logged (Err stop.NoRead) status is own refused read = absurd (read refl)

-- ---- what is known then

-- what holds where it ended
pub ended : (P : Type 0) (result : Result ℕ Stop) (status : ℕ) → status ≡ final_status result → IfOk result (λ _. P) → IsEnded status → P
ended P (Ok s) status is h e = h
ended P (Err stop.Refused) status is h e = absurd (grind (arith, is, e))
ended P (Err stop.NoMemory) status is h e = absurd (grind (arith, is, e))
ended P (Err stop.NoWrite) status is h e = absurd (grind (arith, is, e))
ended P (Err stop.NoDisk) status is h e = absurd (grind (arith, is, e))
ended P (Err stop.NoRead) status is h e = absurd (grind (arith, is, e))

pub ended_stored : (P : Type 0) (result : Result ℕ Stop) (status : ℕ) → status ≡ final_status result → IfOk result (λ _. P) → IsStored status → P
ended_stored P (Ok s) status is h e = h
ended_stored P (Err stop.Refused) status is h e = absurd (grind (arith, is, e))
ended_stored P (Err stop.NoMemory) status is h e = absurd (grind (arith, is, e))
ended_stored P (Err stop.NoWrite) status is h e = absurd (grind (arith, is, e))
ended_stored P (Err stop.NoDisk) status is h e = absurd (grind (arith, is, e))
ended_stored P (Err stop.NoRead) status is h e = absurd (grind (arith, is, e))

-- a status of no stop is its own
pub own_as : (n : ℕ) (result : Result ℕ Stop) (status : ℕ) → (n ≡ 0) ⊎ (n ≡ 6) → status ≡ final_status result → status ≡ n → result ≡ Ok n
own_as n (Ok s) status which is e = ap (λ (m : ℕ). Ok m) (sym is ∙ e)
own_as n (Err stop.Refused) status which is e = absurd (grind (arith, which, is, e))
own_as n (Err stop.NoMemory) status which is e = absurd (grind (arith, which, is, e))
own_as n (Err stop.NoWrite) status which is e = absurd (grind (arith, which, is, e))
own_as n (Err stop.NoDisk) status which is e = absurd (grind (arith, which, is, e))
own_as n (Err stop.NoRead) status which is e = absurd (grind (arith, which, is, e))

-- the source failed
pub is_read : (result : Result ℕ Stop) (status : ℕ) → status ≡ final_status result → IfOk result IsAnswered → status ≡ 3 → result ≡ Err stop.NoRead
is_read (Ok s) status is own e = absurd (grind (arith, is, own, e))
is_read (Err stop.Refused) status is own e = absurd (omega (arith, is, e))
is_read (Err stop.NoMemory) status is own e = absurd (omega (arith, is, e))
is_read (Err stop.NoWrite) status is own e = absurd (omega (arith, is, e))
is_read (Err stop.NoDisk) status is own e = absurd (omega (arith, is, e))
is_read (Err stop.NoRead) status is own e = refl

pub told_read : {R : Type 0} (told : List ℕ → Course R) (left rest old new : Option (List ℕ)) (result : Result ℕ Stop) (status : ℕ)
    → status ≡ final_status result → IfOk result IsAnswered → Tells told left rest old new result → status ≡ 3 → IsToldOf told left rest old new
told_read told left rest old new result status is own h e =
    subst (λ (r : Result ℕ Stop). Tells told left rest old new r) (is_read result status is own e) h

-- ---- what the searches of the commands may use

pub ruleset command_ends = (answered, front, own_done, own_ended, read_fault, write_fault, others, ended, told_read)
