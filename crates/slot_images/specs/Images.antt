-- What a checkpoint says, and what the file of a slot reads as.
use Rattle.std.specs.Prelude.{◌≡◌, ℕ, ◌≤◌, List, length, Option, Some, None}
use Rattle.aria_base.specs.Orders.{Database}
use Rattle.aria_base.specs.declared.calls.Request.{Request}
use Rattle.aria_base.specs.declared.limits.TheConstants.{MOST_REQUESTS}
use Rattle.proc_lang.specs.Catalogs.{Plan}
use Rattle.batch_core.specs.Serial.{RiseWithin}
use Rattle.checkpoint.specs.declared.heads.Head.{Head}
use Rattle.checkpoint.specs.Slots.{Slot, Shut, Shown, Bad, slot_of}
use Rattle.image_text.specs.Bodies.{Values, IsBody}

-- a checkpoint: its head, the catalogue, all rows, and the requests that are carried over
pub record Checkpoint : Type 0 where
  pub head : Head
  pub plan : Plan
  pub rows : Database
  pub held : List Request

-- what its body is the text of
abbrev pub values_in : Checkpoint → Values
values_in c = (c.plan, c.rows, c.held)

abbrev pub checkpoint_of : Head → Values → Checkpoint
checkpoint_of head v = record { head = head; plan = v.0; rows = v.1; held = v.2 }

-- A checkpoint with this head may carry these requests over: their numbers are of those that were given, from 1 to the last one, and
-- rise; and no more are carried than a batch may have.
pub record MayCarry (head : Head) (held : List Request) : Type 0 where
  pub numbered : RiseWithin (λ request. request.q) 0 held head.requests
  pub few : length held ≤ MOST_REQUESTS

-- behind this head the body is the text of these values
pub record IsBodyFor (head : Head) (body : List ℕ) (v : Values) : Type 0 where
  pub text : IsBody body v
  pub carried : MayCarry head v.2

-- ---- what a file reads as

pub data Reading : Type 0 where
  -- no checkpoint: the gate is closed, or there are no bytes
  Nothing : Reading
  Says : Checkpoint → Reading
  -- damage, at this offset
  Broken : ℕ → Reading

-- The body of a slot whose head is in order. One that is the text of no values, or of values that the head may not carry, is
-- damaged where it begins.
abbrev pub BodyReads : Head → List ℕ → Reading → Type 0
BodyReads head body Nothing = ⊥
BodyReads head body (Says c) = (c.head ≡ head) × IsBodyFor head body (values_in c)
BodyReads head body (Broken at) = (at ≡ 40) × ((v : Values) → ¬ (IsBodyFor head body v))

-- a slot, where it is looked at as the one that is taken
abbrev pub SlotReads : Slot → Reading → Type 0
SlotReads Shut reading = reading ≡ Nothing
SlotReads (Shown head body) reading = BodyReads head body reading
SlotReads (Bad at) reading = reading ≡ Broken at

-- the file of a slot with these bytes
abbrev pub FileReads : ℕ → List ℕ → Reading → Type 0
FileReads slot bytes reading = SlotReads (slot_of slot bytes) reading

-- a checkpoint, or none
abbrev pub reading_of : Option Checkpoint → Reading
reading_of None = Nothing
reading_of (Some c) = Says c

-- what a body makes behind its head, where it may make none
abbrev pub body_reading : Option Checkpoint → Reading
body_reading None = Broken 40
body_reading (Some c) = Says c
