-- What the bytes of a log stand for: its records up to the first closed gate.
use Rattle.std.specs.Prelude.{◌≡◌, ◌⊎◌, ℕ, zero, suc, ◌+◌, ◌==◌, nat_lt, List, [], ◌∷◌, ◌++◌, length, take, drop, if◌then◌else◌}
use Rattle.std.specs.Prelude.{Option, None, Some}
use Rattle.byteorder.specs.Endian.{little_number, little_bytes}
use Rattle.input_log.specs.declared.logs.Payload.{Payload}
use Rattle.disk_model.specs.Files.{File}
use Rattle.disk_model.specs.Histories.{HasImage}

-- what stands at a gate
pub data Next : Type 0 where
  -- a closed gate
  Closed : Next
  -- an open gate with its record's payload, and a gate behind it
  Open : List ℕ → Next
  -- an open gate, but the file ends within its record; or no gate at all
  Broken : Next

-- The bytes from a gate on. An open gate is 1; then come the payload's length in four bytes, the lowest first, and the
-- payload.
abbrev pub next_of : List ℕ → Next
next_of [] = Broken
next_of (gate ∷ rest) =
    let len = little_number 4 rest in
    if gate == 1 then (if nat_lt (4 + len) (length rest) then Open (take len (drop 4 rest)) else Broken)
    else Closed

pub data Log : Type 0 where
  -- the payloads up to the first closed gate, and where it stands
  Ends : List Payload → ℕ → Log
  -- the gate at which the log is broken
  Breaks : ℕ → Log

-- the log by what stands at the gate, the payloads before it, and how it goes on behind a record
abbrev pub by_next : Next → List Payload → ℕ → (List ℕ → Log) → Log
by_next Closed before at behind = Ends before at
by_next (Open payload) before at behind = behind payload
by_next Broken before at behind = Breaks at

abbrev pub with_payload : List Payload → ℕ → List ℕ → List Payload
with_payload before at payload = before ++ record { at = at; bytes = payload } ∷ []

-- at most so many records from a gate on, after the payloads before it
abbrev pub read_log : ℕ → List Payload → ℕ → List ℕ → Log
read_log zero before at bytes = Breaks at
read_log (suc fuel) before at bytes =
    by_next (next_of bytes) before at
    (λ payload. read_log fuel (with_payload before at payload) (at + 5 + length payload) (drop (5 + length payload) bytes))

-- the log from a gate on, after the payloads before it
abbrev pub log_from : List Payload → ℕ → List ℕ → Log
log_from before at bytes = read_log (length bytes) before at bytes

-- the log of a file
abbrev pub log_of : List ℕ → Log
log_of bytes = log_from [] 0 bytes

-- a log with one payload more
abbrev pub with_record : List ℕ → Log → Log
with_record payload (Ends payloads at) = Ends (with_payload payloads at payload) (at + 5 + length payload)
with_record payload (Breaks at) = Breaks at

-- what stands behind the gate of a record, and the next gate, closed
abbrev pub behind_gate : List ℕ → List ℕ
behind_gate payload = little_bytes 4 (length payload) ++ payload ++ 0 ∷ []

-- a record as it stands in a file: its open gate, and what stands behind it
abbrev pub record_bytes : List ℕ → List ℕ
record_bytes payload = 1 ∷ behind_gate payload

-- the first closed gate stands there, behind so many records
abbrev pub EndsAt : List ℕ → ℕ → ℕ → Type 0
EndsAt bytes at batches = (payloads : List Payload) × (log_of bytes ≡ Ends payloads at) × (length payloads ≡ batches)

-- the log is that of an image from before, without the payload or with it
abbrev pub IsWithOrWithout : Option File → List ℕ → List ℕ → Type 0
IsWithOrWithout told payload image = (before : List ℕ) × HasImage told before
    × ((log_of image ≡ log_of before) ⊎ (log_of image ≡ with_record payload (log_of before)))

-- what stands at a gate, where nothing is broken
abbrev pub next_is : Option (List ℕ) → Next
next_is None = Closed
next_is (Some payload) = Open payload
