-- The batches that the records of a log say, behind a checkpoint.
use Rattle.std.specs.Prelude.{◌≡◌, ◌⊎◌, ℕ, ◌+◌, ◌≤◌, ◌==◌, Bool, true, false, List, [], ◌∷◌, length, Option, None, Some, ⊤, IfSome}
use Rattle.aria_base.specs.declared.limits.TheConstants.{GREATEST_NUMBER, MOST_REQUESTS}
use Rattle.disk_model.specs.Files.{File}
use Rattle.input_log.specs.Layout.{Ends, log_of}
use Rattle.input_log.specs.declared.logs.LogEnd.{LogEnd}
use Rattle.input_log.specs.declared.logs.Payload.{Payload}
use Rattle.image_text.specs.Payloads.{Batch, IsPayload, IsCalls}
use Rattle.slot_images.specs.Images.{Checkpoint}

-- In format 1 a payload is the lines of the calls alone, and its batch has the settings of the checkpoint. In format 2 it
-- has its own.
abbrev pub SaysIn : Bool → Checkpoint → List ℕ → Batch → Type 0
SaysIn true c bytes batch = (batch.rule ≡ c.head.rule) × (batch.fallback ≡ c.head.fallback) × IsCalls c.plan bytes batch.calls
SaysIn false c bytes batch = IsPayload c.plan bytes batch

abbrev pub Says : Checkpoint → List ℕ → Batch → Type 0
Says c bytes batch = SaysIn (c.head.format == 1) c bytes batch

-- Behind so many batches and requests there may be one more with so many calls: no more than a batch may have, and no number passes
-- the greatest.
pub record IsWithin (ran numbered calls : ℕ) : Type 0 where
  pub few : calls ≤ MOST_REQUESTS
  pub batches : ran + 1 ≤ GREATEST_NUMBER
  pub requests : numbered + calls ≤ GREATEST_NUMBER

-- a payload is that batch, which may stand behind so many batches and requests
abbrev pub Follows : Checkpoint → ℕ → ℕ → List ℕ → Batch → Type 0
Follows c batches requests bytes batch = Says c bytes batch × IsWithin batches requests (length batch.calls)

-- the batch that a payload says, or there is none
abbrev pub IsThatBatch : Checkpoint → List ℕ → Option Batch → Type 0
IsThatBatch c bytes None = (batch : Batch) → ¬ (Says c bytes batch)
IsThatBatch c bytes (Some batch) = Says c bytes batch

-- the batch that it is there, or there is none
abbrev pub IsNext : Checkpoint → ℕ → ℕ → List ℕ → Option Batch → Type 0
IsNext c batches requests bytes None = (batch : Batch) → ¬ (Follows c batches requests bytes batch)
IsNext c batches requests bytes (Some batch) = Follows c batches requests bytes batch

-- these batches, one a payload, behind so many batches and requests
abbrev pub AreBatches : Checkpoint → ℕ → ℕ → List Payload → List Batch → Type 0
AreBatches c batches requests [] [] = ⊤
AreBatches c batches requests [] (batch ∷ later) = ⊥
AreBatches c batches requests (payload ∷ payloads) [] = ⊥
AreBatches c batches requests (payload ∷ payloads) (batch ∷ later) =
    Follows c batches requests payload.bytes batch
    × AreBatches c (batches + 1) (requests + length batch.calls) payloads later

-- some payloads say these batches behind the checkpoint
abbrev pub AreLater : Checkpoint → List Batch → Type 0
AreLater c later = (payloads : List Payload) × AreBatches c c.head.batches c.head.requests payloads later

-- the offset of the first record that is no batch which may stand there
abbrev pub FirstWrong : Checkpoint → ℕ → ℕ → List Payload → ℕ → Type 0
FirstWrong c batches requests [] at = ⊥
FirstWrong c batches requests (payload ∷ payloads) at =
    ((at ≡ payload.at) × ((batch : Batch) → ¬ (Follows c batches requests payload.bytes batch)))
    ⊎ ((batch : Batch) × Follows c batches requests payload.bytes batch
    × FirstWrong c (batches + 1) (requests + length batch.calls) payloads at)

-- the requests of these batches, and those before
abbrev pub requests_after : ℕ → List Batch → ℕ
requests_after requests [] = requests
requests_after requests (batch ∷ later) = requests_after (requests + length batch.calls) later

-- A log that is told says these batches behind the checkpoint, and ends there.
pub record IsLater (c : Checkpoint) (told : Option File) (later : List Batch) (end : LogEnd) : Type 0 where
  pub payloads : List Payload
  pub log : IfSome told (λ f. log_of f.seen ≡ Ends payloads end.at)
  pub are : AreBatches c c.head.batches c.head.requests payloads later
  pub many : end.batches ≡ length payloads
