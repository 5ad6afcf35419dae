-- What is known of an open store, and what its disk holds then.
use Rattle.std.specs.Prelude.{◌≡◌, ℕ, ◌+◌, ◌<◌, IsSome, List, [], ◌∷◌, ◌++◌, length, map, None}
use Rattle.aria_base.specs.Faults.{one_more}
use Rattle.batch_rules.specs.declared.verdicts.Rule.{Rule}
use Rattle.disk_model.specs.Histories.{History, current}
use Rattle.input_log.specs.Layout.{Ends}
use Rattle.input_log.specs.declared.logs.Payload.{Payload}
use Rattle.checkpoint.specs.declared.heads.Head.{Head}
use Rattle.image_text.specs.Payloads.{Batch}
use Rattle.image_text.specs.declared.payloads.Logged.{Logged}
use Rattle.proc_lang.specs.Catalogs.{Plan}
use Rattle.aria_base.specs.declared.calls.Call.{Call}
use Rattle.image_text.specs.Bodies.{Values}
use Rattle.slot_images.specs.Images.{Checkpoint, values_in, checkpoint_of, IsBodyFor}
use Rattle.store_files.specs.Holdings.{Holds}
use Rattle.store_files.specs.Stores.{Stored, slot_in, next_head}
use Rattle.aria_store.specs.Records.{AreBatches, IsWithin, requests_after}

-- what contracts see of a store
pub record Kept : Type 0 where
  pub files : Stored
  -- the settings of the last record, or of the checkpoint where there is none
  pub rule : Rule
  pub fallback : ℕ

-- the settings after these batches
abbrev pub rule_after : Rule → List Batch → Rule
rule_after rule [] = rule
rule_after rule (batch ∷ later) = rule_after batch.rule later

abbrev pub fallback_after : ℕ → List Batch → ℕ
fallback_after fallback [] = fallback
fallback_after fallback (batch ∷ later) = fallback_after batch.fallback later

-- the store knows that these batches stand behind this checkpoint
pub record IsKnown (store : Kept) (c : Checkpoint) (later : List Batch) : Type 0 where
  pub head : store.files.head ≡ c.head
  pub rule : store.rule ≡ rule_after c.head.rule later
  pub fallback : store.fallback ≡ fallback_after c.head.fallback later
  pub batches : store.files.batches ≡ length later

-- In every image that a stop now may leave, the disk holds this checkpoint and these batches behind it, and the store knows them.
pub record Stands (disk : History) (store : Kept) (c : Checkpoint) (later : List Batch) : Type 0 where
  pub known : IsKnown store c later
  pub body : List ℕ
  pub says : IsBodyFor c.head body (values_in c)
  pub payloads : List Payload
  pub are : AreBatches c c.head.batches c.head.requests payloads later
  pub holds : Holds disk (slot_in store.files) store.files.head body (Ends payloads store.files.at)

-- the disk tells each of the four files
abbrev pub IsTold : History → Type 0
IsTold disk = (file : ℕ) → file < 4 → IsSome (current disk file)

-- A batch with so many calls may be added behind these: by the checkpoint's own catalogue, and no number passes the greatest.
pub record MayAdd (plan : Plan) (calls : ℕ) (c : Checkpoint) (later : List Batch) : Type 0 where
  pub catalog : plan ≡ c.plan
  pub within : IsWithin (c.head.batches + length later) (requests_after c.head.requests later) calls

-- a batch in code
abbrev pub batch_in : Logged → Batch
batch_in logged = record { rule = logged.rule; fallback = logged.fallback; calls = logged.calls.items }

abbrev pub batches_in : List Logged → List Batch
batches_in later = map batch_in later

-- these batches and one more
abbrev pub added : List Batch → Rule → ℕ → List Call → List Batch
added later rule fallback calls = later ++ record { rule = rule; fallback = fallback; calls = calls } ∷ []

-- a store with this checkpoint and no batches
abbrev pub new_store : Head → Kept
new_store head = record { files = record { head = head; at = 0; batches = 0; closed = None }; rule = head.rule; fallback = head.fallback }

-- the checkpoint that a rotation writes
abbrev pub next_checkpoint : Kept → Rule → ℕ → ℕ → ℕ → Values → Checkpoint
next_checkpoint store rule fallback batches requests v = checkpoint_of (next_head store.files.head rule fallback batches requests) v

-- a store after a batch more, whose payload has so many bytes
abbrev pub with_batch : Kept → ℕ → Rule → ℕ → Kept
with_batch store bytes rule fallback = record {
  files = record store.files { at = store.files.at + 5 + bytes; batches = one_more store.files.batches };
  rule = rule;
  fallback = fallback;
}
