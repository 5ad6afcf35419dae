-- There are no four files that read as nothing.
use Rattle.std.proofs.Common.{◌≡◌, ◌⊎◌, inl, inr, refl, ℕ, ◌+◌, List, [], ◌∷◌, length}
use Rattle.image_text.specs.Payloads.{Batch}
use Rattle.input_log.specs.Layout.{Log, Ends, Breaks}
use Rattle.input_log.specs.declared.logs.Payload.{Payload}
use Rattle.slot_images.specs.Images.{Checkpoint, checkpoint_of}
use Rattle.slot_images.specs.Images as images
use Rattle.store_files.specs.Openings.{Opened, NoGate, Damage, Taken, opened_of}
use Rattle.aria_store.specs.Records.{AreBatches, FirstWrong}
use Rattle.aria_store.specs.Reopens.{Reopened, NoStore, Damaged, Found, LogReads, OpenedReads, Reopens}

-- the records of a log say batches to its end, or one of them is the first that is wrong
records : (c : Checkpoint) (batches requests : ℕ) (payloads : List Payload)
    → ((later : List Batch) → ¬ (AreBatches c batches requests payloads later))
    → ((at : ℕ) → ¬ (FirstWrong c batches requests payloads at)) → ⊥
records c batches requests [] none right = none [] tt
records c batches requests (payload ∷ payloads) none right =
    right payload.at (inl (
      refl,
      λ batch follows.
          records c (batches + 1) (requests + length batch.calls) payloads
          (λ later are. none (batch ∷ later) (follows, are))
          (λ at wrong. right at (inr (batch, follows, wrong))),
    ))

logs : (slot : ℕ) (c : Checkpoint) (log : Log) → ((found : Reopened) → ¬ (LogReads slot c log found)) → ⊥
logs slot c (Breaks at) none = none (Damaged (2 + slot) at) refl
logs slot c (Ends payloads end) none =
    records c c.head.batches c.head.requests payloads
    (λ later are. none (Found c later) (refl, are))
    (λ at wrong. none (Damaged (2 + slot) at) (refl, wrong))

by_opened : (opened : Opened) → ((found : Reopened) → ¬ (OpenedReads opened found)) → ⊥
by_opened NoGate none = none NoStore refl
by_opened (Damage file at) none = none (Damaged file at) refl
by_opened (Taken slot head body log) none =
    none (Damaged slot 40) (
      images.Broken 40,
      (
        refl,
        λ v is.
            logs slot (checkpoint_of head v) log
            (λ found reads. none found (images.Says (checkpoint_of head v), (refl, is), reads)),
      ),
      refl,
    )

pub reopens_some : (files : ℕ → List ℕ) → ((found : Reopened) → ¬ (Reopens files found)) → ⊥
reopens_some files none = by_opened (opened_of files) none
