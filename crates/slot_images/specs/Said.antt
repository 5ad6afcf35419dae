-- What an image in code says, and what is true of each that was loaded.
use Rattle.std.specs.Prelude.{◌≡◌, ℕ, ◌≤◌, true}
use Rattle.std.specs.List.{All}
use Rattle.aria_base.specs.Schemas.{IsConsistent}
use Rattle.aria_base.specs.declared.limits.TheConstants.{GREATEST_NUMBER, MOST_PERCENT}
use Rattle.proc_lang.specs.Catalogs.{takes}
use Rattle.checkpoint.specs.declared.heads.Head.{Head}
use Rattle.checkpoint.specs.Damage.{IsSound}
use Rattle.slot_images.specs.declared.images.Image.{Image}
use Rattle.slot_images.specs.Images.{Checkpoint, MayCarry}

abbrev pub head_in : Image → Head
head_in image = record {
  format = image.format;
  rule = image.rule;
  fallback = image.fallback;
  generation = image.generation;
  batches = image.batches;
  requests = image.requests;
}

abbrev pub checkpoint_in : Image → Checkpoint
checkpoint_in image = record { head = head_in image; plan = image.catalog; rows = image.tables; held = image.held.items }

-- its rows and calls fit its catalogue, and its head may carry the calls
pub record IsFitting (c : Checkpoint) : Type 0 where
  pub consistent : IsConsistent c.plan.tables c.rows
  pub fit : All (λ request. takes c.plan request.call ≡ true) c.held
  pub carried : MayCarry c.head c.held

-- an image that a slot may show
pub record IsInOrder (slot : ℕ) (c : Checkpoint) : Type 0 where
  pub sound : IsSound slot c.head
  pub fallback : c.head.fallback ≤ MOST_PERCENT
  pub batches : c.head.batches ≤ GREATEST_NUMBER
  pub requests : c.head.requests ≤ GREATEST_NUMBER
  pub fits : IsFitting c
