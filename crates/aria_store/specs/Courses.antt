-- What any list of calls may leave, from the creation of a store on.
use Rattle.std.specs.Prelude.{◌≡◌, ◌⊎◌, ℕ, ◌≤◌, List, [], ◌∷◌}
use Rattle.disk_model.specs.Histories.{History, MayLeave, LeavesAll}
use Rattle.image_text.specs.Payloads.{Batch}
use Rattle.slot_images.specs.Images.{Checkpoint}
use Rattle.aria_store.specs.Reopens.{Found, Reopens}
use Rattle.aria_store.specs.Stands.{Kept, Stands}

pub data Event : Type 0 where
  -- a creation that answered Ok, with the store and its checkpoint
  Created : Kept → Checkpoint → Event
  -- a batch added, or a checkpoint written: the disk at the call, the store, what it held, and what it is to hold
  Wrote : History → Kept → Checkpoint → List Batch → Checkpoint → List Batch → Event
  -- attaching: the disk at the call
  Attached : History → Event
  -- a stop at that moment: the disk that stopped. The next one begins with an image that it left.
  Stopped : History → ℕ → Event

-- These events, the last one first, lead to that moment of the disk. A call may be cut off at any moment since its start, whatever
-- it answers.
abbrev pub IsCourse : List Event → History → ℕ → Type 0
IsCourse [] disk moment = ⊥
IsCourse (Created store c ∷ before) disk moment = (moment ≡ disk.now) × Stands disk store c []
IsCourse (Wrote old store c later d more ∷ before) disk moment =
    (old.now ≤ moment) × (moment ≤ disk.now) × IsCourse before old old.now × Stands old store c later
    × LeavesAll old disk (λ images. Reopens images (Found c later) ⊎ Reopens images (Found d more))
IsCourse (Attached old ∷ before) disk moment =
    (old.now ≤ moment) × (moment ≤ disk.now) × IsCourse before old old.now × LeavesAll old disk (MayLeave old old.now)
IsCourse (Stopped old at ∷ before) disk moment =
    (moment ≡ disk.now) × IsCourse before old at × ((images : ℕ → List ℕ) → MayLeave disk disk.now images → MayLeave old at images)
