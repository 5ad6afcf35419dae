-- What an open store holds is what its files read as; they read as nothing else, and never as damage.
use Rattle.std.specs.Prelude.{◌≡◌, ℕ, List}
use Rattle.disk_model.specs.Histories.{History, MayLeave, LeavesAll}
use Rattle.image_text.specs.Payloads.{Batch}
use Rattle.slot_images.specs.Images.{Checkpoint}
use Rattle.aria_store.specs.Reopens.{Reopened, NoStore, Damaged, Found, Reopens}
use Rattle.aria_store.specs.Stands.{Kept, Stands}
use Rattle.aria_store.specs.Courses.{Event, IsCourse}

-- four files read as one thing alone
abbrev pub ReopensOnce : Type 0
ReopensOnce = (images : ℕ → List ℕ) (one other : Reopened) → Reopens images one → Reopens images other → one ≡ other

-- and as something: that there is nothing which they read as cannot be
abbrev pub ReopensSome : Type 0
ReopensSome = (images : ℕ → List ℕ) → ¬ ((found : Reopened) → ¬ (Reopens images found))

-- every image that a stop now may leave reads as what the disk holds
abbrev pub StandingIsFound : Type 0
StandingIsFound =
    (disk : History) (store : Kept) (c : Checkpoint) (later : List Batch) → Stands disk store c later
    → (images : ℕ → List ℕ) → MayLeave disk disk.now images → Reopens images (Found c later)

-- what a disk holds is what is found when it is attached
abbrev pub FoundAgain : Type 0
FoundAgain =
    (old new : History) (store other : Kept) (c d : Checkpoint) (later more : List Batch) → Stands old store c later
    → LeavesAll old new (MayLeave old old.now) → Stands new other d more
    → (images : ℕ → List ℕ) → MayLeave new new.now images → (c ≡ d) × (later ≡ more)

-- From a creation on every image, at whatever moment, reads as a checkpoint with batches behind it, and as nothing else.
abbrev pub NeverDamaged : Type 0
NeverDamaged =
    (events : List Event) (disk : History) (moment : ℕ) → IsCourse events disk moment
    → (images : ℕ → List ℕ) → MayLeave disk moment images
    → ((c : Checkpoint) × (later : List Batch) × Reopens images (Found c later))
    × ¬ (Reopens images NoStore) × ((file at : ℕ) → ¬ (Reopens images (Damaged file at)))
