-- What a disk tells: its files at each moment of its clock, and how often it failed.
use Rattle.std.specs.Prelude.{◌≡◌, ◌≢◌, ℕ, ◌+◌, ◌<◌, ◌≤◌, ◌⊎◌, List, Option, None, Some, IfSome, IsSomeAnd}
use Rattle.disk_model.specs.Files.{File, IsImage, Lost}

pub record History : Type 0 where
  -- the moment, a number that never falls
  pub now : ℕ
  -- each file at each moment up to now, where the disk tells it
  pub file_at : ℕ → ℕ → Option File
  -- how often a call has failed
  pub faults : ℕ

-- the file now
abbrev pub current : History → ℕ → Option File
current disk file = disk.file_at disk.now file

-- each image of a file that the disk tells has P
abbrev pub EachImage : Option File → (List ℕ → Type 0) → Type 0
EachImage told P = IfSome told (λ file. (image : List ℕ) → IsImage file image → P image)

-- one image of a file that the disk tells
abbrev pub HasImage : Option File → List ℕ → Type 0
HasImage told image = IsSomeAnd told (λ file. IsImage file image)

-- the only image of the file is what a read gives
abbrev pub IsStable : Option File → Type 0
IsStable told = IfSome told (λ file. (image : List ℕ) → IsImage file image → image ≡ file.seen)

-- A stop at that moment may leave these four files.
abbrev pub MayLeave : History → ℕ → (ℕ → List ℕ) → Type 0
MayLeave disk moment images = (file : ℕ) → file < 4 → HasImage (disk.file_at moment file) (images file)

-- One call on a file of a disk: at most one moment, the past and the other files stay, and the faults never fall.
pub record Acts (old new : History) (file : ℕ) : Type 0 where
  pub later : old.now ≤ new.now
  pub soon : new.now ≤ old.now + 1
  pub past : (moment other : ℕ) → moment ≤ old.now → new.file_at moment other ≡ old.file_at moment other
  pub others : (other : ℕ) → other ≢ file → current new other ≡ current old other
  pub faults : old.faults ≤ new.faults

-- Any calls on one file: at every moment since old, that one included, the file has P and the other files are as they
-- were. The moments before are as they were.
pub record Within (old new : History) (file : ℕ) (P : Option File → Type 0) : Type 0 where
  pub later : old.now ≤ new.now
  pub past : (moment other : ℕ) → moment ≤ old.now → new.file_at moment other ≡ old.file_at moment other
  pub others : (moment other : ℕ) → old.now ≤ moment → moment ≤ new.now → other ≢ file → new.file_at moment other ≡ current old other
  pub each : (moment : ℕ) → old.now ≤ moment → moment ≤ new.now → P (new.file_at moment file)
  pub faults : old.faults ≤ new.faults

-- every image of the file since old has P, and the other files stay
abbrev pub Leaves : History → History → ℕ → (List ℕ → Type 0) → Type 0
Leaves old new file P = Within old new file (λ told. EachImage told P)

-- Any calls: no file changes at any moment since old, that one included.
pub record Still (old new : History) : Type 0 where
  pub later : old.now ≤ new.now
  pub past : (moment file : ℕ) → moment ≤ old.now → new.file_at moment file ≡ old.file_at moment file
  pub same : (moment file : ℕ) → old.now ≤ moment → moment ≤ new.now → new.file_at moment file ≡ current old file
  pub faults : old.faults ≤ new.faults

-- Any calls: the four files that a stop leaves at any moment since old, that one included, have Q.
pub record LeavesAll (old new : History) (Q : (ℕ → List ℕ) → Type 0) : Type 0 where
  pub later : old.now ≤ new.now
  pub past : (moment file : ℕ) → moment ≤ old.now → new.file_at moment file ≡ old.file_at moment file
  pub each : (moment : ℕ) → old.now ≤ moment → moment ≤ new.now → (images : ℕ → List ℕ) → MayLeave new moment images → Q images
  pub faults : old.faults ≤ new.faults

-- what a write that failed leaves: the file as it was, or one that lost the range
abbrev pub MayLose : ℕ → ℕ → Option File → Option File → Type 0
MayLose at len None new = new ≡ None
MayLose at len (Some old) new = (new ≡ Some old) ⊎ IsSomeAnd new (λ file. Lost at len old file)
