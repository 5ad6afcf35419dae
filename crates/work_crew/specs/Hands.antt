-- What the hands of a work have done.
use Rattle.std.specs.Prelude.{◌≡◌, ℕ, ◌≤◌, nat_lt, List, filter, Contains}
use Rattle.aria_base.specs.Shares.{all_shares}
use Rattle.work_claim.specs.Seats.{Drawer, IsEachOnce}

-- some shares and some places fit the hand: did tells of shares and of places, in the order in which they were run
abbrev pub HasDone : {Hand : Type 0} → (Hand → ℕ → List ℕ → Type 0) → Hand → Type 0
HasDone did hand = (shares : ℕ) × (places : List ℕ) × did hand shares places

-- another hand may be split off
abbrev pub MaySplit : {Hand : Type 0} → (Hand → ℕ → List ℕ → Type 0) → Hand → Type 0
MaySplit did hand = (shares : ℕ) × (places : List ℕ) × did hand shares places × (2 ≤ shares)

-- the hand has all shares, and it and those that were joined to it ran each of so many places once
abbrev pub HasDoneAll : {Hand : Type 0} → (Hand → ℕ → List ℕ → Type 0) → ℕ → Hand → Type 0
HasDoneAll did count hand = (places : List ℕ) × IsEachOnce places count × did hand all_shares places

-- those of the drawn numbers that are places
abbrev pub places_of : ℕ → List ℕ → List ℕ
places_of count drawn = filter (λ x. nat_lt x count) drawn

-- a worker drew until all was drawn, and did all that it drew
pub record IsPart {Hand : Type 0} (count : ℕ) (did : Hand → ℕ → List ℕ → Type 0) (before after : Drawer) (hand : Hand) : Type 0 where
  pub same_table : after.table ≡ before.table
  pub same_share : after.share ≡ before.share
  pub done : did hand after.share (places_of count after.drawn)
  pub ended : (place : ℕ) × (count ≤ place) × Contains after.drawn place
