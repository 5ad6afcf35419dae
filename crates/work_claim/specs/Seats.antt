-- What clauses see of the claims and of a seat, and what is true of each.
use Rattle.std.specs.Prelude.{◌≡◌, ℕ, ◌^◌, ◌<◌, List, [], ◌∷◌, ◌++◌, All}
use Rattle.atomic_table.specs.Seated.{TableId}
use Rattle.atomic_table.specs.Table.{Me}
use Rattle.work_claim.specs.declared.rules.View.{View}
use Rattle.work_claim.specs.Rule as rule

-- the claims: draws below the bound answer their number
pub record Offer : Type 0 where
  pub table : TableId
  pub bound : ℕ

-- a seat of a table: its shares, and the numbers drawn by it and by those that were joined to it
pub record Drawer : Type 0 where
  pub table : TableId
  pub share : ℕ
  pub drawn : List ℕ

-- the seat drew x, which is greater than all that it had
pub record Drew (before : Drawer) (x : ℕ) (after : Drawer) : Type 0 where
  pub one_more : after ≡ record before { drawn = before.drawn ++ x ∷ [] }
  pub rises : All (λ y. y < x) before.drawn

-- the numbers below c stand in the list, each once, and no others
abbrev pub IsEachOnce : List ℕ → ℕ → Type 0
IsEachOnce drawn c = (x : ℕ) → rule.times x drawn ≡ rule.once_below x c

-- the table has the claim word and one more
pub record IsLaid (words slots key bound : ℕ) : Type 0 where
  pub words_are : words ≡ 2
  pub no_slots : slots ≡ 0
  pub same_bound : key ≡ bound
  pub fits : bound < 2 ^ 32

-- the seat is not spent
pub record IsSeated (me : Me (Unit {0}) View) : Type 0 where
  pub has_share : 0 < me.0.share
  pub no_slots : me.1 ≡ []
