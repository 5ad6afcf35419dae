-- What clauses see of the words, of a seat and of the closed words, and what is true of each.
use Rattle.std.specs.Prelude.{◌≡◌, ℕ, ◌+◌, ◌*◌, ◌<◌, ◌≤◌, Bool, List, [], ◌∷◌, ◌++◌, All}
use Rattle.atomic_table.specs.Seated.{TableId}
use Rattle.atomic_table.specs.Table.{Me}
use Rattle.aria_base.specs.declared.limits.TheConstants.{TAGS}
use Rattle.aria_base.specs.declared.marks.Mark.{Mark}
use Rattle.aria_base.specs.Reserved.{AreAbove, AreWords, StandFor, SameMarks, HasTid}
use Rattle.resv_words.specs.declared.rules.View.{View}
use Rattle.resv_words.specs.Rule as rule

-- how many keys the words may have
abbrev pub most_keys : ℕ
most_keys = 3560000

-- the words while they are marked
pub record Laid : Type 0 where
  pub table : TableId
  pub keys : ℕ
  pub tag : ℕ
  pub old : List ℕ

-- a seat of a table: its shares, and the marks made through it and through those that were joined to it
pub record Marker : Type 0 where
  pub table : TableId
  pub share : ℕ
  pub marks : List Mark

-- closed words: what they were made over, and all marks that were made
pub record ClosedWords : Type 0 where
  pub keys : ℕ
  pub tag : ℕ
  pub old : List ℕ
  pub marks : List Mark

-- what words and the seat with all marks are when they are closed
abbrev pub closed_of : Laid → Marker → ClosedWords
closed_of laid seat = record { keys = laid.keys; tag = laid.tag; old = laid.old; marks = seat.marks }

-- the seat after one more mark
abbrev pub with_mark : Marker → ℕ → ℕ → Bool → Marker
with_mark seat tid key writes = record seat { marks = seat.marks ++ rule.mark tid key writes ∷ [] }

-- the table has two words a key and one more, and the old numbers are above the tag
pub record IsLaid (words slots keys key_tag tag : ℕ) (old : List ℕ) : Type 0 where
  pub words_are : words ≡ 2 * keys + 1
  pub no_slots : slots ≡ 0
  pub few_keys : keys ≤ most_keys
  pub same_tag : key_tag ≡ tag
  pub small_tag : tag < TAGS
  pub above : AreAbove tag old

-- the seat is not spent, and its marks have TIDs of a batch
pub record IsSeated (me : Me (Unit {0}) View) : Type 0 where
  pub has_share : 0 < me.0.share
  pub no_slots : me.1 ≡ []
  pub tids : All HasTid me.0.marks

-- what a list of words tells, if it is that of closed words
pub record Tells (closed : ClosedWords) (words : List ℕ) : Type 0 where
  pub words_are : AreWords closed.old closed.tag closed.keys closed.marks words
  pub stand : StandFor closed.tag closed.keys closed.marks words
  -- the marks count as a set, whoever made them and in whatever order
  pub as_set : (marks : List Mark) → SameMarks closed.marks marks
      → AreWords closed.old closed.tag closed.keys marks words × StandFor closed.tag closed.keys marks words
  -- the words can be the old numbers of words under any lesser tag
  pub later : (tag : ℕ) → tag < closed.tag → AreAbove tag words
