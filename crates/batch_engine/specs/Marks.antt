-- What was marked in a batch: the numbered keys of its requests, and the closed words over them.
use Rattle.std.specs.Prelude.{ℕ, List, Option, Some, None}
use Rattle.aria_base.specs.Orders.{key_cmp, Cells, Database}
use Rattle.aria_base.specs.declared.keys.Key.{Key}
use Rattle.aria_base.specs.declared.calls.Request.{Request}
use Rattle.proc_lang.specs.declared.ends.End.{End}
use Rattle.proc_lang.specs.Meaning.{is_done}
use Rattle.batch_rules.specs.Trees.{Tree}
use Rattle.batch_rules.specs.Touches.{keys_of}
use Rattle.batch_rules.specs.Batches.{reads_at, rows_at}
use Rattle.batch_rules.specs.Numberings.{IsOneToOneOn}
use Rattle.dep_rules.specs.Numberings.{IsNumbered}
use Rattle.dep_rules.specs.Sheets.{Sheet, AreMarksOf}
use Rattle.dep_rules.specs.Words.{Tell}
use Rattle.resv_words.specs.Seats.{ClosedWords, Tells}

pub record Marks : Type 0 where
  pub numbered : Sheet
  pub closed : ClosedWords

-- the sheet has a list for each of the sets, of as many numbers, and two places have one number exactly where their keys are equal
pub record NumbersKeys {S : Type 0} (reads writes : S → List Key) (sets : List S) (sheet : Sheet) : Type 0 where
  pub keys : List Key
  pub number : Key → ℕ
  pub one_to_one : IsOneToOneOn key_cmp keys number
  pub lists : IsNumbered key_cmp reads writes keys number sets sheet

-- the words, whichever list tells the closed ones, are those by which a request's verdict is read off
abbrev pub TellVerdicts : Marks → Type 0
TellVerdicts marks = (words : List ℕ) → Tells marks.closed words → Tell marks.numbered marks.closed.tag words

-- what is marked of these sets: their keys are numbered, the closed words have exactly their marks, and verdicts are read off them
pub record MarksSets {S : Type 0} (reads writes : S → List Key) (sets : List S) (marks : Marks) : Type 0 where
  pub numbered : NumbersKeys reads writes sets marks.numbered
  pub marked : AreMarksOf marks.numbered marks.closed.marks
  pub words : TellVerdicts marks

-- a batch has marked the keys that its requests read and write on its start
module _ (tree : Request → Tree Key Cells End) (start : Database) (list : List Request) where
  abbrev pub HasMarked : Option Marks → Type 0
  HasMarked None = ⊥
  HasMarked (Some marks) = MarksSets (reads_at is_done tree start) (λ q. keys_of (rows_at is_done tree start q)) list marks
