-- Lines that stand alone: what a command begins with, and why it does nothing.
use Rattle.std.specs.Prelude.{ℕ, List, ◌++◌, codes, decimal}
use Rattle.answer_text.specs.declared.notices.NotDone.{NotDone}
use Rattle.answer_text.specs.declared.notices.NotDone.TheVariants.{Usage, NoStore, StoreExists}

-- a line that is a word, with the space behind it, and a number
abbrev pub counted : List ℕ → ℕ → List ℕ
counted word number = word ++ decimal number ++ codes "\n"

-- so many batches stand in the store
abbrev pub at_text : ℕ → List ℕ
at_text batches = counted (codes "at ") batches

-- the store has the batch with this number
abbrev pub kept_text : ℕ → List ℕ
kept_text number = codes "batch " ++ decimal number ++ codes " kept\n"

abbrev pub ready_text : List ℕ
ready_text = codes "ready\n"

abbrev pub refused_text : NotDone → List ℕ
refused_text Usage = codes "refused usage\n"
refused_text NoStore = codes "refused store none\n"
refused_text StoreExists = codes "refused store exists\n"

-- this file of the store is damaged at this byte
abbrev pub damaged_text : ℕ → ℕ → List ℕ
damaged_text file at = codes "refused store " ++ decimal file ++ codes " " ++ decimal at ++ codes "\n"
