-- The lines of a report, without their line feeds.
use Rattle.std.specs.Prelude.{ℕ, List, ◌++◌, codes, decimal}
use Rattle.proc_lang.specs.declared.ends.End.{End}
use Rattle.answer_text.specs.Answers.{end_text}

-- a word, with the space behind it, and a number
abbrev pub counted : List ℕ → ℕ → List ℕ
counted word number = word ++ decimal number

-- the first line of an answer, and its last one
abbrev pub batch_line : ℕ → List ℕ
batch_line number = counted (codes "batch ") number

abbrev pub end_line : ℕ → List ℕ
end_line number = counted (codes "end ") number

-- in the place of an answer: the batch was run before
abbrev pub kept_line : ℕ → List ℕ
kept_line number = batch_line number ++ codes " kept"

-- the request with this number has ended
abbrev pub ended_line : ℕ → End → List ℕ
ended_line q end = decimal q ++ end_text end

-- it waits: what its line has before the cause, and the space there
abbrev pub wait_line : ℕ → List ℕ
wait_line q = decimal q ++ codes " wait"

abbrev pub wait_front : ℕ → List ℕ
wait_front q = wait_line q ++ codes " "

-- the first line of a listing, and its last one
abbrev pub state_line : ℕ → List ℕ
state_line batches = counted (codes "state ") batches

abbrev pub end_state_line : List ℕ
end_state_line = codes "end state"

-- the word of an order line
abbrev pub order_word : List ℕ
order_word = codes "order"
