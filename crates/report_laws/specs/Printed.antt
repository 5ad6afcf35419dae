-- What a batch prints, and the listing behind it, as lines without their line feeds.
use Rattle.std.specs.Prelude.{ℕ, Bool, List, [], ◌∷◌, ◌++◌, map, flat_map, codes, decimal}
use Rattle.aria_base.specs.declared.schemas.Table.{Table}
use Rattle.answer_text.specs.Answers.{reply_text}
use Rattle.batch_core.specs.Steps.{State}
use Rattle.batch_core.specs.declared.answers.Answer.{Answer}
use Rattle.batch_core.specs.declared.answers.Line.{Line}
use Rattle.proc_lang.specs.Catalogs.{Plan}
use Rattle.script_text.specs.Tokens.{spaced}
use Rattle.serial_check.specs.Lines.{batch_line, end_line, order_word}
use Rattle.serial_check.specs.Reports.{begun}
use Rattle.serial_check.specs.Serial.{listing_lines}

-- lines, each with its line feed
abbrev pub fed : List (List ℕ) → List ℕ
fed lines = flat_map (λ line. line ++ codes "\n") lines

-- a request's line
abbrev pub reply_line : List Table → Line → List ℕ
reply_line tables line = decimal line.q ++ reply_text tables line.reply

-- the line of an order, told by request numbers
abbrev pub numbers_line : List ℕ → List ℕ
numbers_line order = order_word ++ spaced decimal order

abbrev pub answer_lines : List Table → Answer → List (List ℕ)
answer_lines tables answer =
    batch_line answer.number
    ∷ (map (reply_line tables) answer.lines ++ numbers_line answer.order ∷ end_line answer.number ∷ [])

-- what a function gives: the types of the check of a report have no names outside it
abbrev pub Given : {A B : Type 0} → (A → B) → Type 0
Given {B = B} gives = B

abbrev pub Reading : Type 0
Reading = Given begun

abbrev pub Standing : Type 0
Standing = Given (λ rows. (begun rows).standing)

-- what the check knows of a state: all but the settings
abbrev pub standing_of : State → Standing
standing_of state =
    record (begun state.rows).standing { carried = state.waiting; batches = state.batches; requests = state.requests }

-- at this place of a report, with this state, and a listing read last or not
abbrev pub reading_at : ℕ → State → Bool → Reading
reading_at at state listed = record (begun state.rows) { at = at; standing = standing_of state; listed = listed }

abbrev pub state_lines : Plan → State → List (List ℕ)
state_lines plan state = listing_lines plan (standing_of state)
