-- The lines of an answer.
use Rattle.std.specs.Prelude.{ℕ, List, ◌++◌, codes, decimal, flat_map}
use Rattle.aria_base.specs.declared.schemas.Table.{Table}
use Rattle.proc_lang.specs.declared.ends.Trap.{Trap}
use Rattle.proc_lang.specs.declared.ends.Trap.TheVariants as trap
use Rattle.proc_lang.specs.declared.ends.End.{End}
use Rattle.proc_lang.specs.declared.ends.End.TheVariants as end
use Rattle.script_text.specs.Tokens.{value_token, spaced}
use Rattle.script_text.specs.Written.{key_text}
use Rattle.batch_core.specs.declared.answers.Wait.{Wait}
use Rattle.batch_core.specs.declared.answers.Wait.TheVariants as wait
use Rattle.batch_core.specs.declared.answers.Reply.{Reply}
use Rattle.batch_core.specs.declared.answers.Reply.TheVariants as reply
use Rattle.batch_core.specs.declared.answers.Line.{Line}
use Rattle.batch_core.specs.declared.answers.Answer.{Answer}
use Rattle.answer_text.specs.Notices.{counted}

abbrev pub trap_word : Trap → List ℕ
trap_word trap.Overflow = codes "overflow"
trap_word trap.Zero = codes "zero"
trap_word trap.Absent = codes "absent"
trap_word trap.Long = codes "long"
trap_word trap.Many = codes "many"

abbrev pub end_text : End → List ℕ
end_text (end.Done gives) = codes " ok" ++ spaced value_token gives
end_text (end.Back code) = codes " back " ++ decimal code
end_text (end.Trap trap) = codes " trap " ++ trap_word trap

-- a key is told by its table's name and its parts
abbrev pub wait_text : List Table → Wait → List ℕ
wait_text tables (wait.Waw waw) = codes "waw " ++ decimal waw
wait_text tables (wait.Raw raw) = codes "raw " ++ decimal raw
wait_text tables (wait.Both raw war) = codes "both " ++ decimal raw ++ codes " " ++ decimal war
wait_text tables (wait.Moved key) = codes "moved " ++ key_text tables key

abbrev pub reply_text : List Table → Reply → List ℕ
reply_text tables (reply.Ended end) = end_text end
reply_text tables (reply.Waits wait) = codes " wait " ++ wait_text tables wait

-- a request's line
abbrev pub line_text : List Table → Line → List ℕ
line_text tables line = decimal line.q ++ reply_text tables line.reply ++ codes "\n"

-- the request numbers in the serial order; the word stands also where there are none
abbrev pub order_text : List ℕ → List ℕ
order_text order = codes "order" ++ spaced decimal order ++ codes "\n"

abbrev pub answer_text : List Table → Answer → List ℕ
answer_text tables answer =
    counted (codes "batch ") answer.number
    ++ flat_map (line_text tables) answer.lines
    ++ order_text answer.order
    ++ counted (codes "end ") answer.number
