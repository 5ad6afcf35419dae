-- The answer of a batch from what its phases hand on: request numbers by TID, ends of the runs on the batch's start, verdicts, and
-- the fates of a late run.
use Rattle.std.specs.Prelude.{ℕ, List, [], ◌∷◌, map, length, drop, Bool, true, false, if◌then◌else◌}
use Rattle.std.specs.List.{range_with_len}
use Rattle.std.specs.Ordering.{nat_cmp}
use Rattle.aria_base.specs.Orders.{Cells}
use Rattle.aria_base.specs.declared.calls.Request.{Request}
use Rattle.aria_base.specs.declared.keys.Key.{Key}
use Rattle.proc_lang.specs.declared.ends.End.{End}
use Rattle.proc_exec.specs.declared.outcomes.Waiting.{Waiting}
use Rattle.batch_rules.specs.declared.verdicts.Rule.{Rule}
use Rattle.batch_rules.specs.declared.verdicts.Verdict.{Verdict}
use Rattle.batch_rules.specs.Batches.{Carrier, Entry, Fate, has_ended, decided, settled}
use Rattle.batch_rules.specs.Verdicts.{verdict}
use Rattle.batch_core.specs.declared.answers.Line.{Line}
use Rattle.batch_core.specs.declared.answers.Reply.{Reply}
use Rattle.batch_core.specs.declared.answers.Reply.TheVariants.{Ended, Waits}
use Rattle.batch_core.specs.Steps.{number_in, reply_by}
use Rattle.dep_rules.specs.Sheets.{Sheet, reads_at, writes_at}
use Rattle.dep_rules.specs.Words.{tids_before}

-- the verdict of a request, by the numbers of the keys
abbrev pub verdict_of : Rule → Sheet → ℕ → Verdict
verdict_of rule sheet tid = verdict nat_cmp (reads_at sheet) (writes_at sheet) rule (tids_before tid) tid

-- the verdicts of all requests
abbrev pub verdicts_on : Rule → Sheet → List Verdict
verdicts_on rule sheet = map (verdict_of rule sheet) (range_with_len 1 (length sheet.reads))

-- a request is carried by the end of its run on the start
abbrev pub by_end : Carrier Key Cells End End
by_end = record { reads = λ end. []; rows = λ end. []; end = λ end. end }

abbrev pub line_in : List ℕ → Entry Key End End → Line
line_in numbers entry = record { q = number_in numbers entry.judged.tid; reply = reply_by (number_in numbers) entry.fate }

abbrev pub lines_in : List ℕ → List End → List Verdict → List (Fate Key End) → List Line
lines_in numbers ends verdicts lates = map (line_in numbers) (settled by_end (decided 1 ends verdicts) lates)

-- the reply is final
abbrev pub is_final : Reply → Bool
is_final (Ended end) = true
is_final (Waits wait) = false

-- the first of these fates is an end
abbrev pub first_ended : List (Fate Key End) → Bool
first_ended [] = false
first_ended (late ∷ lates) = has_ended late

-- of the requests that wait, those that still do after these fates
abbrev pub still_waiting : List Waiting → List (Fate Key End) → List Request
still_waiting [] lates = []
still_waiting (one ∷ rest) lates = if first_ended lates then still_waiting rest (drop 1 lates)
    else one.request ∷ still_waiting rest (drop 1 lates)
