-- What is counted of answers, and summed up of rows.
use Rattle.std.specs.Prelude.{ℕ, ◌+◌, ◌%◌, ◌^◌, ◌≤◌, Bool, true, false, List, count_by, flat_map}
use Rattle.std.specs.FinMap.{entries}
use Rattle.std.specs.Int.{cast_unsigned, w64}
use Rattle.std.specs.List.{sum_by}
use Rattle.aria_base.specs.Orders.{Database}
use Rattle.aria_base.specs.declared.values.Value.{Value}
use Rattle.aria_base.specs.declared.values.Value.TheVariants as value
use Rattle.batch_core.specs.Serial.{is_wait}
use Rattle.batch_core.specs.declared.answers.Answer.{Answer}
use Rattle.batch_core.specs.declared.answers.Line.{Line}
use Rattle.batch_core.specs.declared.answers.Reply.{Reply}
use Rattle.batch_core.specs.declared.answers.Reply.TheVariants as reply
use Rattle.proc_lang.specs.declared.ends.End.{End}
use Rattle.proc_lang.specs.declared.ends.End.TheVariants as end
use Rattle.proc_lang.specs.Meaning.{is_done}
use Rattle.bench_command.specs.declared.tallies.Tally.{Tally}

-- ---- reply lines

abbrev pub has_failed : End → Bool
has_failed (end.Done given) = false
has_failed (end.Back code) = true
has_failed (end.Trap trap) = false

abbrev pub was_stopped : End → Bool
was_stopped (end.Done given) = false
was_stopped (end.Back code) = false
was_stopped (end.Trap trap) = true

abbrev pub ended_so : (End → Bool) → Reply → Bool
ended_so test (reply.Ended e) = test e
ended_so test (reply.Waits wait) = false

-- it ended well, by its own failure, by a trap
abbrev pub is_ok : Reply → Bool
is_ok r = ended_so is_done r

abbrev pub is_back : Reply → Bool
is_back r = ended_so has_failed r

abbrev pub is_trap : Reply → Bool
is_trap r = ended_so was_stopped r

abbrev pub of_line : (Reply → Bool) → Line → Bool
of_line test line = test line.reply

-- a tally with these lines, each of which is of one kind
abbrev pub with_lines : Tally → List Line → Tally
with_lines tally lines = record {
  ok = tally.ok + count_by (of_line is_ok) lines;
  back = tally.back + count_by (of_line is_back) lines;
  trap = tally.trap + count_by (of_line is_trap) lines;
  waits = tally.waits + count_by (of_line is_wait) lines;
}

-- a tally with one reply more
abbrev pub noted_end : Tally → End → Tally
noted_end tally (end.Done given) = record tally { ok = tally.ok + 1 }
noted_end tally (end.Back code) = record tally { back = tally.back + 1 }
noted_end tally (end.Trap trap) = record tally { trap = tally.trap + 1 }

abbrev pub noted : Tally → Reply → Tally
noted tally (reply.Ended e) = noted_end tally e
noted tally (reply.Waits wait) = record tally { waits = tally.waits + 1 }

-- and with those of answers
abbrev pub lines_of : List Answer → List Line
lines_of answers = flat_map (λ answer. answer.lines) answers

abbrev pub blank_tally : Tally
blank_tally = record { ok = 0; back = 0; trap = 0; waits = 0 }

abbrev pub tally_of : List Answer → Tally
tally_of answers = with_lines blank_tally (lines_of answers)

-- so many more lines can be counted
pub record HasRoom (tally : Tally) (lines : ℕ) : Type 0 where
  pub ok : tally.ok + lines ≤ 2 ^ 63
  pub back : tally.back + lines ≤ 2 ^ 63
  pub trap : tally.trap + lines ≤ 2 ^ 63
  pub waits : tally.waits + lines ≤ 2 ^ 63

-- ---- rows

-- a whole number by its 64 bits; a text is no number
abbrev pub bits_of : Value → ℕ
bits_of (value.Int n) = cast_unsigned w64 n
bits_of (value.Text text) = 0

-- the sum of all whole numbers in the columns of all rows, modulo 2^64
abbrev pub sum_of : Database → ℕ
sum_of rows = sum_by (λ row. sum_by bits_of row.1) (entries rows) % 2 ^ 64
