-- What a command makes of its input, line by line. `on_line` says what a line prints and which state stands then, and `on_end` what
-- the end of the input prints, and with which status.
use Rattle.std.specs.Prelude.{ℕ, List, [], ◌∷◌, ◌++◌, Option, Some, None}
use Rattle.script_text.specs.declared.refusals.Refusal.{Refusal}
use Rattle.script_text.specs.declared.refusals.RefusalKind.{RefusalKind}
use Rattle.script_text.specs.Lines.{Feed, Scan, scan, last_line, line_after}
use Rattle.script_course.specs.declared.stops.Stop.{Stop}
use Rattle.script_course.specs.declared.stops.Stop.TheVariants as stop
use Rattle.script_course.specs.declared.statuses.TheConstants.{DISK_FAULT, NO_MEMORY, READ_FAULT, REFUSED, WRITE_FAULT}
use Rattle.answer_text.specs.Refusals.{refusal_text}

-- what was printed, and what stands: a state to go on from; or nothing, since a line was refused
pub data Course (R : Type 0) : Type 0 where
  Goes : List ℕ → R → Course R
  Stops : List ℕ → Course R

-- the bytes that are printed, and the status
pub record Out : Type 0 where
  pub bytes : List ℕ
  pub status : ℕ

abbrev pub status_of : Stop → ℕ
status_of stop.Refused = REFUSED
status_of stop.NoRead = READ_FAULT
status_of stop.NoWrite = WRITE_FAULT
status_of stop.NoDisk = DISK_FAULT
status_of stop.NoMemory = NO_MEMORY

-- the refusal of the line behind so many lines
abbrev pub refused_after : ℕ → RefusalKind → List ℕ
refused_after lines kind = refusal_text (record { line = line_after lines; kind = kind })

-- an output behind bytes that were printed before
abbrev pub out_behind : List ℕ → Out → Out
out_behind before out = record { bytes = before ++ out.bytes; status = out.status }

module _ {R : Type 0} where
  -- all that was printed
  abbrev pub printed : Course R → List ℕ
  printed (Goes bytes r) = bytes
  printed (Stops bytes) = bytes

  -- a course behind bytes that were printed before
  abbrev pub behind : List ℕ → Course R → Course R
  behind before (Goes bytes r) = Goes (before ++ bytes) r
  behind before (Stops bytes) = Stops (before ++ bytes)

  -- a line that passes a bound stops it
  abbrev pub with_fault : Course R → Option Refusal → Course R
  with_fault c None = c
  with_fault (Goes bytes r) (Some refusal) = Stops (bytes ++ refusal_text refusal)
  with_fault (Stops bytes) (Some refusal) = Stops bytes

module _ {R : Type 0} (on_line : R → List ℕ → Course R) where
  abbrev pub with_line : Course R → List ℕ → Course R
  with_line (Goes bytes r) line = behind bytes (on_line r line)
  with_line (Stops bytes) line = Stops bytes

  abbrev pub with_lines : Course R → List (List ℕ) → Course R
  with_lines c [] = c
  with_lines c (line ∷ lines) = with_lines (with_line c line) lines

  abbrev pub with_last : Course R → Option (List ℕ) → Course R
  with_last c None = c
  with_last c (Some line) = with_line c line

  -- what bytes come to: their whole lines, up to the first byte that is past a bound
  abbrev pub with_scan : Course R → Scan → Course R
  with_scan c s = with_fault (with_lines c s.lines) s.fault

  -- what is told of a text as far as it goes: that of its whole lines
  abbrev pub told : Feed → R → List ℕ → Course R
  told feed r text = with_scan (Goes [] r) (scan feed text)

  -- with the line at its end that no line feed completes
  abbrev pub told_whole : Feed → R → List ℕ → Course R
  told_whole feed r text = with_last (told feed r text) (last_line (scan feed text).feed)

-- with what the end prints
abbrev pub ended : {R : Type 0} → (R → Out) → Course R → Out
ended on_end (Goes bytes r) = out_behind bytes (on_end r)
ended on_end (Stops bytes) = record { bytes = bytes; status = status_of stop.Refused }

-- all that is printed of a whole text
abbrev pub whole : {R : Type 0} → (R → List ℕ → Course R) → (R → Out) → Feed → R → List ℕ → Out
whole on_line on_end feed r text = ended on_end (told_whole on_line feed r text)
