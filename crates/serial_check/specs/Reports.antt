-- What each line of a report has to be, and where the first one stands that cannot.
use Rattle.std.specs.Prelude.{ℕ, zero, suc, nat_eq, ◌≤◌, ◌+◌, ◌&&◌, not, nat_lt, nat_le, Bool, true, false, if◌then◌else◌}
use Rattle.std.specs.Prelude.{List, [], ◌∷◌, ◌++◌, length, map, Option, Some, None, unwrap_or, Result, Ok, Err}
use Rattle.std.specs.FinMap.{entries}
use Rattle.std.specs.List.{filter, slice_get, starts_with}
use Rattle.std.specs.Option.{is_some}
use Rattle.std.specs.Str.{bytes_eq}
use Rattle.aria_base.specs.Orders.{Database}
use Rattle.aria_base.specs.declared.calls.Call.{Call}
use Rattle.aria_base.specs.declared.calls.Request.{Request}
use Rattle.aria_base.specs.declared.limits.TheConstants.{MOST_REQUESTS}
use Rattle.batch_core.specs.Steps.{numbered}
use Rattle.batch_rules.specs.Serials.{serial_map}
use Rattle.proc_lang.specs.Catalogs.{Plan, run_of}
use Rattle.proc_lang.specs.Meaning.{is_done}
use Rattle.proc_lang.specs.declared.ends.End.{End}
use Rattle.script_text.specs.Written.{row_line}
use Rattle.serial_check.specs.Lines.{batch_line, end_line, kept_line, ended_line, order_word}
use Rattle.serial_check.specs.Lines.{wait_line, wait_front, state_line, end_state_line}
use Rattle.serial_check.specs.Orders.{order_of}
use Rattle.serial_check.specs.Runs.{end_in}
use Rattle.serial_check.specs.declared.findings.Finding.{Finding}
use Rattle.serial_check.specs.declared.findings.Finding.TheVariants.{Holds}
use Rattle.serial_check.specs.declared.findings.Flaw.{Flaw}
use Rattle.serial_check.specs.declared.findings.Flaw.TheVariants as flawed
use Rattle.serial_check.specs.Flaws.{found_of}
use Rattle.serial_check.specs.declared.standings.Standing.{Standing}
use Rattle.serial_check.specs.declared.standings.Reading.{Reading}

-- what goes on where nothing was found so far
infixl 10 ◌>>=◌
abbrev pub ◌>>=◌ : {A B : Type 0} → Result A Flaw → (A → Result B Flaw) → Result B Flaw
(Ok x) >>= go = go x
(Err flaw) >>= go = Err flaw

abbrev pub passes : (List ℕ → Bool) → Option (List ℕ) → Bool
passes test None = false
passes test (Some line) = test line

-- ---- lines

-- the list of a batch: what is carried, then what is new
abbrev pub list_of : Standing → List Call → List Request
list_of standing calls = standing.carried ++ numbered standing.requests calls

-- before the first line: these rows, no batches and no requests
abbrev pub begun : Database → Reading
begun rows = record { at = 0; standing = record { tables = rows; carried = []; batches = 0; requests = 0 }; listed = false }

abbrev pub finding_of : {A : Type 0} → Result A Flaw → Finding
finding_of (Ok done) = Holds
finding_of (Err flaw) = found_of flaw

-- the order that a line tells of the list, where there is a line
abbrev pub told_order : List Request → Option (List ℕ) → Option (List Request)
told_order list None = None
told_order list (Some line) = order_of list line

module _ (report : List (List ℕ)) where
  -- whether the line at this place, from 0, is there and passes
  abbrev pub stands : (List ℕ → Bool) → ℕ → Bool
  stands test at = passes test (slice_get report at)

  abbrev pub is_line : List ℕ → ℕ → Bool
  is_line wanted at = stands (λ line. bytes_eq line wanted) at

  -- the line at this place cannot stand: its number, the line that had to stand there, and what is found, which is nothing behind the end
  abbrev pub failing : ℕ → List ℕ → Flaw
  failing at wanted = flawed.Fails (at + 1) wanted (unwrap_or (slice_get report at) [])

  -- the place behind a line that has to pass; where it does not, this is wanted
  abbrev pub pass : (List ℕ → Bool) → List ℕ → ℕ → Result ℕ Flaw
  pass test wanted at = if stands test at then Ok (at + 1) else Err (failing at wanted)

  abbrev pub expect : List ℕ → ℕ → Result ℕ Flaw
  expect wanted at = pass (λ line. bytes_eq line wanted) wanted at

  abbrev pub expect_all : List (List ℕ) → ℕ → Result ℕ Flaw
  expect_all [] at = Ok at
  expect_all (wanted ∷ more) at = expect wanted at >>= expect_all more

  -- the report ends here
  abbrev pub expect_end : ℕ → Result ℕ Flaw
  expect_end at = if nat_lt at (length report) then Err (failing at []) else Ok at

  -- ---- answers

  -- the line of the request with this number: how it ends in the serial run, or that it waits, whatever the cause
  abbrev pub reply : ℕ → Option End → ℕ → Result ℕ Flaw
  reply q (Some end) at = expect (ended_line q end) at
  reply q None at = pass (λ line. starts_with nat_eq line (wait_front q)) (wait_line q) at

  -- the lines of these requests, where `ends` tells how each ends
  abbrev pub replies : (ℕ → Option End) → List Request → ℕ → Result ℕ Flaw
  replies ends [] at = Ok at
  replies ends (request ∷ more) at = reply request.q (ends request.q) at >>= replies ends more

  abbrev pub or_failing : ℕ → Option (List Request) → Result (List Request) Flaw
  or_failing at None = Err (failing at order_word)
  or_failing at (Some order) = Ok order

  abbrev pub order_at : List Request → ℕ → Result (List Request) Flaw
  order_at list at = or_failing at (told_order list (slice_get report at))

  -- the lines of requests between the first line of an answer and its order line, and the last line behind that
  abbrev pub answer_lines : ℕ → (ℕ → Option End) → List Request → ℕ → Result ℕ Flaw
  answer_lines number ends list at = replies ends list at >>= (λ at. expect (end_line number) (at + 1))

  -- ---- between answers

  -- a batch that was run before
  abbrev pub kept : Reading → ℕ → Result Reading Flaw
  kept reading number =
      expect (kept_line number) reading.at >>= (λ at. Ok (record reading { at = at; listed = false }))

  -- something is carried, and the line begins an answer
  abbrev pub is_drained : Reading → Bool
  is_drained reading =
      nat_lt 0 (length reading.standing.carried) && is_line (batch_line (reading.standing.batches + 1)) reading.at

-- what the requests of an order come to, one after the other: how each ends, by its number, and the rows that are left
abbrev pub Ran : Type 0
Ran = (ℕ → Option End) × Database

-- the others of the list are carried
abbrev pub after : Standing → List Call → Ran → Standing
after standing calls ran = record {
  tables = ran.1;
  carried = filter (λ request. not (is_some (ran.0 request.q))) (list_of standing calls);
  batches = standing.batches + 1;
  requests = standing.requests + length calls;
}

module _ (plan : Plan) where
  abbrev pub run_from : Database → List Request → Ran
  run_from rows order = (end_in (run_of plan) rows order, serial_map is_done (run_of plan) rows order)

  abbrev pub row_lines : Database → List (List ℕ)
  row_lines rows = map (λ row. row_line plan.tables row.0 row.1) (entries rows)

module _ (plan : Plan) (report : List (List ℕ)) where
  -- what the order that the line at this place tells of the list comes to
  abbrev pub ran_at : Database → List Request → ℕ → Result Ran Flaw
  ran_at rows list at = order_at report list at >>= (λ order. Ok (run_from plan rows order))

  -- An answer to this list behind its first line: the place behind it, and what its order comes to. Its order line is looked at before the
  -- lines of requests
  abbrev pub told_at : Database → ℕ → List Request → ℕ → Result (ℕ × Ran) Flaw
  told_at rows number list at =
      ran_at rows list (at + length list) >>= (λ ran. answer_lines report number ran.0 list at >>= (λ at. Ok (at, ran)))

  -- an answer to these calls behind those that are carried
  abbrev pub answer : Standing → List Call → ℕ → Result Reading Flaw
  answer standing calls at =
      expect report (batch_line (standing.batches + 1)) at >>= (λ at.
      told_at standing.tables (standing.batches + 1) (list_of standing calls) at >>= (λ told.
      Ok (record { at = told.0; standing = after standing calls told.1; listed = false })))

  -- ---- listings

  abbrev pub listing : Standing → ℕ → Result ℕ Flaw
  listing standing at = expect report (state_line standing.batches) at >>= (λ at.
      expect_all report (row_lines plan standing.tables) at >>= expect report end_state_line)

  -- behind an answer a listing may stand
  abbrev pub may_list : Reading → Result Reading Flaw
  may_list reading =
      if is_line report (state_line reading.standing.batches) reading.at
      then listing reading.standing reading.at >>= (λ at. Ok (record reading { at = at; listed = true }))
      else Ok reading

  -- ---- batches of the script

  -- an answer, and behind it a listing or none
  abbrev pub answered : Reading → List Call → Result Reading Flaw
  answered reading calls = answer reading.standing calls reading.at >>= may_list

  -- a batch that is to be run, where carried and new requests are no more than a batch may have
  abbrev pub run : Reading → List Call → Result Reading Flaw
  run reading calls =
      if nat_lt MOST_REQUESTS (length reading.standing.carried + length calls)
      then Err (flawed.Crowded (reading.standing.batches + 1))
      else answered reading calls

  -- the batch with this number: it was run before where the number is none above those of the batches so far
  abbrev pub batch : Reading → ℕ × List Call → Result Reading Flaw
  batch reading next = if nat_le next.0 reading.standing.batches then kept report reading next.0 else run reading next.1

  abbrev pub batches : Reading → List (ℕ × List Call) → Result Reading Flaw
  batches reading [] = Ok reading
  batches reading (next ∷ more) = batch reading next >>= (λ reading. batches reading more)

  -- ---- behind the script

  -- at most so many answers to no calls
  abbrev pub drained : ℕ → Reading → Result Reading Flaw
  drained zero reading = Ok reading
  drained (suc n) reading = if is_drained report reading then answered reading [] >>= drained n else Ok reading

  -- the report ends behind a listing
  abbrev pub closed : Reading → Result ℕ Flaw
  closed reading =
      if reading.listed then expect_end report reading.at
      else listing reading.standing reading.at >>= expect_end report

  -- all that behind the script may stand. Each answer has lines of its own, so that there are no more of them than lines
  abbrev pub ended : Reading → Result ℕ Flaw
  ended reading = drained (length report) reading >>= closed

  -- a report on a script with these rows and these batches
  abbrev pub whole : Database → List (ℕ × List Call) → Result ℕ Flaw
  whole rows script = batches (begun rows) script >>= ended

  abbrev pub finding : Database → List (ℕ × List Call) → Finding
  finding rows script = finding_of (whole rows script)

-- The reading stands within the report. Each answer has more lines than it numbers requests, so that neither count is above the place.
pub record IsWithin (report : List (List ℕ)) (reading : Reading) : Type 0 where
  pub place : reading.at ≤ length report
  pub batches : reading.standing.batches ≤ reading.at
  pub requests : reading.standing.requests ≤ reading.at
