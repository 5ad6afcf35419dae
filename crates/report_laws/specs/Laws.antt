-- What is printed holds as a report.
use Rattle.std.specs.Prelude.{◌≡◌, ◌+◌, ◌++◌, ℕ, Bool, true, false, if◌then◌else◌, List, [], ◌∷◌, length, Ok}
use Rattle.std.specs.List.{AllByRecursion}
use Rattle.aria_base.specs.Orders.{Database}
use Rattle.aria_base.specs.declared.schemas.Table.{Table}
use Rattle.answer_text.specs.Answers.{answer_text}
use Rattle.answer_text.specs.Notices.{kept_text}
use Rattle.answer_text.specs.States.{state_text}
use Rattle.batch_core.specs.Steps.{State, Handed, step, answer, run}
use Rattle.batch_core.specs.declared.answers.Answer.{Answer}
use Rattle.batch_rules.specs.declared.verdicts.Rule.{Rule}
use Rattle.proc_lang.specs.Catalogs.{Plan, run_of}
use Rattle.script_text.specs.Forms.{is_printed}
use Rattle.script_text.specs.Laws.{lines_of}
use Rattle.serial_check.specs.Lines.{kept_line, state_line}
use Rattle.serial_check.specs.Reports as check
use Rattle.serial_check.specs.declared.findings.Finding.TheVariants.{Fails, Holds}
use Rattle.report_laws.specs.Printed.{answer_lines, fed, reading_at, standing_of, state_lines}
use Rattle.report_laws.specs.Scripts.{AreDrains, HaveRoom, batch_lines, calls_of, ends_listed, fresh, left, report}

-- The lines of a batch's answer, wherever they stand in a report, are taken as an answer to its calls; they end there, and what the
-- check then knows is the state behind the batch.
abbrev pub AnswerStands : Plan → State → Handed → Type 0
AnswerStands plan state handed = (before behind : List (List ℕ)) →
    check.answer plan (before ++ answer_lines plan.tables (answer (run_of plan) state handed) ++ behind) (standing_of state) handed.calls
    (length before)
    ≡ Ok (reading_at (length before + length (answer_lines plan.tables (answer (run_of plan) state handed)))
    (step (run_of plan) state handed) false)

-- The report that is printed holds; where each answer has a listing, its last line has to be one of a listing.
abbrev pub OwnReport : Plan → Rule → ℕ → Database → Type 0
OwnReport plan rule percent rows = (each : Bool) (script : List (ℕ × Handed)) (drains : List Handed) →
    HaveRoom plan (fresh rule percent rows) script → AreDrains plan (left plan (fresh rule percent rows) script) drains
    → (each ≡ true → ends_listed plan each (fresh rule percent rows) script drains ≡ true)
    → check.finding plan (report plan each (fresh rule percent rows) script drains) rows (calls_of script) ≡ Holds

-- Where each answer has a listing and the last thing printed is no answer, the report that is printed does not hold: it ends where a
-- listing has to begin.
abbrev pub OpenReport : Plan → Rule → ℕ → Database → Type 0
OpenReport plan rule percent rows = (script : List (ℕ × Handed)) (drains : List Handed) →
    HaveRoom plan (fresh rule percent rows) script → AreDrains plan (left plan (fresh rule percent rows) script) drains
    → ends_listed plan true (fresh rule percent rows) script drains ≡ false
    → check.finding plan (report plan true (fresh rule percent rows) script drains) rows (calls_of script)
    ≡ Fails (length (report plan true (fresh rule percent rows) script drains) + 1)
    (state_line (run (run_of plan) (left plan (fresh rule percent rows) script) drains).batches) []

-- What is printed is the lines, each with its line feed. Where they are of printed bytes, they are the lines of that text.
pub record PrintedLines : Type 0 where
  pub answers : (tables : List Table) (answer : Answer) → answer_text tables answer ≡ fed (answer_lines tables answer)
  pub listings : (plan : Plan) (state : State) → state_text plan.tables state.rows state.batches ≡ fed (state_lines plan state)
  pub kepts : (number : ℕ) → kept_text number ≡ fed (kept_line number ∷ [])
  pub batches : (plan : Plan) (each : Bool) (state : State) (handed : Handed) →
      answer_text plan.tables (answer (run_of plan) state handed)
      ++ (if each then state_text plan.tables (step (run_of plan) state handed).rows (step (run_of plan) state handed).batches else [])
      ≡ fed (batch_lines plan each state handed)
  pub again : (lines : List (List ℕ)) → AllByRecursion (λ line. is_printed line ≡ true) lines → lines_of (fed lines) ≡ lines
