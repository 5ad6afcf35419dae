-- The printed text is the printed lines, each with its line feed; and cut at its line feeds it is these lines again.
use Rattle.std.proofs.Common.{◌≡◌, ℕ, zero, suc, ◌-◌, List, [], ◌∷◌, ◌++◌, map, length, take, Bool, true, false, not, cond, refl, ap, sym, ◌∙◌, arith, append_assoc, append-nil}
use Rattle.std.specs.Prelude.{◌==◌, ◌&&◌, nat_le, codes, flat_map, if◌then◌else◌, slice_index, All}
use Rattle.std.specs.FinMap.{entries}
use Rattle.std.specs.List.{AllByRecursion, slice_split}
use Rattle.std.proofs.lemmas.Bool.{and_parts}
use Rattle.std.proofs.lemmas.Grind.{common_steps, flat_map-append}
use Rattle.std.proofs.lemmas.List.Splits.{slice_split_at}
use Rattle.aria_base.specs.Orders.{Cells}
use Rattle.aria_base.specs.declared.keys.Key.{Key}
use Rattle.aria_base.specs.declared.schemas.Table.{Table}
use Rattle.answer_text.specs.Answers.{answer_text, line_text}
use Rattle.answer_text.specs.Notices.{kept_text}
use Rattle.answer_text.specs.States.{state_text, row_text}
use Rattle.batch_core.specs.Steps.{State, Handed, answer, step}
use Rattle.batch_core.specs.declared.answers.Answer.{Answer}
use Rattle.proc_lang.specs.Catalogs.{Plan, run_of}
use Rattle.script_text.specs.Forms.{is_printed}
use Rattle.script_text.specs.Laws.{filled, lines_of}
use Rattle.script_text.specs.Lines.{unreturned}
use Rattle.script_text.specs.Written.{row_line}
use Rattle.script_text.proofs.Places.{all_weaker}
use Rattle.script_text.proofs.Splits.{lacks_all}
use Rattle.serial_check.specs.Lines.{batch_line, end_line, kept_line, state_line, end_state_line}
use Rattle.serial_check.specs.Reports.{row_lines}
use Rattle.report_laws.specs.Laws.{PrintedLines}
use Rattle.report_laws.specs.Printed.{answer_lines, fed, numbers_line, reply_line, state_lines}
use Rattle.report_laws.specs.Scripts.{batch_lines}

abbrev feed : List ℕ → List ℕ
feed line = line ++ codes "\n"

pub fed_append : (xs ys : List (List ℕ)) → fed (xs ++ ys) ≡ fed xs ++ fed ys
fed_append xs ys = flat_map-append feed xs ys

fed_map : {X : Type 0} (line : X → List ℕ) (xs : List X) → flat_map (λ x. feed (line x)) xs ≡ fed (map line xs)
fed_map line [] = refl
fed_map line (x ∷ xs) = ap (λ l. feed (line x) ++ l) (fed_map line xs)

answer_is : (tables : List Table) (answer : Answer) → answer_text tables answer ≡ fed (answer_lines tables answer)
answer_is tables answer =
    let first = feed (batch_line answer.number) in
    let lines = flat_map (line_text tables) answer.lines in
    let order = feed (numbers_line answer.order) in
    let last = feed (end_line answer.number) in
    let replies = map (reply_line tables) answer.lines in
    append_assoc (first ++ lines) order last
    ∙ append_assoc first lines (order ++ last)
    ∙ ap (λ l. first ++ (l ++ (order ++ last))) (fed_map (reply_line tables) answer.lines)
    ∙ ap (λ l. first ++ (fed replies ++ (order ++ l))) (sym (append-nil last))
    ∙ ap (λ l. first ++ l) (sym (fed_append replies (numbers_line answer.order ∷ end_line answer.number ∷ [])))

listing_is : (plan : Plan) (state : State) → state_text plan.tables state.rows state.batches ≡ fed (state_lines plan state)
listing_is plan state =
    let first = feed (state_line state.batches) in
    let rows = flat_map (row_text plan.tables) (entries state.rows) in
    let last = codes "end state\n" in
    append_assoc first rows last
    ∙ ap (λ l. first ++ (l ++ last)) (fed_map (λ (row : Key × Cells). row_line plan.tables row.0 row.1) (entries state.rows))
    ∙ ap (λ l. first ++ l) (sym (fed_append (row_lines plan state.rows) (end_state_line ∷ [])))

kept_is : (number : ℕ) → kept_text number ≡ fed (kept_line number ∷ [])
kept_is number = sym (append-nil (feed (kept_line number)) ∙ append_assoc (batch_line number) (codes " kept") (codes "\n"))

batch_is : (plan : Plan) (each : Bool) (state : State) (handed : Handed)
    → answer_text plan.tables (answer (run_of plan) state handed)
    ++ (if each then state_text plan.tables (step (run_of plan) state handed).rows (step (run_of plan) state handed).batches else [])
    ≡ fed (batch_lines plan each state handed)
batch_is plan true state handed =
    let next = step (run_of plan) state handed in
    let lines = answer_lines plan.tables (answer (run_of plan) state handed) in
    ap (λ l. l ++ state_text plan.tables next.rows next.batches) (answer_is plan.tables (answer (run_of plan) state handed))
    ∙ ap (λ l. fed lines ++ l) (listing_is plan next) ∙ sym (fed_append lines (state_lines plan next))
batch_is plan false state handed =
    let lines = answer_lines plan.tables (answer (run_of plan) state handed) in
    ap (λ l. l ++ []) (answer_is plan.tables (answer (run_of plan) state handed)) ∙ sym (fed_append lines [])

-- ---- cut again

printed_byte : (line : List ℕ) (at : ℕ) → is_printed line ≡ true → (slice_index line at == 13) ≡ false
printed_byte [] at h = refl
printed_byte (b ∷ bs) zero h =
    let first = (and_parts (nat_le 32 b && nat_le b 126) (is_printed bs) h).0 in
    grind (arith, common_steps, first)
printed_byte (b ∷ bs) (suc at) h = printed_byte bs at (and_parts (nat_le 32 b && nat_le b 126) (is_printed bs) h).1

unreturned_is : (line : List ℕ) → is_printed line ≡ true → unreturned line ≡ line
unreturned_is line h = ap (λ b. cond b (take (length line - 1) line) line) (printed_byte line (length line - 1) h)

no_feed : (line : List ℕ) → is_printed line ≡ true → All (λ b. (b == 10) ≡ false) line
no_feed line h = lacks_all 10 line (all_weaker (λ b. nat_le 32 b && nat_le b 126) (λ b. not (b == 10)) (λ b k. grind (arith, common_steps, k)) line h)

splits : (lines : List (List ℕ)) → AllByRecursion (λ line. is_printed line ≡ true) lines
    → slice_split (λ b. b == 10) (fed lines) ≡ lines ++ [] ∷ []
splits [] a = refl
splits (x ∷ xs) a =
    ap (slice_split (λ b. b == 10)) (append_assoc x (codes "\n") (fed xs))
    ∙ slice_split_at (λ b. b == 10) x 10 (fed xs) (no_feed x a.0) refl
    ∙ ap (λ l. x ∷ l) (splits xs a.1)

filled_is : (lines : List (List ℕ)) → filled (lines ++ [] ∷ []) ≡ lines
filled_is [] = refl
filled_is (x ∷ []) = refl
filled_is (x ∷ y ∷ ys) = ap (λ l. x ∷ l) (filled_is (y ∷ ys))

all_unreturned : (lines : List (List ℕ)) → AllByRecursion (λ line. is_printed line ≡ true) lines → map unreturned lines ≡ lines
all_unreturned [] a = refl
all_unreturned (x ∷ xs) a = ap (λ l. l ∷ map unreturned xs) (unreturned_is x a.0) ∙ ap (λ l. x ∷ l) (all_unreturned xs a.1)

cut_again : (lines : List (List ℕ)) → AllByRecursion (λ line. is_printed line ≡ true) lines → lines_of (fed lines) ≡ lines
cut_again lines a = ap (λ l. map unreturned (filled l)) (splits lines a) ∙ ap (map unreturned) (filled_is lines) ∙ all_unreturned lines a

pub printed_lines : PrintedLines
printed_lines = record { answers = answer_is; listings = listing_is; kepts = kept_is; batches = batch_is; again = cut_again }
