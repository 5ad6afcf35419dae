-- The lines that are printed are of printed bytes.
use Rattle.std.proofs.Common.{ℕ, zero, suc, get_or, arith, Bool, true, false, cond, List, [], ◌∷◌, ◌++◌, map, refl}
use Rattle.std.specs.Prelude.{codes, decimal}
use Rattle.std.specs.FinMap as fin
use Rattle.std.specs.List.{All, AllByRecursion, slice_get}
use Rattle.aria_base.specs.Orders.{Cells, Database}
use Rattle.image_text.proofs.RowsRise.{entry_there}
use Rattle.aria_base.specs.declared.keys.Key.{Key}
use Rattle.aria_base.specs.declared.keys.Part.{Part}
use Rattle.aria_base.specs.declared.keys.Part.TheVariants as part
use Rattle.aria_base.specs.declared.schemas.Table.{Table}
use Rattle.aria_base.specs.declared.values.Value.{Value}
use Rattle.aria_base.specs.declared.values.Value.TheVariants as value
use Rattle.answer_text.specs.Answers.{end_text, reply_text, trap_word, wait_text}
use Rattle.batch_core.specs.Steps.{Handed, State, answer, step}
use Rattle.batch_core.specs.declared.answers.Answer.{Answer}
use Rattle.batch_core.specs.declared.answers.Line.{Line}
use Rattle.batch_core.specs.declared.answers.Reply.{Reply}
use Rattle.batch_core.specs.declared.answers.Reply.TheVariants as reply
use Rattle.batch_core.specs.declared.answers.Wait.{Wait}
use Rattle.batch_core.specs.declared.answers.Wait.TheVariants as wait
use Rattle.proc_lang.specs.Catalogs.{Plan, run_of}
use Rattle.proc_lang.specs.declared.ends.End.{End}
use Rattle.proc_lang.specs.declared.ends.End.TheVariants as end
use Rattle.proc_lang.specs.declared.ends.Trap.{Trap}
use Rattle.proc_lang.specs.declared.ends.Trap.TheVariants as trap
use Rattle.script_text.specs.Tokens.{part_token, quoted, spaced, value_token}
use Rattle.script_text.specs.Written.{key_text, row_line, table_name, table_name_or}
use Rattle.serial_check.specs.Lines.{batch_line, end_line, end_state_line, kept_line, order_word}
use Rattle.serial_check.specs.Reports.{row_lines}
use Rattle.report_laws.specs.Printed.{answer_lines, numbers_line, reply_line, state_lines}
use Rattle.report_laws.specs.Scripts.{batch_lines}
use Rattle.output_laws.proofs.Batches.{PrintedAnswer, PrintedReply, PrintedState, PrintedWait, plan_answer, plan_step}
use Rattle.output_laws.proofs.Runs.{PrintedPlan, PrintedRows}
use Rattle.output_laws.proofs.Texts.{Printed, PrintedCall, PrintedCells, PrintedEnd, PrintedKey, PrintedPart, PrintedValue, all_joined, all_mapped, decimal_printed, joined_printed, signed_printed}

abbrev Lines : List (List ℕ) → Type 0
Lines lines = AllByRecursion Printed lines

-- ---- words and tokens

spaced_printed : {X : Type 0} (P : X → Type 0) (token : X → List ℕ) → ((x : X) → P x → Printed (token x)) → (xs : List X) → AllByRecursion P xs
    → Printed (spaced token xs)
spaced_printed P token each [] a = refl
spaced_printed P token each (x ∷ xs) a = joined_printed (token x) (spaced token xs) (each x a.0) (spaced_printed P token each xs a.1)

quoted_printed : (text : List ℕ) → Printed text → Printed (quoted text)
quoted_printed text h = joined_printed text (34 ∷ []) h refl

value_printed : (v : Value) → PrintedValue v → Printed (value_token v)
value_printed (value.Int n) h = signed_printed n
value_printed (value.Text text) h = quoted_printed text h

part_printed : (p : Part) → PrintedPart p → Printed (part_token p)
part_printed (part.Int n) h = signed_printed n
part_printed (part.Text text) h = quoted_printed text h

name_printed : (tables : List Table) (n : ℕ) → AllByRecursion (λ (t : Table). Printed t.name) tables → Printed (table_name tables n)
name_printed tables n a = by tables n a
  where
    by : (ts : List Table) (n : ℕ) → AllByRecursion (λ (t : Table). Printed t.name) ts → Printed (table_name_or (slice_get ts n))
    by [] n a = refl
    by (t ∷ ts) zero a = a.0
    by (t ∷ ts) (suc n) a = by ts n a.1

module _ (tables : List Table) (names : AllByRecursion (λ (t : Table). Printed t.name) tables) where
  key_printed : (key : Key) → PrintedKey key → Printed (key_text tables key)
  key_printed key h =
      joined_printed (table_name tables key.table) (spaced part_token key.parts) (name_printed tables key.table names)
      (spaced_printed PrintedPart part_token part_printed key.parts h)

  row_printed : (key : Key) (row : Cells) → PrintedKey key → PrintedCells row → Printed (row_line tables key row)
  row_printed key row h k =
      joined_printed ((codes "row " ++ key_text tables key) ++ codes " =") (spaced value_token row)
      (joined_printed (codes "row " ++ key_text tables key) (codes " =") (joined_printed (codes "row ") (key_text tables key) refl (key_printed key h)) refl)
      (spaced_printed PrintedValue value_token value_printed row k)

  -- ---- answers

  trap_printed : (t : Trap) → Printed (trap_word t)
  trap_printed trap.Overflow = refl
  trap_printed trap.Zero = refl
  trap_printed trap.Absent = refl
  trap_printed trap.Long = refl
  trap_printed trap.Many = refl

  end_printed : (e : End) → PrintedEnd e → Printed (end_text e)
  end_printed (end.Done gives) h = joined_printed (codes " ok") (spaced value_token gives) refl (spaced_printed PrintedValue value_token value_printed gives h)
  end_printed (end.Back code) h = joined_printed (codes " back ") (decimal code) refl (decimal_printed code)
  end_printed (end.Trap t) h = joined_printed (codes " trap ") (trap_word t) refl (trap_printed t)

  wait_printed : (w : Wait) → PrintedWait w → Printed (wait_text tables w)
  wait_printed (wait.Waw n) h = joined_printed (codes "waw ") (decimal n) refl (decimal_printed n)
  wait_printed (wait.Raw n) h = joined_printed (codes "raw ") (decimal n) refl (decimal_printed n)
  wait_printed (wait.Both n m) h =
      joined_printed ((codes "both " ++ decimal n) ++ codes " ") (decimal m)
      (joined_printed (codes "both " ++ decimal n) (codes " ") (joined_printed (codes "both ") (decimal n) refl (decimal_printed n)) refl) (decimal_printed m)
  wait_printed (wait.Moved key) h = joined_printed (codes "moved ") (key_text tables key) refl (key_printed key h)

  reply_printed : (r : Reply) → PrintedReply r → Printed (reply_text tables r)
  reply_printed (reply.Ended e) h = end_printed e h
  reply_printed (reply.Waits w) h = joined_printed (codes " wait ") (wait_text tables w) refl (wait_printed w h)

  line_printed : (line : Line) → PrintedReply line.reply → Printed (reply_line tables line)
  line_printed line h = joined_printed (decimal line.q) (reply_text tables line.reply) (decimal_printed line.q) (reply_printed line.reply h)

  counted_printed : (word : List ℕ) (n : ℕ) → Printed word → Printed (word ++ decimal n)
  counted_printed word n h = joined_printed word (decimal n) h (decimal_printed n)

  numbers_printed : (order : List ℕ) → Printed (spaced decimal order)
  numbers_printed [] = refl
  numbers_printed (n ∷ order) = joined_printed (decimal n) (spaced decimal order) (decimal_printed n) (numbers_printed order)

  answer_printed : (a : Answer) → PrintedAnswer a → Lines (answer_lines tables a)
  answer_printed a h = (
    counted_printed (codes "batch ") a.number refl,
    all_joined Printed (map (reply_line tables) a.lines) (numbers_line a.order ∷ end_line a.number ∷ [])
        (all_mapped (λ (line : Line). PrintedReply line.reply) Printed (reply_line tables) line_printed a.lines h)
        (joined_printed order_word (spaced decimal a.order) refl (numbers_printed a.order), (counted_printed (codes "end ") a.number refl, tt)),
  )

pub kept_printed : (n : ℕ) → Printed (kept_line n)
kept_printed n = joined_printed (batch_line n) (codes " kept") (joined_printed (codes "batch ") (decimal n) refl (decimal_printed n)) refl

-- ---- listings

from_each : {X : Type 0} (P : X → Type 0) (xs : List X) → All P xs → AllByRecursion P xs
from_each P [] a = tt
from_each P (x ∷ xs) a = (a 0 x (omega arith), from_each P xs (λ k d below. a (suc k) d (omega (arith, below))))

entries_printed : (db : Database) → PrintedRows db → AllByRecursion (λ (row : Key × Cells). PrintedKey row.0 × PrintedCells row.1) (fin.entries db)
entries_printed db h = from_each (λ (row : Key × Cells). PrintedKey row.0 × PrintedCells row.1) (fin.entries db)
    (λ i d below. h (get_or (fin.entries db) i d).0 (get_or (fin.entries db) i d).1 (entry_there db i d below))

pub state_printed : (plan : Plan) (state : State) → PrintedPlan plan → PrintedState state → Lines (state_lines plan state)
state_printed plan state p is = (
  joined_printed (codes "state ") (decimal state.batches) refl (decimal_printed state.batches),
  all_joined Printed (row_lines plan state.rows) (end_state_line ∷ [])
      (all_mapped (λ (row : Key × Cells). PrintedKey row.0 × PrintedCells row.1) Printed (λ (row : Key × Cells). row_line plan.tables row.0 row.1)
      (λ row h. row_printed plan.tables p.tables row.0 row.1 h.0 h.1) (fin.entries state.rows) (entries_printed state.rows is.rows)) (refl, tt),
)

-- ---- batches

listed_when : (plan : Plan) (b : Bool) (state : State) → PrintedPlan plan → PrintedState state → Lines (cond b (state_lines plan state) [])
listed_when plan true state p is = state_printed plan state p is
listed_when plan false state p is = tt

pub batch_printed : (plan : Plan) (each : Bool) (state : State) (handed : Handed) → PrintedPlan plan → PrintedState state
    → AllByRecursion PrintedCall handed.calls
    → Lines (batch_lines plan each state handed)
batch_printed plan each state handed p is calls =
    all_joined Printed (answer_lines plan.tables (answer (run_of plan) state handed)) (cond each (state_lines plan (step (run_of plan) state handed)) [])
    (answer_printed plan.tables p.tables (answer (run_of plan) state handed) (plan_answer plan state handed p is calls))
    (listed_when plan each (step (run_of plan) state handed) p (plan_step plan state handed p is calls))
