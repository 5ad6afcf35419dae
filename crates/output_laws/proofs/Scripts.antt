-- The batches of a script so far: the state that they left, and the lines that they printed.
use Rattle.std.proofs.Common.{◌≡◌, ◌∙◌, sym, ap, subst, refl, ℕ, ◌+◌, ◌<◌, ◌≤◌, ◌^◌, Bool, true, false, cond, List, [], ◌∷◌, ◌++◌, length, append_assoc, append-nil}
use Rattle.std.specs.Prelude.{if◌then◌else◌}
use Rattle.std.specs.FinMap as fin
use Rattle.std.specs.List.{AllByRecursion}
use Rattle.std.proofs.lemmas.Bool.{le-leb, lt-leb}
use Rattle.std.proofs.lemmas.Grind.{flat_map-append}
use Rattle.aria_base.specs.Orders.{Cells, Database}
use Rattle.aria_base.specs.declared.calls.Call.{Call}
use Rattle.aria_base.specs.declared.keys.Key.{Key}
use Rattle.aria_base.specs.declared.limits.TheConstants.{MOST_REQUESTS}
use Rattle.answer_text.specs.Answers.{answer_text}
use Rattle.answer_text.specs.Notices.{kept_text}
use Rattle.answer_text.specs.States.{state_text}
use Rattle.batch_core.specs.Steps.{Handed, State, answer, step}
use Rattle.batch_rules.specs.declared.verdicts.Rule.{Rule}
use Rattle.proc_lang.specs.Catalogs.{Plan, run_of}
use Rattle.report_laws.specs.Laws.{PrintedLines}
use Rattle.report_laws.specs.Printed.{fed}
use Rattle.report_laws.specs.Scripts.{HaveRoom, batch_lines, fresh, is_kept, left, next, script_lines}
use Rattle.serial_check.specs.Lines.{kept_line}
use Rattle.output_laws.proofs.Batches.{PrintedState}
use Rattle.output_laws.proofs.Lines.{batch_printed, kept_printed}
use Rattle.output_laws.proofs.Runs.{PrintedPlan}
use Rattle.output_laws.proofs.Texts.{Printed, PrintedCall, all_joined}

pub fed_more : (xs ys : List (List ℕ)) → fed (xs ++ ys) ≡ fed xs ++ fed ys
fed_more xs ys = flat_map-append (λ (line : List ℕ). line ++ 10 ∷ []) xs ys

-- a state with these settings, which nothing but the next batch asks for
abbrev pub settled : Rule → ℕ → State → State
settled rule percent state = record state { rule = rule; percent = percent }

-- what a batch prints, with its listing
abbrev pub texts_of : Plan → Bool → State → Handed → List ℕ
texts_of plan each state handed =
    answer_text plan.tables (answer (run_of plan) state handed)
    ++ (if each then state_text plan.tables (step (run_of plan) state handed).rows (step (run_of plan) state handed).batches else [])

module _ (plan : Plan) (each : Bool) where
  abbrev one_lines : State → ℕ × Handed → List (List ℕ)
  one_lines state batch = if is_kept state batch then kept_line batch.0 ∷ [] else batch_lines plan each state batch.1

  abbrev OneRoom : State → ℕ × Handed → Type 0
  OneRoom state batch = is_kept state batch ≡ false → (length state.waiting + length batch.1.calls ≤ MOST_REQUESTS)
      × (state.requests + length batch.1.calls < 2 ^ 64)

  left_more : (state : State) (script : List (ℕ × Handed)) (batch : ℕ × Handed)
      → left plan state (script ++ batch ∷ []) ≡ next plan (left plan state script) batch
  left_more state [] batch = refl
  left_more state (b ∷ script) batch = left_more (next plan state b) script batch

  lines_more : (state : State) (script : List (ℕ × Handed)) (batch : ℕ × Handed)
      → script_lines plan each state (script ++ batch ∷ []) ≡ script_lines plan each state script ++ one_lines (left plan state script) batch
  lines_more state [] batch = append-nil (one_lines state batch)
  lines_more state (b ∷ script) batch =
      ap (λ (l : List (List ℕ)). one_lines state b ++ l) (lines_more (next plan state b) script batch)
      ∙ sym (append_assoc (one_lines state b) (script_lines plan each (next plan state b) script) (one_lines (left plan (next plan state b) script) batch))

  room_more : (state : State) (script : List (ℕ × Handed)) (batch : ℕ × Handed) → HaveRoom plan state script → OneRoom (left plan state script) batch
      → HaveRoom plan state (script ++ batch ∷ [])
  room_more state [] batch room one = (one, tt)
  room_more state (b ∷ script) batch room one = (room.0, room_more (next plan state b) script batch room.1 one)

-- These batches were run or kept from these rows on, and left this state, but for its settings; and these bytes were printed.
pub record IsTold (plan : Plan) (each : Bool) (rule : Rule) (percent : ℕ) (rows : Database) (script : List (ℕ × Handed)) (state : State)
    (bytes : List ℕ) : Type 0 where
  pub state_is : state ≡ settled state.rule state.percent (left plan (fresh rule percent rows) script)
  pub room : HaveRoom plan (fresh rule percent rows) script
  pub bytes_are : bytes ≡ fed (script_lines plan each (fresh rule percent rows) script)
  pub printed : AllByRecursion Printed (script_lines plan each (fresh rule percent rows) script)

pub left_printed : (rule : Rule) (percent : ℕ) (state other : State) → state ≡ settled rule percent other → PrintedState state → PrintedState other
left_printed rule percent state other e is = let there = subst PrintedState e is in record { rows = there.rows; waiting = there.waiting }

module _ (each : Bool) (rule : Rule) (percent : ℕ) where
  -- where no batch was told it does not matter by which catalogue
  pub other_plan : (plan other : Plan) (rows : Database) (state : State) (bytes : List ℕ) → IsTold plan each rule percent rows [] state bytes
      → IsTold other each rule percent rows [] state bytes
  other_plan plan other rows state bytes t = record { state_is = t.state_is; room = tt; bytes_are = t.bytes_are; printed = tt }

  module _ (plan : Plan) where
    pub nothing_told : (rows : Database) (script : List (ℕ × Handed)) (state : State) (bytes : List ℕ) → IsTold plan each rule percent rows script state bytes
        → IsTold plan each rule percent rows script state (bytes ++ [])
    nothing_told rows script state bytes t = subst (λ (b : List ℕ). IsTold plan each rule percent rows script state b) (sym (append-nil bytes)) t

    pub put_told : (rows : Database) (script : List (ℕ × Handed)) (state : State) (bytes : List ℕ) (key : Key) (row : Cells) → script ≡ []
        → IsTold plan each rule percent rows script state bytes
        → IsTold plan each rule percent (fin.insert rows key row) script (record state { rows = fin.insert state.rows key row }) bytes
    put_told rows [] state bytes key row none t = record {
      state_is = ap (λ (s : State). record s { rows = fin.insert s.rows key row }) t.state_is;
      room = tt;
      bytes_are = t.bytes_are;
      printed = tt;
    }
    put_told rows (b ∷ script) state bytes key row none t = absurd cc

    pub set_told : (rows : Database) (script : List (ℕ × Handed)) (state : State) (bytes : List ℕ) (r : Rule) (p : ℕ)
        → IsTold plan each rule percent rows script state bytes
        → IsTold plan each rule percent rows script (record state { rule = r; percent = p }) bytes
    set_told rows script state bytes r p t = record {
      state_is = ap (settled r p) t.state_is;
      room = t.room;
      bytes_are = t.bytes_are;
      printed = t.printed;
    }

    module _ (lines : PrintedLines) (rows : Database) (script : List (ℕ × Handed)) (state : State) (bytes : List ℕ)
        (t : IsTold plan each rule percent rows script state bytes) where
      abbrev First : State
      First = fresh rule percent rows

      abbrev Left : State
      Left = left plan First script

      -- ---- a batch that was run before

      module _ (batch : ℕ × Handed) (before : batch.0 ≤ state.batches) where
        was_kept : is_kept Left batch ≡ true
        was_kept =
            let batches : state.batches ≡ Left.batches = ap (λ (s : State). s.batches) t.state_is in
            le-leb batch.0 Left.batches (subst (λ (n : ℕ). batch.0 ≤ n) batches before)

        kept_lines : script_lines plan each First (script ++ batch ∷ []) ≡ script_lines plan each First script ++ kept_line batch.0 ∷ []
        kept_lines =
            lines_more plan each First script batch
            ∙ ap (λ (b : Bool). script_lines plan each First script ++ cond b (kept_line batch.0 ∷ []) (batch_lines plan each Left batch.1)) was_kept

        pub keep_told : IsTold plan each rule percent rows (script ++ batch ∷ []) state (bytes ++ kept_text batch.0)
        keep_told = record {
          state_is = t.state_is ∙ ap (settled state.rule state.percent)
              (sym (left_more plan each First script batch ∙ ap (λ (b : Bool). cond b Left (step (run_of plan) Left batch.1)) was_kept));
          room = room_more plan each First script batch t.room (λ run. let clash : true ≡ false = sym was_kept ∙ run in cc);
          bytes_are = (λ i. t.bytes_are i ++ lines.kepts batch.0 i) ∙ sym (fed_more (script_lines plan each First script) (kept_line batch.0 ∷ []))
              ∙ ap fed (sym kept_lines);
          printed = subst (AllByRecursion Printed) (sym kept_lines)
              (all_joined Printed (script_lines plan each First script) (kept_line batch.0 ∷ []) t.printed (kept_printed batch.0, tt));
        }

      -- ---- a batch that is run

      module _ (named : PrintedPlan plan) (is : PrintedState state) (number : ℕ) (calls : List Call) (new : state.batches < number)
          (asks : AllByRecursion PrintedCall calls)
          (room : length state.waiting + length calls ≤ MOST_REQUESTS) (few : state.requests + length calls < 2 ^ 64) where
        abbrev handed : Handed
        handed = record { rule = state.rule; percent = state.percent; calls = calls }

        was_run : is_kept Left (number, handed) ≡ false
        was_run =
            let batches : state.batches ≡ Left.batches = ap (λ (s : State). s.batches) t.state_is in
            lt-leb number Left.batches (subst (λ (n : ℕ). n < number) batches new)

        run_lines : script_lines plan each First (script ++ (number, handed) ∷ []) ≡ script_lines plan each First script ++ batch_lines plan each Left handed
        run_lines =
            lines_more plan each First script (number, handed)
            ∙ ap (λ (b : Bool). script_lines plan each First script ++ cond b (kept_line number ∷ []) (batch_lines plan each Left handed)) was_run

        same_lines : batch_lines plan each state handed ≡ batch_lines plan each Left handed
        same_lines = ap (λ (s : State). batch_lines plan each s handed) t.state_is

        left_then : left plan First (script ++ (number, handed) ∷ []) ≡ step (run_of plan) Left handed
        left_then = left_more plan each First script (number, handed) ∙ ap (λ (b : Bool). cond b Left (step (run_of plan) Left handed)) was_run

        pub run_told : IsTold plan each rule percent rows (script ++ (number, handed) ∷ []) (step (run_of plan) state handed)
            (bytes ++ texts_of plan each state handed)
        run_told = record {
          state_is = ap (λ (s : State). step (run_of plan) s handed) t.state_is ∙ ap (settled state.rule state.percent) (sym left_then);
          room = room_more plan each First script (number, handed) t.room
              (λ run. (
                subst (λ (s : State). length s.waiting + length calls ≤ MOST_REQUESTS) t.state_is room,
                subst (λ (s : State). s.requests + length calls < 2 ^ 64) t.state_is few,
              ));
          bytes_are = (λ i. t.bytes_are i ++ (lines.batches plan each state handed ∙ ap fed same_lines) i)
              ∙ sym (fed_more (script_lines plan each First script) (batch_lines plan each Left handed)) ∙ ap fed (sym run_lines);
          printed = subst (AllByRecursion Printed) (sym run_lines)
              (all_joined Printed (script_lines plan each First script) (batch_lines plan each Left handed) t.printed
              (batch_printed plan each Left handed named (left_printed state.rule state.percent state Left t.state_is is) asks));
        }
