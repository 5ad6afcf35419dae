-- Line by line `check` stands beside `once`: at the same place of the script, with the batches that were told so far.
use Rattle.std.proofs.Common.{◌≡◌, ◌⊎◌, inr, ◌∙◌, sym, ap, subst, refl, ℕ, ◌+◌, ◌<◌, ◌≤◌, Bool, true, false, List, [], ◌∷◌, ◌++◌, length, Ok, Err, arith}
use Rattle.std.specs.Prelude.{⊤}
use Rattle.std.specs.List.{AllByRecursion}
use Rattle.std.proofs.lemmas.List.{length-append, map-append}
use Rattle.aria_base.specs.Orders.{Database}
use Rattle.aria_base.specs.declared.calls.Call.{Call}
use Rattle.aria_base.specs.declared.limits.TheConstants.{GREATEST_NUMBER, MOST_REQUESTS}
use Rattle.batch_core.specs.Steps.{Handed, State}
use Rattle.batch_rules.specs.declared.verdicts.Rule.{Rule}
use Rattle.check_command.proofs.Asked.{kept_before}
use Rattle.check_command.specs.Checks as check
use Rattle.report_laws.specs.Laws.{PrintedLines}
use Rattle.report_laws.specs.Scripts.{calls_of}
use Rattle.run_commands.specs.Bases.{counts_of}
use Rattle.run_commands.specs.Onces as once
use Rattle.script_course.proofs.Turns.{stopped_lines}
use Rattle.script_course.specs.Courses.{Course, Goes, Stops, behind, with_lines}
use Rattle.script_places.proofs.Allowed.{follows}
use Rattle.script_places.specs.Follows.{Follows, HeadStays}
use Rattle.script_places.specs.Places.{Asked, asked, is_check, is_ready, plan_in}
use Rattle.script_places.specs.declared.deeds.Deed.{Deed}
use Rattle.script_places.specs.declared.deeds.Deed.TheVariants as deed
use Rattle.script_places.specs.declared.places.Counts.{Counts}
use Rattle.script_places.specs.declared.places.Mode.TheVariants as mode
use Rattle.script_places.specs.declared.places.ScriptPlace.{ScriptPlace}
use Rattle.output_laws.proofs.Asks.{Asks, PrintedHead, as_mode, asked_beside, unwaited}
use Rattle.output_laws.proofs.Batches.{PrintedState, plan_step}
use Rattle.output_laws.proofs.Heads.{named_plan, ready_on, told_on}
use Rattle.output_laws.proofs.Runs.{insert_printed}
use Rattle.output_laws.proofs.Scripts.{IsTold, keep_told, nothing_told, put_told, run_told, set_told}
use Rattle.output_laws.proofs.Texts.{PrintedCall, all_joined}

-- `once` and `check` behind the same lines of a script, of which these batches were told by these bytes
pub record Beside (each : Bool) (rule : Rule) (percent : ℕ) (o : once.Doing) (c : check.Doing) (script : List (ℕ × Handed)) (bytes : List ℕ) : Type 0 where
  pub place : c.place ≡ as_mode mode.Check o.place
  pub mode_is : o.place.mode ≡ mode.Once
  pub quiet : o.place.reports ≡ false
  pub head : PrintedHead o.place.head
  pub each_is : o.each ≡ each
  pub counted : o.place.open_calls ≡ length o.calls
  pub calls : c.calls ≡ o.calls
  pub asks : AllByRecursion PrintedCall o.calls
  pub state : PrintedState o.state
  pub told : IsTold (plan_in o.place.head) o.each rule percent c.rows script o.state bytes
  pub script_is : c.script ≡ calls_of script
  pub ends : length c.ends ≡ o.state.batches
  pub requests : c.requests ≡ o.state.requests
  pub report : c.report ≡ []
  pub early : o.place.rows_ended ≡ false → script ≡ []
  pub ready : (script ≡ []) ⊎ (is_ready o.place.head ≡ true)

before_false : (x y : Bool) → (x ≡ true → y ≡ true) → y ≡ false → x ≡ false
before_false true y h e = let clash : true ≡ false = sym (h refl) ∙ e in cc
before_false false y h e = refl

never_false : {A : Type 0} (x : Bool) → x ≡ true → x ≡ false → A
never_false x e f = let clash : true ≡ false = sym e ∙ f in absurd cc

module _ (lines : PrintedLines) (each : Bool) (rule : Rule) (percent : ℕ) where
  -- `check` goes on beside `once`, where that goes on
  abbrev pub StepOn : List ℕ → Course once.Doing → Course check.Doing → Type 0
  StepOn bytes (Goes more o) k = (c : check.Doing) × (script : List (ℕ × Handed)) × (k ≡ Goes [] c) × Beside each rule percent o c script (bytes ++ more)
  StepOn bytes (Stops more) k = ⊤

  -- ---- what a line asks for

  module _ (o : once.Doing) (c : check.Doing) (script : List (ℕ × Handed)) (bytes line : List ℕ) (b : Beside each rule percent o c script bytes)
      (after : ScriptPlace) where
    abbrev Before : Counts
    Before = counts_of o.state

    abbrev Now : once.Doing
    Now = record o { place = after }

    abbrev Checked : check.Doing
    Checked = record c { place = as_mode mode.Check after }

    module _ (asks : Deed) (is : Asks (after, asks)) (stays : HeadStays o.place.head after.head) where
      abbrev Told : List (ℕ × Handed) → State → Database → List ℕ → Type 0
      Told told state rows now = IsTold (plan_in after.head) o.each rule percent rows told state now

      here : Told script o.state c.rows bytes
      here = told_on o.each rule percent c.rows o.state bytes script o.place.head after.head stays b.ready b.told

      still : Told script o.state c.rows (bytes ++ [])
      still = nothing_told o.each rule percent (plan_in after.head) c.rows script o.state bytes here

      ready_now : (script ≡ []) ⊎ (is_ready after.head ≡ true)
      ready_now = ready_on script o.place.head after.head stays b.ready

    go : (asks : Deed) → Asks (after, asks) → Follows o.place (counts_of o.state) after asks → asked o.place (counts_of o.state) line ≡ Ok (after, asks)
        → StepOn bytes (once.done (record o { place = after }) asks) (check.done (record c { place = as_mode mode.Check after }) line asks)
    go deed.Nothing is f e = (
      Checked,
      script,
      refl,
      record {
        place = refl;
        mode_is = is.mode_is;
        quiet = is.quiet;
        head = is.head;
        each_is = b.each_is;
        counted = f.allows.calls ∙ b.counted;
        calls = b.calls;
        asks = b.asks;
        state = b.state;
        told = still deed.Nothing is f.head_stays;
        script_is = b.script_is;
        ends = b.ends;
        requests = b.requests;
        report = b.report;
        early = λ k. b.early (before_false o.place.rows_ended after.rows_ended f.allows.rows k);
        ready = ready_now deed.Nothing is f.head_stays;
      },
    )
    go (deed.Put key row) is f e = (
      check.with_row Checked key row,
      script,
      refl,
      record {
        place = refl;
        mode_is = is.mode_is;
        quiet = is.quiet;
        head = is.head;
        each_is = b.each_is;
        counted = f.allows.calls ∙ b.counted;
        calls = b.calls;
        asks = b.asks;
        state = record { rows = insert_printed o.state.rows key row b.state.rows is.deed.0 is.deed.1; waiting = b.state.waiting };
        told = put_told o.each rule percent (plan_in after.head) c.rows script o.state (bytes ++ []) key row (b.early f.allows.rows)
            (still (deed.Put key row) is f.head_stays);
        script_is = b.script_is;
        ends = b.ends;
        requests = b.requests;
        report = b.report;
        early = λ k. b.early f.allows.rows;
        ready = ready_now (deed.Put key row) is f.head_stays;
      },
    )
    go (deed.Call call) is f e = (
      check.with_call Checked call,
      script,
      refl,
      record {
        place = refl;
        mode_is = is.mode_is;
        quiet = is.quiet;
        head = is.head;
        each_is = b.each_is;
        counted = f.allows.calls ∙ ap (λ (n : ℕ). n + 1) b.counted ∙ sym (length-append o.calls (call ∷ []));
        calls = ap (λ (l : List Call). l ++ call ∷ []) b.calls;
        asks = all_joined PrintedCall o.calls (call ∷ []) b.asks (is.deed, tt);
        state = b.state;
        told = still (deed.Call call) is f.head_stays;
        script_is = b.script_is;
        ends = b.ends;
        requests = b.requests;
        report = b.report;
        early = λ k. never_false after.rows_ended f.allows.rows k;
        ready = ready_now (deed.Call call) is f.head_stays;
      },
    )
    go (deed.Set r p) is f e = (
      Checked,
      script,
      refl,
      record {
        place = refl;
        mode_is = is.mode_is;
        quiet = is.quiet;
        head = is.head;
        each_is = b.each_is;
        counted = f.allows.calls ∙ b.counted;
        calls = b.calls;
        asks = b.asks;
        state = record { rows = b.state.rows; waiting = b.state.waiting };
        told = set_told o.each rule percent (plan_in after.head) c.rows script o.state (bytes ++ []) r p (still (deed.Set r p) is f.head_stays);
        script_is = b.script_is;
        ends = b.ends;
        requests = b.requests;
        report = b.report;
        early = λ k. never_false after.rows_ended f.allows.rows k;
        ready = ready_now (deed.Set r p) is f.head_stays;
      },
    )
    go (deed.Keep number) is f e =
        let batch : ℕ × Handed = (number, record { rule = o.state.rule; percent = o.state.percent; calls = [] }) in (
          check.with_kept Checked number,
          script ++ batch ∷ [],
          refl,
          record {
            place = refl;
            mode_is = is.mode_is;
            quiet = is.quiet;
            head = is.head;
            each_is = b.each_is;
            counted = f.allows.calls;
            calls = refl;
            asks = tt;
            state = b.state;
            told = keep_told o.each rule percent (plan_in after.head) lines c.rows script o.state bytes (here (deed.Keep number) is f.head_stays) batch
                (kept_before (counts_of o.state) o.place line after number e);
            script_is = ap (λ (l : List (ℕ × List Call)). l ++ (number, []) ∷ []) b.script_is
                ∙ sym (map-append (λ (x : ℕ × Handed). (x.0, x.1.calls)) script (batch ∷ []));
            ends = b.ends;
            requests = b.requests;
            report = b.report;
            early = λ k. never_false after.rows_ended f.allows.rows k;
            ready = inr is.ready;
          },
        )
    go deed.Run is f e =
        let number : ℕ = length c.ends + 1 in
        let handed : Handed = record { rule = o.state.rule; percent = o.state.percent; calls = o.calls } in
        let new : o.state.batches < number = omega (arith, b.ends) in
        let room : length o.state.waiting + length o.calls ≤ MOST_REQUESTS =
        subst (λ (n : ℕ). length o.state.waiting + n ≤ MOST_REQUESTS) b.counted (f.allows.room (ap is_check b.mode_is)) in
        let within : o.state.requests + length o.calls ≤ GREATEST_NUMBER =
        subst (λ (n : ℕ). o.state.requests + n ≤ GREATEST_NUMBER) b.counted f.allows.requests in
        let named = named_plan after.head is.head in (
          check.with_run Checked,
          script ++ (number, handed) ∷ [],
          refl,
          record {
            place = refl;
            mode_is = is.mode_is;
            quiet = is.quiet;
            head = is.head;
            each_is = b.each_is;
            counted = f.allows.calls;
            calls = refl;
            asks = tt;
            state = plan_step (plan_in after.head) o.state handed named b.state b.asks;
            told = run_told o.each rule percent (plan_in after.head) lines c.rows script o.state bytes
                (here deed.Run is f.head_stays) named b.state number o.calls new b.asks room (omega (arith, within));
            script_is = (λ i. b.script_is i ++ (number, b.calls i) ∷ [])
                ∙ sym (map-append (λ (x : ℕ × Handed). (x.0, x.1.calls)) script ((number, handed) ∷ []));
            ends = length-append c.ends (after.lines ∷ []) ∙ ap (λ (n : ℕ). n + 1) b.ends;
            requests = λ i. b.requests i + length (b.calls i);
            report = b.report;
            early = λ k. never_false after.rows_ended f.allows.rows k;
            ready = inr is.ready;
          },
        )
    go deed.Tell is f e = absurd is.deed

  -- ---- a line

  pub line_beside : (o : once.Doing) (c : check.Doing) (script : List (ℕ × Handed)) (bytes line : List ℕ) → Beside each rule percent o c script bytes
      → StepOn bytes (once.on_line o line) (check.on_line c line)
  line_beside o c script bytes line b = by (asked o.place (counts_of o.state) line) refl
    where
      same : asked c.place (check.counts_of c) line ≡ asked (as_mode mode.Check o.place) (unwaited (counts_of o.state)) line
      same = λ i. asked (b.place i) (record { batches = b.ends i; requests = b.requests i; waiting = 0 }) line

      by : (a : Asked) → asked o.place (counts_of o.state) line ≡ a → StepOn bytes (once.done_by o a) (check.on_line c line)
      by (Err kind) e = tt
      by (Ok (after, asks)) e =
          let there = asked_beside (counts_of o.state) o.place b.mode_is b.quiet b.head line (after, asks) e in
          subst (λ (a : Asked). StepOn bytes (once.done (record o { place = after }) asks) (check.done_by c line a)) (sym (same ∙ there.0))
          (go o c script bytes line b after asks there.1 (follows o.place (counts_of o.state) line after asks e) e)

  -- ---- lines

  abbrev pub LinesOn : Course once.Doing → Course check.Doing → Type 0
  LinesOn (Goes bytes o) k = (c : check.Doing) × (script : List (ℕ × Handed)) × (k ≡ Goes [] c) × Beside each rule percent o c script bytes
  LinesOn (Stops bytes) k = ⊤

  stopped_on : (bytes : List ℕ) (lines : List (List ℕ)) (k : Course check.Doing) → LinesOn (with_lines once.on_line (Stops bytes) lines) k
  stopped_on bytes lines k = subst (λ (x : Course once.Doing). LinesOn x k) (sym (stopped_lines once.on_line bytes lines)) tt

  pub lines_beside : (ls : List (List ℕ)) (o : once.Doing) (c : check.Doing) (script : List (ℕ × Handed)) (bytes : List ℕ)
      → Beside each rule percent o c script bytes
      → LinesOn (with_lines once.on_line (Goes bytes o) ls) (with_lines check.on_line (Goes [] c) ls)
  lines_beside [] o c script bytes b = (c, script, refl, b)
  lines_beside (line ∷ ls) o c script bytes b = by (λ next k told seen is. lines_beside ls next k told seen is) (once.on_line o line) (check.on_line c line)
      (line_beside o c script bytes line b)
    where
      by : ((next : once.Doing) (c : check.Doing) (script : List (ℕ × Handed)) (bytes : List ℕ) → Beside each rule percent next c script bytes
          → LinesOn (with_lines once.on_line (Goes bytes next) ls) (with_lines check.on_line (Goes [] c) ls))
          → (x : Course once.Doing) (k : Course check.Doing) → StepOn bytes x k
          → LinesOn (with_lines once.on_line (behind bytes x) ls) (with_lines check.on_line (behind [] k) ls)
      by rest (Stops more) k s = stopped_on (bytes ++ more) ls (with_lines check.on_line (behind [] k) ls)
      by rest (Goes more next) k s =
          subst (λ (x : Course check.Doing). LinesOn (with_lines once.on_line (Goes (bytes ++ more) next) ls) (with_lines check.on_line (behind [] x) ls))
          (sym s.2)
          (rest next s.0 s.1 (bytes ++ more) s.3)
