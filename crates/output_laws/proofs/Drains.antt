-- What a script prints behind its last line: batches without new calls, and the listing.
use Rattle.std.proofs.Common.{◌≡◌, ◌∙◌, sym, refl, ℕ, zero, suc, ◌<◌, Bool, true, false, cond, ◌==◌, nat_lt, List, [], ◌∷◌, ◌++◌, length, arith}
use Rattle.std.specs.Prelude.{⊤}
use Rattle.std.specs.List.{AllByRecursion}
use Rattle.answer_text.specs.Refusals.{refusal_text}
use Rattle.aria_base.specs.declared.limits.TheConstants.{GREATEST_NUMBER}
use Rattle.batch_core.specs.Steps.{Handed, State, run, step}
use Rattle.batch_rules.specs.declared.verdicts.Rule.{Rule}
use Rattle.proc_lang.specs.Catalogs.{Plan, run_of}
use Rattle.report_laws.specs.Laws.{PrintedLines}
use Rattle.report_laws.specs.Printed.{fed, state_lines}
use Rattle.report_laws.specs.Scripts.{AreDrains, batch_lines, drain_lines}
use Rattle.script_course.specs.Courses.{Course, Goes, Stops, behind}
use Rattle.script_text.specs.declared.refusals.RefusalKind.TheVariants.{Numbers}
use Rattle.serving.specs.Drains.{drained, goes_on, no_calls}
use Rattle.serving.specs.Lives.{batch_text}
use Rattle.output_laws.proofs.Batches.{PrintedState, plan_step}
use Rattle.output_laws.proofs.Lines.{batch_printed}
use Rattle.output_laws.proofs.Runs.{PrintedPlan}
use Rattle.output_laws.proofs.Scripts.{fed_more, settled}
use Rattle.output_laws.proofs.Texts.{Printed, all_joined}

module _ (lines : PrintedLines) (plan : Plan) (each : Bool) (named : PrintedPlan plan) where
  -- these batches were run without new calls, and printed these bytes; the last of them left this state
  pub record Drained (state : State) (bytes : List ℕ) (last : State) : Type 0 where
    pub drains : List Handed
    pub are : AreDrains plan state drains
    pub left : last ≡ run (run_of plan) state drains
    pub bytes_are : bytes ≡ fed (drain_lines plan each state drains)
    pub printed : AllByRecursion Printed (drain_lines plan each state drains)
    pub last_is : PrintedState last

  abbrev pub DrainedBy : State → Course State → Type 0
  DrainedBy state (Goes bytes last) = Drained state bytes last
  DrainedBy state (Stops bytes) = ⊤

  pub none_drained : (state : State) → PrintedState state → Drained state [] state
  none_drained state is = record { drains = []; are = tt; left = refl; bytes_are = refl; printed = tt; last_is = is }

  some_waits : (n : ℕ) → (n == 0) ≡ false → 0 < n
  some_waits zero e = cc
  some_waits (suc n) e = omega arith

  one_more : (state : State) (bytes : List ℕ) (last : State) → PrintedState state → (length state.waiting == 0) ≡ false
      → Drained (step (run_of plan) state (no_calls state)) bytes last
      → Drained state (batch_text plan each state (no_calls state) ++ bytes) last
  one_more state bytes last is some d = record {
    drains = no_calls state ∷ d.drains;
    are = (refl, some_waits (length state.waiting) some, d.are);
    left = d.left;
    bytes_are = (λ i. lines.batches plan each state (no_calls state) i ++ d.bytes_are i)
        ∙ sym (fed_more (batch_lines plan each state (no_calls state)) (drain_lines plan each (step (run_of plan) state (no_calls state)) d.drains));
    printed = all_joined Printed (batch_lines plan each state (no_calls state)) (drain_lines plan each (step (run_of plan) state (no_calls state)) d.drains)
        (batch_printed plan each state (no_calls state) named is tt) d.printed;
    last_is = d.last_is;
  }

  pub drained_told : (line n : ℕ) (state : State) → PrintedState state → DrainedBy state (drained plan each line n state)
  drained_told line zero state is = none_drained state is
  drained_told line (suc n) state is =
      by (length state.waiting == 0) refl (nat_lt state.batches GREATEST_NUMBER)
      (drained_told line n (step (run_of plan) state (no_calls state)) (plan_step plan state (no_calls state) named is tt))
    where
      more : (c : Course State) → DrainedBy (step (run_of plan) state (no_calls state)) c → (length state.waiting == 0) ≡ false
          → DrainedBy state (behind (batch_text plan each state (no_calls state)) c)
      more (Goes bytes last) d some = one_more state bytes last is some d
      more (Stops bytes) d some = tt

      by : (a : Bool) → (length state.waiting == 0) ≡ a → (b : Bool)
          → DrainedBy (step (run_of plan) state (no_calls state)) (drained plan each line n (step (run_of plan) state (no_calls state)))
          → DrainedBy state (cond a (Goes [] state) (goes_on (drained plan each line n)
          (cond b (Goes (batch_text plan each state (no_calls state)) (step (run_of plan) state (no_calls state)))
          (Stops (refusal_text (record { line = line; kind = Numbers }))))))
      by true e b rest = none_drained state is
      by false e true rest = more (drained plan each line n (step (run_of plan) state (no_calls state))) rest e
      by false e false rest = tt

-- ---- settings that nothing asks for

module _ (plan : Plan) (rule : Rule) (percent : ℕ) (state : State) where
  pub same_drains : (drains : List Handed) → AreDrains plan (settled rule percent state) drains → AreDrains plan state drains
  same_drains [] d = tt
  same_drains (handed ∷ more) d = (d.0, d.1, d.2)

  pub same_lines : (each : Bool) (drains : List Handed) → drain_lines plan each (settled rule percent state) drains ≡ drain_lines plan each state drains
  same_lines each [] = refl
  same_lines each (handed ∷ more) = refl

  pub same_listing : (drains : List Handed) → state_lines plan (run (run_of plan) (settled rule percent state) drains) ≡ state_lines plan
      (run (run_of plan) state drains)
  same_listing [] = refl
  same_listing (handed ∷ more) = refl
