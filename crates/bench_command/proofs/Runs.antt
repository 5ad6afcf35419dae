-- What batches come to, one behind the other.
use Rattle.std.proofs.Common.{◌≡◌, ℕ, zero, suc, ◌+◌, ◌-◌, ◌<◌, ◌==◌, [], ◌∷◌, length, Bool, true, false, cond, refl, sym, ap, ◌∙◌, arith}
use Rattle.rand_pcg.specs.Lcg.{Lcg}
use Rattle.batch_core.specs.Steps.{State, answer, step}
use Rattle.batch_core.specs.declared.answers.Answer.{Answer}
use Rattle.proc_lang.specs.Catalogs.{Plan, run_of}
use Rattle.serving.specs.Drains.{no_calls}
use Rattle.serving.specs.Lives.{handed_at, plan_of, state_of}
use Rattle.workloads.specs.Generators as load
use Rattle.workloads.specs.declared.generators.Generator.{Generator}
use Rattle.bench_command.specs.Benches.{Ran, batches_ran, calls_at, drains_ran, none_ran, ran_behind}
use Rattle.bench_command.specs.Tallies.{lines_of, with_lines}
use Rattle.bench_command.specs.Turns.{Came, IsBehind}
use Rattle.bench_command.specs.declared.tallies.Tally.{Tally}
use Rattle.bench_command.specs.declared.turns.Turn.{Turn}
use Rattle.bench_command.proofs.Tallied.{one_answer, with_lines-none}

-- with the rest from here the whole is told
pub record Leads (now : Turn) (rest : Ran) (start : Turn) (whole : Ran) : Type 0 where
  pub state : rest.state ≡ whole.state
  pub tally : with_lines now.tally (lines_of rest.answers) ≡ with_lines start.tally (lines_of whole.answers)

pub leads_same : (start : Turn) (rest whole : Ran) → rest ≡ whole → Leads start rest start whole
leads_same start rest whole same = record {
  state = ap (λ r. r.state) same;
  tally = ap (λ (r : Ran). with_lines start.tally (lines_of r.answers)) same;
}

-- behind one batch more
pub leads_on : (start now next : Turn) (whole rest later : Ran) (one : Answer) → Leads now rest start whole → rest ≡ ran_behind (one ∷ []) later
    → next.tally ≡ with_lines now.tally one.lines → Leads next later start whole
leads_on start now next whole rest later one leads cut more = record {
  state = sym (ap (λ (r : Ran). r.state) cut) ∙ leads.state;
  tally = ap (λ (t : Tally). with_lines t (lines_of later.answers)) more
      ∙ sym (one_answer now.tally one later.answers)
      ∙ sym (ap (λ (r : Ran). with_lines now.tally (lines_of r.answers)) cut)
      ∙ leads.tally;
}

-- nothing is left
pub leads_end : (start now : Turn) (whole rest : Ran) → Leads now rest start whole → rest ≡ none_ran (state_of now.live) → Came start whole now
leads_end start now whole rest leads none = record {
  state = sym (ap (λ (r : Ran). r.state) none) ∙ leads.state;
  tally = sym (with_lines-none now.tally)
      ∙ sym (ap (λ (r : Ran). with_lines now.tally (lines_of r.answers)) none)
      ∙ leads.tally;
}

-- ---- the batches of a workload

pub batches_none : (g : Generator) (size : ℕ) (state : State) (draws : Lcg) → batches_ran g size 0 state draws ≡ none_ran state
unfolding batches_ran
batches_none g size state draws = refl

pub batches_more : (g : Generator) (size n : ℕ) (state : State) (draws : Lcg)
    → batches_ran g size (suc n) state draws
    ≡ ran_behind (answer (run_of (load.plan_of g)) state (handed_at state (calls_at g size state draws).0) ∷ [])
    (batches_ran g size n (step (run_of (load.plan_of g)) state (handed_at state (calls_at g size state draws).0)) (calls_at g size state draws).1)
unfolding batches_ran
batches_more g size n state draws = refl

-- ---- what waits

pub drains_none : (plan : Plan) (state : State) → drains_ran plan 0 state ≡ none_ran state
unfolding drains_ran
drains_none plan state = refl

at_rest : (b : Bool) (x y : Ran) → b ≡ true → cond b x y ≡ x
at_rest true x y e = refl
at_rest false x y e = absurd cc

under_way : (b : Bool) (x y : Ran) → b ≡ false → cond b x y ≡ y
under_way true x y e = absurd cc
under_way false x y e = refl

pub drains_rest : (plan : Plan) (n : ℕ) (state : State) → (length state.waiting == 0) ≡ true → drains_ran plan n state ≡ none_ran state
unfolding drains_ran
drains_rest plan zero state rest = refl
drains_rest plan (suc n) state rest = at_rest (length state.waiting == 0) (none_ran state) _ rest

pub drains_more : (plan : Plan) (n : ℕ) (state : State) → (length state.waiting == 0) ≡ false
    → drains_ran plan (suc n) state
    ≡ ran_behind (answer (run_of plan) state (no_calls state) ∷ []) (drains_ran plan n (step (run_of plan) state (no_calls state)))
unfolding drains_ran
drains_more plan n state some = under_way (length state.waiting == 0) (none_ran state) _ some

-- ---- a turn more

module _ (start now next : Turn) (whole : Ran) where
  pub batch_leads : (g : Generator) (size count past : ℕ) (draws later : Lcg) → past < count → plan_of now.live ≡ load.plan_of g
      → IsBehind now (calls_at g size (state_of now.live) draws).0 next → later ≡ (calls_at g size (state_of now.live) draws).1
      → Leads now (batches_ran g size (count - past) (state_of now.live) draws) start whole
      → Leads next (batches_ran g size (count - (past + 1)) (state_of next.live) later) start whole
  batch_leads g size count past draws later within plan behind drawn leads =
      let state = state_of now.live in
      let calls = calls_at g size state draws in
      let one = answer (run_of (load.plan_of g)) state (handed_at state calls.0) in
      let left = count - (past + 1) in
      let fuel : count - past ≡ suc left = omega (arith, within) in
      let there : step (run_of (load.plan_of g)) state (handed_at state calls.0) ≡ state_of next.live =
      ap (λ (p : Plan). step (run_of p) state (handed_at state calls.0)) (sym plan) ∙ sym behind.state in
      let cut : batches_ran g size (count - past) state draws ≡ ran_behind (one ∷ []) (batches_ran g size left (state_of next.live) later) =
      ap (λ n. batches_ran g size n state draws) fuel
      ∙ batches_more g size left state draws
      ∙ ap (λ (s : State). ran_behind (one ∷ []) (batches_ran g size left s calls.1)) there
      ∙ ap (λ (d : Lcg). ran_behind (one ∷ []) (batches_ran g size left (state_of next.live) d)) (sym drawn) in
      let more : next.tally ≡ with_lines now.tally one.lines =
      behind.tally ∙ ap (λ (p : Plan). with_lines now.tally (answer (run_of p) state (handed_at state calls.0)).lines) plan in
      leads_on start now next whole (batches_ran g size (count - past) state draws) (batches_ran g size left (state_of next.live) later) one leads cut more

  pub drain_leads : (plan : Plan) (count past : ℕ) → past < count → (length (state_of now.live).waiting == 0) ≡ false → plan_of now.live ≡ plan
      → IsBehind now [] next
      → Leads now (drains_ran plan (count - past) (state_of now.live)) start whole
      → Leads next (drains_ran plan (count - (past + 1)) (state_of next.live)) start whole
  drain_leads plan count past within some of_plan behind leads =
      let state = state_of now.live in
      let one = answer (run_of plan) state (no_calls state) in
      let left = count - (past + 1) in
      let fuel : count - past ≡ suc left = omega (arith, within) in
      let there : step (run_of plan) state (no_calls state) ≡ state_of next.live =
      ap (λ (p : Plan). step (run_of p) state (no_calls state)) (sym of_plan) ∙ sym behind.state in
      let cut : drains_ran plan (count - past) state ≡ ran_behind (one ∷ []) (drains_ran plan left (state_of next.live)) =
      ap (λ n. drains_ran plan n state) fuel
      ∙ drains_more plan left state some
      ∙ ap (λ (s : State). ran_behind (one ∷ []) (drains_ran plan left s)) there in
      let more : next.tally ≡ with_lines now.tally one.lines =
      behind.tally ∙ ap (λ (p : Plan). with_lines now.tally (answer (run_of p) state (no_calls state)).lines) of_plan in
      leads_on start now next whole (drains_ran plan (count - past) state) (drains_ran plan left (state_of next.live)) one leads cut more
