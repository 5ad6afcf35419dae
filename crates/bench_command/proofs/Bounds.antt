-- How many lines an answer has, and what stays within its bounds.
use Rattle.std.proofs.Common.{◌≡◌, ℕ, zero, suc, ◌+◌, ◌*◌, ◌<◌, ◌≤◌, List, [], ◌∷◌, length, min, Bool, true, refl, sym, ap, subst, ◌∙◌, arith}
use Rattle.std.specs.Prelude.{Result, Ok, Err, IfOk, count_by}
use Rattle.std.specs.List.{All}
use Rattle.std.proofs.lemmas.List.{length-append, length-map}
use Rattle.std.proofs.lemmas.List.Elements.{All-nil}
use Rattle.std.proofs.lemmas.List.Sums.{count_by-le-length}
use Rattle.aria_base.specs.Orders.{Cells}
use Rattle.aria_base.specs.declared.calls.Call.{Call}
use Rattle.aria_base.specs.declared.calls.Request.{Request}
use Rattle.aria_base.specs.declared.keys.Key.{Key}
use Rattle.aria_base.specs.declared.limits.TheConstants.{MOST_REQUESTS}
use Rattle.batch_core.proofs.Serial.{list-is}
use Rattle.batch_core.specs.Serial.{is_wait}
use Rattle.batch_core.specs.Steps.{State, Handed, answer, line_of, list_of, outcome, step}
use Rattle.batch_core.specs.declared.answers.Line.{Line}
use Rattle.batch_engine.proofs.Readying.{length-list}
use Rattle.batch_rules.specs.Trees.{Tree}
use Rattle.proc_lang.specs.declared.ends.End.{End}
use Rattle.proc_lang.specs.Catalogs.{Plan, run_of, takes}
use Rattle.serving.specs.Lives.{IsNext, IsRunnable, MayServe, next_answer, next_handed, plan_of, state_of}
use Rattle.serving.specs.declared.lives.Live.{Live}
use Rattle.load_gen.specs.Draws.{Drawn, times}
use Rattle.rand_pcg.specs.Lcg.{Lcg}
use Rattle.workloads.specs.Generators as load
use Rattle.workloads.specs.Generators.{request_of}
use Rattle.workloads.specs.declared.generators.Generator.{Generator}
use Rattle.bench_command.specs.Benches.{calls_at, room}
use Rattle.serving.proofs.Nexts.{handed_is}
use Rattle.bench_command.specs.Tallies.{HasRoom, is_back, is_ok, is_trap, of_line, with_lines}
use Rattle.bench_command.specs.Turns.{IsBehind, Stands}
use Rattle.bench_command.specs.declared.courses.TheConstants.{MOST_BATCHES}
use Rattle.bench_command.specs.declared.turns.Turn.{Turn}

-- a line for each request of the list
pub lines_are : (tree : Request → Tree Key Cells End) (state : State) (handed : Handed)
    → length (answer tree state handed).lines ≡ length state.waiting + length handed.calls
lines_are tree state handed =
    length-map (outcome tree state handed).entries (line_of (λ request. request) (list_of state handed))
    ∙ sym (length-map (outcome tree state handed).entries (λ e. e.judged.request))
    ∙ ap length (list-is tree state handed)
    ∙ length-list state handed

-- and no more than a batch may have requests
pub few_lines : (before : Turn) (calls : List Call) → MayServe before.live calls → length (next_answer before.live calls).lines ≤ MOST_REQUESTS
few_lines before calls may =
    let all = lines_are (run_of (plan_of before.live)) (state_of before.live) (next_handed before.live calls) in
    omega (arith, all, may.room)

-- there is room for them in the tally
pub has_room : (plan : Plan) (before : Turn) (calls : List Call) → Stands plan before → (state_of before.live).batches < MOST_BATCHES
    → MayServe before.live calls
    → HasRoom before.tally (length (next_answer before.live calls).lines)
has_room plan before calls stands early may =
    let few = few_lines before calls may in
    record {
      ok = omega (arith, few, stands.ok, early);
      back = omega (arith, few, stands.back, early);
      trap = omega (arith, few, stands.trap, early);
      waits = omega (arith, few, stands.waits, early);
    }

-- ---- a batch behind another

counted : (p : Line → Bool) (lines : List Line) (now later batches : ℕ) → length lines ≤ MOST_REQUESTS → now ≤ MOST_REQUESTS * batches
    → later ≡ now + count_by p lines
    → later ≤ MOST_REQUESTS * (batches + 1)
counted p lines now later batches few within same = let some = count_by-le-length p lines in omega (arith, some, few, within, same)

pub behind_next : (before after : Turn) (calls : List Call) → IsNext before.live calls after.live
    → after.tally ≡ with_lines before.tally (next_answer before.live calls).lines
    → IsBehind before calls after
behind_next before after calls next tally =
    let same = handed_is before.live calls in
    record {
      state = next.state ∙ ap (λ (h : Handed). step (run_of (plan_of before.live)) (state_of before.live) h) same;
      tally = tally ∙ ap (λ (h : Handed). with_lines before.tally (answer (run_of (plan_of before.live)) (state_of before.live) h).lines) same;
      plan = next.plan;
      config = next.config;
    }

pub stands_next : (plan : Plan) (before after : Turn) (calls : List Call) → Stands plan before → MayServe before.live calls
    → IsNext before.live calls after.live
    → after.tally ≡ with_lines before.tally (next_answer before.live calls).lines → Stands plan after
stands_next plan before after calls stands may next tally =
    let few = few_lines before calls may in
    let lines = (next_answer before.live calls).lines in
    let batches = (state_of before.live).batches in
    let later : (state_of after.live).batches ≡ batches + 1 = ap (λ (s : State). s.batches) next.state in
    let more : (state_of after.live).requests ≡ (state_of before.live).requests + length calls = ap (λ (s : State). s.requests) next.state in
    let Bound : ℕ → ℕ → Type 0 = λ count number. count ≤ MOST_REQUESTS * number in
    record {
      plan = next.plan ∙ stands.plan;
      runnable = next.runnable;
      requests = subst (Bound (state_of after.live).requests) (sym later) (omega (arith, more, stands.requests, may.room));
      ok = subst (Bound after.tally.ok) (sym later) (counted (of_line is_ok) lines before.tally.ok after.tally.ok batches few stands.ok (ap (λ t. t.ok) tally));
      back = subst (Bound after.tally.back) (sym later) (counted (of_line is_back) lines before.tally.back after.tally.back batches few stands.back
          (ap (λ t. t.back) tally));
      trap = subst (Bound after.tally.trap) (sym later) (counted (of_line is_trap) lines before.tally.trap after.tally.trap batches few stands.trap
          (ap (λ t. t.trap) tally));
      waits = subst (Bound after.tally.waits) (sym later) (counted (of_line is_wait) lines before.tally.waits after.tally.waits batches few stands.waits
          (ap (λ t. t.waits) tally));
    }

-- ---- what may be run

pub stands_own : (plan : Plan) (turn : Turn) → Stands plan turn → Stands (plan_of turn.live) turn
stands_own plan turn stands = record {
  plan = refl;
  runnable = stands.runnable;
  requests = stands.requests;
  ok = stands.ok;
  back = stands.back;
  trap = stands.trap;
  waits = stands.waits;
}

pub may_serve : (live : Live) (calls : List Call) → IsRunnable live → All (λ call. takes (plan_of live) call ≡ true) calls → length calls ≤ room (state_of live)
    → (state_of live).batches < MOST_BATCHES → (state_of live).requests ≤ MOST_REQUESTS * (state_of live).batches → MayServe live calls
may_serve live calls runnable fit few early within = record {
  fit = fit;
  room = omega (arith, few, runnable.few);
  batches = omega (arith, early);
  requests = omega (arith, few, early, within);
  percent = runnable.percent;
  workers = runnable.workers;
}

pub may_drain : (plan : Plan) (turn : Turn) → Stands plan turn → (state_of turn.live).batches < MOST_BATCHES → MayServe turn.live []
may_drain plan turn stands early =
    may_serve turn.live [] stands.runnable (All-nil (λ (call : Call). takes (plan_of turn.live) call ≡ true)) (omega arith) early stands.requests

pub length-times : {A : Type 0} (n : ℕ) (d : Drawn A) (g : Lcg) → length (times n d g).0 ≡ n
unfolding times
length-times zero d g = refl
length-times (suc n) d g =
    let earlier = length-times n d g in
    let all = length-append (times n d g).0 ((d (times n d g).1).0 ∷ []) in
    omega (arith, earlier, all)

-- drawn by numbers that are those of the state
pub drawn_at : (g : Generator) (size : ℕ) (state : State) (draws : Lcg) (count number : ℕ) → count ≡ min size (room state) → number ≡ state.batches + 1
    → times count (request_of g number) draws ≡ calls_at g size state draws
drawn_at g size state draws count number as_many as_numbered =
    ap (λ n. times n (request_of g number) draws) as_many ∙ ap (λ n. times (min size (room state)) (request_of g n) draws) as_numbered

pub few_drawn : (g : Generator) (size : ℕ) (state : State) (draws : Lcg) → length (calls_at g size state draws).0 ≤ room state
few_drawn g size state draws =
    let all = length-times (min size (room state)) (request_of g (state.batches + 1)) draws in
    omega (arith, all)

pub may_drawn : {V E : Type 0} (items : V → List Call) (result : Result V E) (live : Live) (g : Generator) (size count number : ℕ) (draws : Lcg)
    → IfOk result (λ v. items v ≡ (times count (request_of g number) draws).0) → IfOk result (λ v. All (λ call. takes (load.plan_of g) call ≡ true) (items v))
    → count ≡ min size (room (state_of live)) → number ≡ (state_of live).batches + 1 → plan_of live ≡ load.plan_of g → IsRunnable live
    → (state_of live).batches < MOST_BATCHES → (state_of live).requests ≤ MOST_REQUESTS * (state_of live).batches → IfOk result (λ v. MayServe live (items v))
may_drawn items (Ok v) live g size count number draws drawn fit as_many as_numbered plan runnable early within =
    let same = drawn_at g size (state_of live) draws count number as_many as_numbered in
    let calls : items v ≡ (calls_at g size (state_of live) draws).0 = drawn ∙ ap (λ (x : List Call × Lcg). x.0) same in
    let few : length (items v) ≤ room (state_of live) = subst (λ (l : List Call). length l ≤ room (state_of live)) (sym calls)
    (few_drawn g size (state_of live) draws) in
    may_serve live (items v) runnable (subst (λ (p : Plan). All (λ call. takes p call ≡ true) (items v)) (sym plan) fit) few early within
may_drawn items (Err e) live g size count number draws drawn fit as_many as_numbered plan runnable early within = tt
