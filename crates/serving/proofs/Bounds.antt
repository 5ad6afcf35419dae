-- The bounds of a database stay from batch to batch, and fewer wait where no new calls come.
use Rattle.std.proofs.Common.{◌≡◌, sym, ap, subst, ◌<◌, ◌≤◌, List, length, not, arith}
use Rattle.std.proofs.lemmas.List.Filters.{length-filter_both}
use Rattle.aria_base.specs.declared.calls.Call.{Call}
use Rattle.aria_base.specs.declared.calls.Request.{Request}
use Rattle.aria_base.specs.declared.limits.TheConstants.{GREATEST_NUMBER, MOST_REQUESTS}
use Rattle.aria_base.specs.Orders.{Cells, Database}
use Rattle.aria_base.specs.declared.keys.Key.{Key}
use Rattle.batch_core.specs.Serial.{IsSerialAnswer, is_named}
use Rattle.batch_core.specs.Steps.{State, list_of, step}
use Rattle.batch_core.specs.declared.answers.Answer.{Answer}
use Rattle.batch_core.proofs.Progress.{progress}
use Rattle.batch_engine.proofs.Readying.{length-list}
use Rattle.batch_rules.specs.Trees.{Tree}
use Rattle.proc_lang.specs.declared.ends.End.{End}
use Rattle.proc_lang.specs.Catalogs.{run_of}
use Rattle.serving.specs.Drains.{no_calls}
use Rattle.serving.specs.Lives.{IsRunnable, MayServe, next_handed, next_state, plan_of, state_of}
use Rattle.serving.specs.declared.lives.Live.{Live}

-- no more wait than the list has
few-wait : (tree : Request → Tree Key Cells End) (start : Database) (list : List Request) (found : Answer) (next : State)
    → IsSerialAnswer tree start list found next → length next.waiting ≤ length list
few-wait tree start list found next h =
    let both = length-filter_both (λ (request : Request). not (is_named found.order request)) (λ (request : Request). is_named found.order request)
    (λ request. grind arith) list in
    rw (ap length h.rest) (omega (arith, both))

-- the bounds behind a batch
pub runnable : (before after : Live) (calls : List Call) (found : Answer) → MayServe before calls → state_of after ≡ next_state before calls
    → after.config ≡ before.config
    → IsSerialAnswer (run_of (plan_of before)) (state_of before).rows (list_of (state_of before) (next_handed before calls)) found (next_state before calls)
    → IsRunnable after
runnable before after calls found may state config serial =
    let few = few-wait (run_of (plan_of before)) (state_of before).rows (list_of (state_of before) (next_handed before calls)) found
    (next_state before calls) serial in
    let size = length-list (state_of before) (next_handed before calls) in
    record {
      few = subst (λ (s : State). length s.waiting ≤ MOST_REQUESTS) (sym state) (omega (arith, few, size, may.room));
      batches_within = subst (λ (s : State). s.batches ≤ GREATEST_NUMBER) (sym state) (omega (arith, may.batches));
      requests_within = subst (λ (s : State). s.requests ≤ GREATEST_NUMBER) (sym state) may.requests;
      percent = rw (ap (λ c. c.fallback) config) may.percent;
      workers = rw (ap (λ c. c.workers) config) may.workers;
    }

-- without new calls, where something waits, fewer do behind the batch
pub fewer : (tree : Request → Tree Key Cells End) (state : State) → 0 < length state.waiting
    → length (step tree state (no_calls state)).waiting < length state.waiting
fewer tree state some =
    let size = length-list state (no_calls state) in
    let on = progress tree state (no_calls state) (omega (arith, size, some)) in
    omega (arith, on.fewer, size)
