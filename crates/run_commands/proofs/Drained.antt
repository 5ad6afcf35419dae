-- What the requests that wait come to, batch by batch.
use Rattle.std.proofs.Common.{◌≡◌, ap, sym, subst, refl, ◌∙◌, ℕ, zero, suc, ◌+◌, ◌-◌, ◌<◌, ◌≤◌, ◌==◌, nat_lt, Bool, true, false, cond, List, [], ◌++◌, length, Option, arith}
use Rattle.std.proofs.KnownBytes.{Appends-nil}
use Rattle.std.proofs.lemmas.Bool.{cond-true, cond-false}
use Rattle.aria_base.specs.declared.calls.Call.{Call}
use Rattle.answer_text.specs.Refusals.{refusal_text}
use Rattle.std.specs.Prelude.{Result, Ok, Err}
use Rattle.aria_base.specs.declared.limits.TheConstants.{GREATEST_NUMBER}
use Rattle.batch_core.specs.Steps.{State, Handed, step}
use Rattle.proc_lang.specs.Catalogs.{Plan, run_of}
use Rattle.script_course.proofs.Turns.{cut_longer, serves_behind}
use Rattle.script_course.specs.Courses.{Goes, Stops, Course, behind, printed}
use Rattle.script_course.specs.Served.{Leads, Serves, ServesCut}
use Rattle.script_course.specs.declared.stops.Stop.{Stop}
use Rattle.script_course.specs.declared.stops.Stop.TheVariants as stop
use Rattle.serving.specs.Drains.{drained, goes_on, no_calls, one_drained, state_result}
use Rattle.script_text.specs.declared.refusals.RefusalKind.TheVariants.{Numbers}
use Rattle.serving.specs.Lives.{IsLike, IsNext, batch_text, handed_at, next_handed, next_state, next_text, plan_of, state_of}
use Rattle.serving.proofs.Bounds.{fewer}
use Rattle.serving.proofs.Nexts.{handed_is}
use Rattle.serving.specs.declared.lives.Live.{Live}

pub stopped_on : (bytes : List ℕ) (old new : Option (List ℕ)) (result : Result Live Stop)
    → Serves {R = Live} (Stops bytes) old new result → Serves {R = State} (Stops bytes) old new (state_result result)
stopped_on bytes old new (Ok live) h = absurd h
stopped_on bytes old new (Err stop.Refused) h = h
stopped_on bytes old new (Err stop.NoMemory) h = h
stopped_on bytes old new (Err stop.NoWrite) h = h
stopped_on bytes old new (Err stop.NoDisk) h = h
stopped_on bytes old new (Err stop.NoRead) h = absurd h

-- ---- one batch, and then the others

module _ (plan : Plan) (each : Bool) (line m : ℕ) (state : State) where
  on_by : (b : Bool) (c : Course State) (next : State) (now mid : Option (List ℕ)) → b ≡ false → Serves c now mid (Ok next)
      → Leads (drained plan each line m next) mid (cond b (Goes [] state) (goes_on (drained plan each line m) c)) now
  on_by true c next now mid off h = absurd cc
  on_by false (Goes bytes s) next now mid off (e, first) = λ new result h.
      serves_behind bytes (drained plan each line m s) now mid new result first (subst (λ (q : State). Serves (drained plan each line m q) mid new result) e h)
  on_by false (Stops bytes) next now mid off h = absurd h

  pub drain_on : (next : State) (now mid : Option (List ℕ)) → (length state.waiting == 0) ≡ false → Serves (one_drained plan each line state) now mid (Ok next)
      → Leads (drained plan each line m next) mid (drained plan each line (suc m) state) now
  drain_on next now mid some h = on_by (length state.waiting == 0) (one_drained plan each line state) next now mid some h

  printed_on : (bytes : List ℕ) (c : Course State) → printed (behind bytes c) ≡ bytes ++ printed c
  printed_on bytes (Goes more s) = refl
  printed_on bytes (Stops more) = refl

  cut_by : (b : Bool) (c : Course State) (now new : Option (List ℕ)) (why : Stop) → b ≡ false → ServesCut c now new why
      → ServesCut (cond b (Goes [] state) (goes_on (drained plan each line m) c)) now new why
  cut_by true c now new why off h = absurd cc
  cut_by false (Goes bytes s) now new why off h =
      cut_longer (Goes bytes s) (behind bytes (drained plan each line m s)) (printed (drained plan each line m s)) now new why
      (printed_on bytes (drained plan each line m s)) (λ stopped. absurd stopped) h
  cut_by false (Stops bytes) now new why off h = h

  pub drain_cut : (now new : Option (List ℕ)) (why : Stop) → (length state.waiting == 0) ≡ false → ServesCut (one_drained plan each line state) now new why
      → ServesCut (drained plan each line (suc m) state) now new why
  drain_cut now new why some h = cut_by (length state.waiting == 0) (one_drained plan each line state) now new why some h

  none_by : (b : Bool) (c : Course State) (now : Option (List ℕ)) → b ≡ true → Serves (cond b (Goes [] state) c) now now (Ok state)
  none_by true c now on = (refl, Appends-nil now)
  none_by false c now on = absurd cc

-- where nothing waits, nothing is printed
pub quiet : (plan : Plan) (each : Bool) (line m : ℕ) (state : State) (now : Option (List ℕ)) → (length state.waiting == 0) ≡ true
    → Serves (drained plan each line m state) now now (Ok state)
quiet plan each line zero state now none = (refl, Appends-nil now)
quiet plan each line (suc m) state now none = none_by plan each line m state (length state.waiting == 0)
    (goes_on (drained plan each line m) (one_drained plan each line state)) now none

-- ---- the loop

pub fuel : (n i : ℕ) → i < n → n - i ≡ suc (n - (i + 1))
fuel n i h = omega (arith, h)

module _ (start live : Live) (line n i : ℕ) (like : IsLike start live) (within : i < n) (some : (length (state_of live).waiting == 0) ≡ false) where
  abbrev One : Plan → Bool → Course State
  One plan each = one_drained plan each line (state_of live)

  pub next_leads : (next : State) (now mid : Option (List ℕ)) → Serves (one_drained (plan_of live) live.each line (state_of live)) now mid (Ok next)
      → Leads (drained (plan_of start) start.each line (n - (i + 1)) next) mid (drained (plan_of start) start.each line (n - i) (state_of live)) now
  next_leads next now mid h =
      let here = subst (λ (plan : Plan). Serves (One plan live.each) now mid (Ok next)) like.plan h in
      let there = subst (λ (each : Bool). Serves (One (plan_of start) each) now mid (Ok next)) like.each here in
      subst (λ (k : ℕ). Leads (drained (plan_of start) start.each line (n - (i + 1)) next) mid (drained (plan_of start) start.each line k (state_of live)) now)
      (sym (fuel n i within))
      (drain_on (plan_of start) start.each line (n - (i + 1)) (state_of live) next now mid some there)

  pub next_cut : (now new : Option (List ℕ)) (why : Stop) → ServesCut (one_drained (plan_of live) live.each line (state_of live)) now new why
      → ServesCut (drained (plan_of start) start.each line (n - i) (state_of live)) now new why
  next_cut now new why h =
      let here = subst (λ (plan : Plan). ServesCut (One plan live.each) now new why) like.plan h in
      let there = subst (λ (each : Bool). ServesCut (One (plan_of start) each) now new why) like.each here in
      subst (λ (k : ℕ). ServesCut (drained (plan_of start) start.each line k (state_of live)) now new why) (sym (fuel n i within))
      (drain_cut (plan_of start) start.each line (n - (i + 1)) (state_of live) now new why some there)

pub like_on : (start live next : Live) → IsLike start live → IsLike live next → IsLike start next
like_on start live next a b = record {
  plan = b.plan ∙ a.plan;
  config = b.config ∙ a.config;
  each = b.each ∙ a.each;
  checkpoint = b.checkpoint ∙ a.checkpoint;
  count = b.count ∙ a.count;
  runnable = b.runnable;
}

-- ---- one batch

module _ (live : Live) (calls : List Call) (none : calls ≡ []) where
  pub handed_none : next_handed live calls ≡ no_calls (state_of live)
  handed_none = handed_is live calls ∙ ap (λ (l : List Call). handed_at (state_of live) l) none

  abbrev Refused : ℕ → Course State
  Refused line = Stops (refusal_text (record { line = line; kind = Numbers }))

  abbrev Batch : Handed → Course State
  Batch handed = Goes (batch_text (plan_of live) live.each (state_of live) handed) (step (run_of (plan_of live)) (state_of live) handed)

  -- what it comes to is the next batch, without calls
  pub one_is : (line : ℕ) → (state_of live).batches < GREATEST_NUMBER
      → one_drained (plan_of live) live.each line (state_of live) ≡ Goes (next_text live calls) (next_state live calls)
  one_is line below =
      let test : nat_lt (state_of live).batches GREATEST_NUMBER ≡ true = grind (arith, below) in
      cond-true (nat_lt (state_of live).batches GREATEST_NUMBER) (Batch (no_calls (state_of live))) (Refused line) test
      ∙ ap (λ (q : Handed). Batch q) (sym handed_none)

  pub fewer_next : (next : Live) → IsNext live calls next → 0 < length (state_of live).waiting → length (state_of next).waiting < length (state_of live).waiting
  fewer_next next is some =
      let same : step (run_of (plan_of live)) (state_of live) (no_calls (state_of live)) ≡ state_of next =
      ap (λ (q : Handed). step (run_of (plan_of live)) (state_of live) q) (sym handed_none) ∙ sym is.state in
      subst (λ (s : State). length s.waiting < length (state_of live).waiting) same (fewer (run_of (plan_of live)) (state_of live) some)

-- where the numbers of batches are used up
pub one_refused : (plan : Plan) (each : Bool) (line : ℕ) (state : State) → GREATEST_NUMBER ≤ state.batches
    → one_drained plan each line state ≡ Stops (refusal_text (record { line = line; kind = Numbers }))
one_refused plan each line state past =
    let test : nat_lt state.batches GREATEST_NUMBER ≡ false = grind (arith, past) in
    cond-false (nat_lt state.batches GREATEST_NUMBER) (Goes (batch_text plan each state (no_calls state)) (step (run_of plan) state (no_calls state)))
    (Stops (refusal_text (record { line = line; kind = Numbers }))) test
