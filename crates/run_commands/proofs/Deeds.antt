-- What a line asks for leaves a script that stands.
use Rattle.std.proofs.Common.{◌≡◌, ◌∙◌, sym, ap, subst, refl, ℕ, ◌+◌, ◌<◌, ◌≤◌, Bool, true, List, [], ◌∷◌, ◌++◌, length, arith}
use Rattle.std.specs.List.{All}
use Rattle.std.specs.FinMap as fin
use Rattle.std.proofs.lemmas.List.Elements.{All-nil, All-append, All-cons}
use Rattle.aria_base.proofs.Fitting.{fit_with}
use Rattle.aria_base.specs.Orders.{Cells}
use Rattle.aria_base.specs.Schemas.{Fits}
use Rattle.aria_base.specs.declared.calls.Call.{Call}
use Rattle.aria_base.specs.declared.keys.Key.{Key}
use Rattle.aria_base.specs.declared.limits.TheConstants.{GREATEST_NUMBER, MOST_PERCENT, MOST_REPLICAS, MOST_REQUESTS}
use Rattle.batch_core.specs.Steps.{State, Handed, step}
use Rattle.batch_engine.specs.Engines.{Between}
use Rattle.batch_rules.specs.declared.verdicts.Rule.{Rule}
use Rattle.dep_rules.specs.declared.configs.Config.{Config}
use Rattle.proc_lang.specs.Catalogs.{Plan, takes, run_of}
use Rattle.script_places.specs.Follows.{IsReadyWith}
use Rattle.script_places.specs.Places.{plan_in, start_with}
use Rattle.script_places.specs.declared.places.Mode.TheVariants as mode
use Rattle.script_places.specs.declared.heads.ScriptCatalog.{ScriptCatalog}
use Rattle.script_places.specs.declared.heads.ScriptCatalog.TheVariants as head
use Rattle.script_places.specs.declared.places.ScriptPlace.{ScriptPlace}
use Rattle.serving.specs.Lives.{IsNext, IsRunnable, MayServe, batch_text, first_state, handed_at, next_handed, next_state, next_text, plan_of, state_of}
use Rattle.serving.specs.declared.lives.Live.{Live}
use Rattle.store_openings.specs.Runs.{settings_with}
use Rattle.run_commands.specs.Bases.{IsBegun, IsBounded, IsHead, IsListed, IsUnder, put_in, set_in, state_in}
use Rattle.run_commands.specs.Onces.{behind_batch, text_of}
use Rattle.run_commands.specs.Standing.{HasEnded, IsOf, MayClose, MayPut, MayRun, Stands, doing_of}
use Rattle.run_commands.specs.declared.bases.Base.{Base}
use Rattle.run_commands.specs.declared.bases.Base.TheVariants as base
use Rattle.run_commands.specs.declared.works.Work.{Work}
use Rattle.serving.proofs.Nexts.{handed_is}

-- ---- a row

pub put_state : (b : Base) (key : Key) (row : Cells) → IsHead b
    → state_in (put_in b key row) ≡ record (state_in b) { rows = fin.insert (state_in b).rows key row }
put_state (base.Rows tables config) key row h = refl
put_state (base.Runs live) key row h = absurd h

put_of : (h : ScriptCatalog) (calls : List Call) (b : Base) (key : Key) (row : Cells) → IsHead b → IsReadyWith h (λ plan. Fits plan.tables key row)
    → IsOf h calls b
    → IsOf h calls (put_in b key row)
put_of head.Unnamed calls b key row before fits of = absurd fits
put_of (head.Text text) calls b key row before fits of = absurd fits
put_of (head.Ready plan) calls (base.Rows tables config) key row before fits of =
    (of.0, fit_with plan.tables tables (fin.insert tables key row) key row of.1 fits refl)
put_of (head.Ready plan) calls (base.Runs live) key row before fits of = absurd before

put_ended : (rows : Bool) (b : Base) (key : Key) (row : Cells) → HasEnded rows b → HasEnded rows (put_in b key row)
put_ended rows (base.Rows tables config) key row h = tt
put_ended rows (base.Runs live) key row h = h

put_bounded : (b : Base) (key : Key) (row : Cells) → IsBounded b → IsBounded (put_in b key row)
put_bounded (base.Rows tables config) key row h = h
put_bounded (base.Runs live) key row h = h

put_listed : (each : Bool) (b : Base) (key : Key) (row : Cells) → IsListed each b → IsListed each (put_in b key row)
put_listed each (base.Rows tables config) key row h = tt
put_listed each (base.Runs live) key row h = h

pub put_stands : (place : ScriptPlace) (work next : Work) (key : Key) (row : Cells) → MayPut place work key row
    → next.calls.items ≡ work.calls.items → next.base ≡ put_in work.base key row → next.replicas ≡ work.replicas → next.each ≡ work.each → Stands place next
put_stands place work next key row may calls b replicas each =
    let h = may.stands.holds in
    record {
      holds = record {
        mode_kept = h.mode_kept;
        of_head = subst (λ (l : List Call). IsOf place.head l next.base) (sym calls) (subst (λ (x : Base). IsOf place.head work.calls.items x) (sym b)
            (put_of place.head work.calls.items work.base key row may.before_all may.fits h.of_head));
        ended = subst (λ (x : Base). HasEnded place.rows_ended x) (sym b) (put_ended place.rows_ended work.base key row h.ended);
        bounded = subst IsBounded (sym b) (put_bounded work.base key row h.bounded);
        listed = rw each (subst (λ (x : Base). IsListed work.each x) (sym b) (put_listed work.each work.base key row h.listed));
        engines = subst (λ (n : ℕ). (1 ≤ n) × (n ≤ MOST_REPLICAS)) (sym replicas) h.engines;
      };
      counted = may.stands.counted ∙ ap length (sym calls);
      few = rw calls may.stands.few;
    }

-- ---- a call

call_of : (h : ScriptCatalog) (calls : List Call) (call : Call) (b : Base) → IsReadyWith h (λ plan. takes plan call ≡ true) → IsOf h calls b
    → IsOf h (calls ++ call ∷ []) b
call_of head.Unnamed calls call b fits of = absurd fits
call_of (head.Text text) calls call b fits of = absurd fits
call_of (head.Ready plan) calls call b fits of =
    let P : Call → Type 0 = λ c. takes plan c ≡ true in
    (All-append P calls (call ∷ []) of.0 (All-cons P call [] fits (All-nil P)), of.1)

-- ---- settings

set_first : (config : Config) (rule : Rule) (percent : ℕ) (engines : List Between)
    → first_state (settings_with config rule percent) engines ≡ record (first_state config engines) { rule = rule; percent = percent }
set_first config rule percent [] = refl
set_first config rule percent (engine ∷ rest) = refl

set_of : (h : ScriptCatalog) (calls : List Call) (b : Base) (rule : Rule) (percent : ℕ) → IsOf h calls b → IsOf h calls (set_in b rule percent)
set_of head.Unnamed calls (base.Rows tables config) rule percent of = of
set_of head.Unnamed calls (base.Runs live) rule percent of = of
set_of (head.Text text) calls (base.Rows tables config) rule percent of = of
set_of (head.Text text) calls (base.Runs live) rule percent of = of
set_of (head.Ready plan) calls (base.Rows tables config) rule percent of = of
set_of (head.Ready plan) calls (base.Runs live) rule percent of = of

set_ended : (rows : Bool) (b : Base) (rule : Rule) (percent : ℕ) → HasEnded rows b → HasEnded rows (set_in b rule percent)
set_ended rows (base.Rows tables config) rule percent h = tt
set_ended rows (base.Runs live) rule percent h = h

set_bounded : (b : Base) (rule : Rule) (percent : ℕ) → percent ≤ MOST_PERCENT → IsBounded b → IsBounded (set_in b rule percent)
set_bounded (base.Rows tables config) rule percent within h = record { percent = within; workers = h.workers }
set_bounded (base.Runs live) rule percent within h =
    let same = set_first live.config rule percent live.replicas in
    record {
      few = subst (λ (s : State). length s.waiting ≤ MOST_REQUESTS) (sym same) h.few;
      batches_within = subst (λ (s : State). s.batches ≤ GREATEST_NUMBER) (sym same) h.batches_within;
      requests_within = subst (λ (s : State). s.requests ≤ GREATEST_NUMBER) (sym same) h.requests_within;
      percent = within;
      workers = h.workers;
    }

set_listed : (each : Bool) (b : Base) (rule : Rule) (percent : ℕ) → IsListed each b → IsListed each (set_in b rule percent)
set_listed each (base.Rows tables config) rule percent h = tt
set_listed each (base.Runs live) rule percent h = h

-- ---- the end of a batch

no_calls_of : (h : ScriptCatalog) (calls : List Call) (b : Base) → IsOf h calls b → IsOf h [] b
no_calls_of head.Unnamed calls b of = (refl, of.1)
no_calls_of (head.Text text) calls b of = (refl, of.1)
no_calls_of (head.Ready plan) calls b of = (All-nil (λ (call : Call). takes plan call ≡ true), of.1)

pub close_stands : (place : ScriptPlace) (work next : Work) → MayClose place work → next.calls.items ≡ [] → next.base ≡ work.base
    → next.replicas ≡ work.replicas
    → next.each ≡ work.each
    → Stands place next
close_stands place work next may none b replicas each =
    let h = may.holds in
    record {
      holds = record {
        mode_kept = h.mode_kept;
        of_head = subst (λ (l : List Call). IsOf place.head l next.base) (sym none)
            (subst (λ (x : Base). IsOf place.head [] x) (sym b) (no_calls_of place.head work.calls.items work.base h.of_head));
        ended = subst (λ (x : Base). HasEnded place.rows_ended x) (sym b) h.ended;
        bounded = subst IsBounded (sym b) h.bounded;
        listed = rw each (subst (λ (x : Base). IsListed work.each x) (sym b) h.listed);
        engines = subst (λ (n : ℕ). (1 ≤ n) × (n ≤ MOST_REPLICAS)) (sym replicas) h.engines;
      };
      counted = may.counted ∙ ap length (sym none);
      few = rw none (omega arith);
    }

-- ---- a batch that is run

pub under_head : (h : ScriptCatalog) (calls : List Call) (b : Base) → IsReadyWith h (λ plan. Unit {0}) → IsOf h calls b → IsReadyWith h (λ plan. IsUnder plan b)
under_head head.Unnamed calls b ready of = absurd ready
under_head (head.Text text) calls b ready of = absurd ready
under_head (head.Ready plan) calls b ready of = of.1

fit_head : (h : ScriptCatalog) (calls : List Call) (b : Base) → IsReadyWith h (λ plan. Unit {0}) → IsOf h calls b
    → All (λ call. takes (plan_in h) call ≡ true) calls
fit_head head.Unnamed calls b ready of = absurd ready
fit_head (head.Text text) calls b ready of = absurd ready
fit_head (head.Ready plan) calls b ready of = of.0

pub may_serve : (place : ScriptPlace) (work : Work) (live : Live) → MayRun place work → IsBegun place.head work.base work.each live
    → MayServe live work.calls.items
may_serve place work live may begun = record {
  fit = subst (λ (plan : Plan). All (λ call. takes plan call ≡ true) work.calls.items) (sym begun.plan)
      (fit_head place.head work.calls.items work.base may.ready may.holds.of_head);
  room = subst (λ (s : State). length s.waiting + length work.calls.items ≤ MOST_REQUESTS) (sym begun.state) may.room;
  batches = subst (λ (s : State). s.batches < GREATEST_NUMBER) (sym begun.state) may.batches;
  requests = subst (λ (s : State). s.requests + length work.calls.items ≤ GREATEST_NUMBER) (sym begun.state) may.requests;
  percent = begun.runnable.percent;
  workers = begun.runnable.workers;
}

ran_of : (h : ScriptCatalog) (live : Live) → IsReadyWith h (λ plan. Unit {0}) → plan_of live ≡ plan_in h → IsOf h [] (base.Runs live)
ran_of head.Unnamed live ready e = absurd ready
ran_of (head.Text text) live ready e = absurd ready
ran_of (head.Ready plan) live ready e = (All-nil (λ (call : Call). takes plan call ≡ true), e)

pub run_stands : (place : ScriptPlace) (work next : Work) (before after : Live) → MayRun place work → IsBegun place.head work.base work.each before
    → IsNext before work.calls.items after
    → next.calls.items ≡ [] → next.base ≡ base.Runs after → next.replicas ≡ work.replicas → next.each ≡ work.each → Stands place next
run_stands place work next before after may begun is none b replicas each =
    record {
      holds = record {
        mode_kept = may.holds.mode_kept;
        of_head = subst (λ (l : List Call). IsOf place.head l next.base) (sym none)
            (subst (λ (x : Base). IsOf place.head [] x) (sym b) (ran_of place.head after may.ready (is.plan ∙ begun.plan)));
        ended = subst (λ (x : Base). HasEnded place.rows_ended x) (sym b) may.rows;
        bounded = subst IsBounded (sym b) is.runnable;
        listed = rw each (subst (λ (x : Base). IsListed work.each x) (sym b) (is.each ∙ begun.listed));
        engines = subst (λ (n : ℕ). (1 ≤ n) × (n ≤ MOST_REPLICAS)) (sym replicas) may.holds.engines;
      };
      counted = may.counted ∙ ap length (sym none);
      few = rw none (omega arith);
    }

-- so the batch is that of the script's state
module _ (place : ScriptPlace) (work : Work) (before : Live) (begun : IsBegun place.head work.base work.each before) where
  abbrev calls : List Call
  calls = work.calls.items

  abbrev state : State
  state = state_in work.base

  same_handed : next_handed before calls ≡ handed_at state calls
  same_handed = handed_is before calls ∙ ap (λ (s : State). handed_at s calls) begun.state

  pub text_is : next_text before calls ≡ text_of (doing_of place work)
  text_is =
      ap (λ (plan : Plan). batch_text plan before.each (state_of before) (next_handed before calls)) begun.plan
      ∙ ap (λ (each : Bool). batch_text (plan_in place.head) each (state_of before) (next_handed before calls)) begun.listed
      ∙ ap (λ (s : State). batch_text (plan_in place.head) work.each s (next_handed before calls)) begun.state
      ∙ ap (λ (h : Handed). batch_text (plan_in place.head) work.each state h) same_handed

  pub state_is : next_state before calls ≡ step (run_of (plan_in place.head)) state (handed_at state calls)
  state_is =
      ap (λ (plan : Plan). step (run_of plan) (state_of before) (next_handed before calls)) begun.plan
      ∙ ap (λ (s : State). step (run_of (plan_in place.head)) s (next_handed before calls)) begun.state
      ∙ ap (λ (h : Handed). step (run_of (plan_in place.head)) state h) same_handed

  pub behind_is : (next : Work) (after : Live) → IsNext before calls after → next.calls.items ≡ [] → next.base ≡ base.Runs after → next.each ≡ work.each
      → doing_of place next ≡ behind_batch (doing_of place work)
  behind_is next after is none b each =
      let state_after : state_in next.base ≡ step (run_of (plan_in place.head)) state (handed_at state calls) = ap state_in b ∙ is.state ∙ state_is in
      λ i. record { place = place; calls = none i; state = state_after i; each = each i }

-- ---- over a database that runs

pub resume_stands : (plan : Plan) (work : Work) (live : Live) → plan ≡ plan_of live → work.calls.items ≡ [] → work.base ≡ base.Runs live
    → work.each ≡ live.each → IsRunnable live
    → (1 ≤ work.replicas) × (work.replicas ≤ MOST_REPLICAS) → Stands (start_with mode.Run plan) work
resume_stands plan work live of none b each runnable engines =
    let place = start_with mode.Run plan in
    record {
      holds = record {
        mode_kept = refl;
        of_head = subst (λ (l : List Call). IsOf place.head l work.base) (sym none)
            (subst (λ (x : Base). IsOf place.head [] x) (sym b) (All-nil (λ (call : Call). takes plan call ≡ true), sym of));
        ended = subst (λ (x : Base). HasEnded place.rows_ended x) (sym b) refl;
        bounded = subst IsBounded (sym b) runnable;
        listed = subst (λ (x : Base). IsListed work.each x) (sym b) (sym each);
        engines = engines;
      };
      counted = ap length (sym none);
      few = rw none (omega arith);
    }
