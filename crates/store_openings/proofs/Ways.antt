-- Batches, run one after the other: where one stands between two of them.
use Rattle.std.proofs.Common.{◌≡◌, sym, ◌∙◌, ap, subst, refl, ℕ, ◌+◌, ◌≤◌, Bool, true, false, cond, List, [], ◌∷◌, map, Some, arith}
use Rattle.aria_base.specs.declared.limits.TheConstants.{GREATEST_NUMBER}
use Rattle.batch_core.specs.Steps.{State, run, step}
use Rattle.image_text.specs.Payloads.{Batch}
use Rattle.proc_lang.specs.Catalogs.{Plan, run_of}
use Rattle.serving.specs.Lives.{IsRunnable, plan_of, state_of}
use Rattle.serving.specs.Stored.{crowded_from, handed_in, is_crowded}
use Rattle.serving.specs.declared.lives.Live.{Live}
use Rattle.store_openings.specs.Openings.{AreRunnable, MayFollow}
use Rattle.store_openings.specs.Runs.{IsRerun, IsRunAs, IsStepped}

-- from the start on so many of all these batches were run, and had room, and these are left
pub record IsOnWay (start : Live) (all : List Batch) (live : Live) (place : ℕ) (rest : List Batch) : Type 0 where
  pub plan : plan_of live ≡ plan_of start
  pub runs : run (run_of (plan_of start)) (state_of start) (map handed_in all) ≡ run (run_of (plan_of start)) (state_of live) (map handed_in rest)
  pub crowds : crowded_from (plan_of start) 0 (state_of start) all ≡ crowded_from (plan_of start) place (state_of live) rest
  pub fit : AreRunnable (plan_of start) (state_of live).batches (state_of live).requests rest
  pub counted : (state_of live).batches ≡ (state_of start).batches + place
  pub alike : IsRunAs start live
  pub runnable : IsRunnable live

pub begun : (start : Live) (all : List Batch) → IsRunnable start → AreRunnable (plan_of start) (state_of start).batches (state_of start).requests all
    → IsOnWay start all start 0 all
begun start all runs fit = record {
  plan = refl;
  runs = refl;
  crowds = refl;
  fit = fit;
  counted = omega arith;
  alike = record { store = refl; each = refl; checkpoint = refl; count = refl; workers = refl };
  runnable = runs;
}

alike_then : (a b c : Live) → IsRunAs a b → IsRunAs b c → IsRunAs a c
alike_then a b c first second = record {
  store = second.store ∙ first.store;
  each = second.each ∙ first.each;
  checkpoint = second.checkpoint ∙ first.checkpoint;
  count = second.count ∙ first.count;
  workers = second.workers ∙ first.workers;
}

pub chosen : {X : Type 0} (b : Bool) (x y : X) → b ≡ true → cond b x y ≡ x
chosen true x y on = refl
chosen false x y on = absurd cc

pub other : {X : Type 0} (b : Bool) (x y : X) → b ≡ false → cond b x y ≡ y
other true x y off = absurd cc
other false x y off = refl

-- whatever else is told of the way: the next batch may be run, and there is still a number for it
pub may_follow_here : (plan : Plan) (live : Live) (batch : Batch) (rest : List Batch) → plan_of live ≡ plan
    → AreRunnable plan (state_of live).batches (state_of live).requests (batch ∷ rest)
    → MayFollow (plan_of live) (state_of live).batches (state_of live).requests batch
may_follow_here plan live batch rest same fit = subst (λ (p : Plan). MayFollow p (state_of live).batches (state_of live).requests batch) (sym same) fit.0

pub below_here : (plan : Plan) (first place batches requests : ℕ) (batch : Batch) (rest : List Batch) → batches ≡ first + place
    → AreRunnable plan batches requests (batch ∷ rest) → place + 1 ≤ GREATEST_NUMBER
below_here plan first place batches requests batch rest counted fit = omega (arith, counted, fit.0.within.batches)

module _ (start : Live) (all : List Batch) (live : Live) (place : ℕ) (batch : Batch) (rest : List Batch)
    (on : IsOnWay start all live place (batch ∷ rest)) where
  abbrev After : State
  After = step (run_of (plan_of start)) (state_of live) (handed_in batch)

  pub may_follow : MayFollow (plan_of live) (state_of live).batches (state_of live).requests batch
  may_follow = may_follow_here (plan_of start) live batch rest on.plan on.fit

  pub below : place + 1 ≤ GREATEST_NUMBER
  below = below_here (plan_of start) (state_of start).batches place (state_of live).batches (state_of live).requests batch rest on.counted on.fit

  pub crowd_here : is_crowded (state_of live) batch ≡ true → crowded_from (plan_of start) 0 (state_of start) all ≡ Some place
  crowd_here here = on.crowds ∙ chosen (is_crowded (state_of live) batch) (Some place) (crowded_from (plan_of start) (place + 1) After rest) here

  pub on_next : is_crowded (state_of live) batch ≡ false → (next : Live) → IsStepped live batch next → IsOnWay start all next (place + 1) rest
  on_next roomy next s =
      let state : state_of next ≡ After = s.state ∙ ap (λ (plan : Plan). step (run_of plan) (state_of live) (handed_in batch)) on.plan in
      let count : (state_of next).batches ≡ (state_of live).batches + 1 = ap (λ (q : State). q.batches) state in
      record {
        plan = s.plan ∙ on.plan;
        runs = on.runs ∙ sym (ap (λ (q : State). run (run_of (plan_of start)) q (map handed_in rest)) state);
        crowds = on.crowds ∙ other (is_crowded (state_of live) batch) (Some place) (crowded_from (plan_of start) (place + 1) After rest) roomy
            ∙ sym (ap (λ (q : State). crowded_from (plan_of start) (place + 1) q rest) state);
        fit = subst (λ (q : State). AreRunnable (plan_of start) q.batches q.requests rest) (sym state) on.fit.1;
        counted = omega (arith, count, on.counted);
        alike = alike_then start live next on.alike s.alike;
        runnable = s.runnable;
      }

pub done : (start : Live) (all : List Batch) (live : Live) (place : ℕ) → IsOnWay start all live place [] → IsRerun start all live
done start all live place on = record {
  roomy = on.crowds;
  plan = on.plan;
  state = sym on.runs;
  alike = on.alike;
  runnable = on.runnable;
}
