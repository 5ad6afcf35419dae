-- What the requests that wait on nodes come to, batch by batch.
use Rattle.std.proofs.Common.{◌≡◌, ◌∙◌, sym, ap, subst, refl, ℕ, ◌+◌, ◌-◌, ◌<◌, ◌==◌, nat_lt, Bool, true, false, List, [], length, Option, arith}
use Rattle.std.proofs.KnownBytes.{Appends-nil}
use Rattle.std.proofs.lemmas.Bool.{cond-true, ne_eqb}
use Rattle.std.specs.Prelude.{Result, Ok, Err, IfOk}
use Rattle.answer_text.specs.Refusals.{refusal_text}
use Rattle.aria_base.specs.declared.calls.Call.{Call}
use Rattle.aria_base.specs.declared.limits.TheConstants.{GREATEST_NUMBER}
use Rattle.batch_core.specs.Steps.{State, step}
use Rattle.part_nodes.specs.declared.nodes.Nodes.{Nodes}
use Rattle.proc_lang.specs.Catalogs.{Plan, run_of}
use Rattle.script_course.specs.Courses.{Goes, Stops}
use Rattle.script_course.specs.Served.{Leads, Serves, ServesCut}
use Rattle.script_course.specs.declared.stops.Stop.{Stop}
use Rattle.script_course.specs.declared.stops.Stop.TheVariants as stop
use Rattle.script_text.specs.declared.refusals.RefusalKind.TheVariants.{Numbers}
use Rattle.serving.specs.Drains.{drained, drains, no_calls, one_drained}
use Rattle.serving.specs.Lives.{batch_text, handed_at}
use Rattle.run_commands.proofs.Drained.{drain_cut, drain_on, fuel, quiet}
use Rattle.nodes_command.specs.Bases.{state_now, state_result}
use Rattle.nodes_command.specs.Batches.{IsNext}

-- ---- a result by the state that goes on

pub stopped_state : (bytes : List ℕ) (old new : Option (List ℕ)) (result : Result Nodes Stop) → Serves {R = Nodes} (Stops bytes) old new result
    → Serves {R = State} (Stops bytes) old new (state_result result)
stopped_state bytes old new (Ok n) h = absurd h
stopped_state bytes old new (Err stop.Refused) h = h
stopped_state bytes old new (Err stop.NoMemory) h = h
stopped_state bytes old new (Err stop.NoWrite) h = h
stopped_state bytes old new (Err stop.NoDisk) h = h
stopped_state bytes old new (Err stop.NoRead) h = absurd h

pub given_state : (bytes : List ℕ) (next : Nodes) (old new : Option (List ℕ)) (result : Result Nodes Stop) → Serves (Goes bytes next) old new result
    → Serves (Goes bytes (state_now next)) old new (state_result result)
given_state bytes next old new (Ok n) h = (ap state_now h.0, h.1)
given_state bytes next old new (Err stop.Refused) h = h
given_state bytes next old new (Err stop.NoMemory) h = h
given_state bytes next old new (Err stop.NoWrite) h = h
given_state bytes next old new (Err stop.NoDisk) h = h
given_state bytes next old new (Err stop.NoRead) h = h

pub given_holds : (P : Nodes → Type 0) (bytes : List ℕ) (next : Nodes) (old new : Option (List ℕ)) (result : Result Nodes Stop) → P next
    → Serves (Goes bytes next) old new result → IfOk result P
given_holds P bytes next old new (Ok n) p h = subst P (sym h.0) p
given_holds P bytes next old new (Err why) p h = tt

-- ---- one batch

module _ (plan : Plan) (each : Bool) (line : ℕ) (n : Nodes) where
  abbrev Now : State
  Now = state_now n

  -- where the numbers of batches go on
  pub one_next : (calls : List Call) (o : Nodes) (bytes : List ℕ) → calls ≡ [] → n.world.catalog ≡ plan → Now.batches < GREATEST_NUMBER
      → IsNext n calls o → bytes ≡ batch_text plan each Now (handed_at Now calls)
      → one_drained plan each line Now ≡ Goes bytes (state_now o)
  one_next calls o bytes none under below next text =
      let test : nat_lt Now.batches GREATEST_NUMBER ≡ true = grind (arith, below) in
      let state : state_now o ≡ step (run_of plan) Now (no_calls Now) =
      next.state ∙ (λ i. step (run_of (under i)) Now (handed_at Now (none i))) in
      let printed : bytes ≡ batch_text plan each Now (no_calls Now) = text ∙ ap (λ l. batch_text plan each Now (handed_at Now l)) none in
      cond-true (nat_lt Now.batches GREATEST_NUMBER) (Goes (batch_text plan each Now (no_calls Now)) (step (run_of plan) Now (no_calls Now)))
      (Stops (refusal_text (record { line = line; kind = Numbers }))) test
      ∙ (λ i. Goes (sym printed i) (sym state i))

-- ---- the loop

module _ (plan : Plan) (each : Bool) (line : ℕ) (start : State) where
  pub leads_all : (k : ℕ) (now : Option (List ℕ)) → k ≡ length start.waiting → Leads (drained plan each line k start) now (drains plan each line start) now
  leads_all k now e = λ new result h. subst (λ n. Serves (drained plan each line n start) now new result) e h

  -- nothing waits any more
  pub ends_quiet : (k : ℕ) (state : State) (old now : Option (List ℕ)) → length state.waiting ≡ 0
      → Leads (drained plan each line k state) now (drains plan each line start) old → Serves (drains plan each line start) old now (Ok state)
  ends_quiet k state old now none leads =
      let test : (length state.waiting == 0) ≡ true = grind (arith, none) in
      leads now (Ok state) (quiet plan each line k state now test)

  -- as many batches were run as requests waited
  pub ends_last : (k : ℕ) (state : State) (old now : Option (List ℕ)) → k ≡ 0
      → Leads (drained plan each line k state) now (drains plan each line start) old → Serves (drains plan each line start) old now (Ok state)
  ends_last k state old now last leads =
      leads now (Ok state) (subst (λ m. Serves (drained plan each line m state) now now (Ok state)) (sym last) (refl, Appends-nil now))

  module _ (n i : ℕ) (state : State) (old now : Option (List ℕ)) (within : i < n) (some : length state.waiting ≡ 0 → ⊥)
      (leads : Leads (drained plan each line (n - i) state) now (drains plan each line start) old) where
    waits : (length state.waiting == 0) ≡ false
    waits = ne_eqb (length state.waiting) 0 some

    pub leads_next : (next : State) (mid : Option (List ℕ)) → Serves (one_drained plan each line state) now mid (Ok next)
        → Leads (drained plan each line (n - (i + 1)) next) mid (drains plan each line start) old
    leads_next next mid h = λ new result rest.
        leads new result (subst (λ k. Serves (drained plan each line k state) now new result) (sym (fuel n i within))
        (drain_on plan each line (n - (i + 1)) state next now mid waits h new result rest))

    pub cut_next : (new : Option (List ℕ)) (why : Stop) → ServesCut (one_drained plan each line state) now new why
        → Serves (drains plan each line start) old new (Err why)
    cut_next new why h =
        leads new (Err why) (subst (λ k. ServesCut (drained plan each line k state) now new why) (sym (fuel n i within))
        (drain_cut plan each line (n - (i + 1)) state now new why waits h))
