-- What is asked for is of a request of the list.
use Rattle.std.proofs.Common.{◌≡◌, ℕ, ◌+◌, ◌-◌, ◌<◌, ◌≤◌, length, Bool, true, false, Some, None, Option, refl, sym, ap, ◌∙◌, arith}
use Rattle.std.specs.Prelude.{slice_get, is_some, ◌&&◌, ◌==◌, not}
use Rattle.std.proofs.lemmas.Bool.{false≢true}
use Rattle.proc_exec.specs.declared.outcomes.Outcome.{Outcome}
use Rattle.core_machine.specs.declared.events.Event.{Event}
use Rattle.core_machine.specs.declared.events.Event.TheVariants.{Execute, MarkRead, MarkWrite, Decide, Install, Turn}
use Rattle.core_machine.specs.declared.cores.Core.{Core}
use Rattle.core_machine.specs.Events.{phase_of, tid_in}
use Rattle.core_machine.specs.Machines.{and_then}
use Rattle.core_machine.specs.Found.{at_tid, outcome_of, write_at, finishes_by}
use Rattle.core_machine.specs.declared.phases.Phase.{Phase}
use Rattle.core_machine.specs.declared.phases.Phase.TheVariants as phase
use Rattle.core_machine.specs.Phases.{ended}
use Rattle.core_machine.specs.Cores.{has_come, asks, is_open, IsTid, CanTake, AllCame, AllCameOf}
use Rattle.core_machine.proofs.Taking.{at_below, is_some-is, both_true}

module _ (c : Core) where
  -- the TID of an event that is asked for
  outcome_tid : (i : ℕ) → is_some (outcome_of c.outcomes.items i) ≡ true → IsTid c i
  outcome_tid i said = found (at_tid c.outcomes.items i) refl said
    where
      found : (r : Option (Option Outcome)) → at_tid c.outcomes.items i ≡ r → is_some (and_then r (λ o. o)) ≡ true → IsTid c i
      found None is e = absurd (false≢true e)
      found (Some one) is e = let below = at_below c.outcomes.items i one is in let same = c.ran in (below.0, omega (arith, below.1, same))

  then_some : {Y : Type 0} (r : Option Outcome) (f : Outcome → Option Y) → is_some (and_then r f) ≡ true → is_some r ≡ true
  then_some None f e = e
  then_some (Some o) f e = refl

  list_tid : (i : ℕ) → is_some (at_tid c.list.items i) ≡ true → IsTid c i
  list_tid i said = let some = is_some-is (at_tid c.list.items i) said in at_below c.list.items i some.0 some.1

  asked_tid : (e : Event) → asks c e ≡ true → IsTid c (tid_in e)
  asked_tid (Execute i) said = list_tid i said
  asked_tid (MarkRead i p) said = outcome_tid i (then_some (outcome_of c.outcomes.items i) (λ o. slice_get o.reads p) said)
  asked_tid (MarkWrite i p) said = outcome_tid i (then_some (outcome_of c.outcomes.items i) (λ o. slice_get o.writes p) said)
  asked_tid (Decide i) said = list_tid i said
  asked_tid (Install i p) said =
      outcome_tid i (then_some (outcome_of c.outcomes.items i) (λ o. slice_get o.writes p)
      (both_true (finishes_by (at_tid c.verdicts.items i)) (is_some (write_at c.outcomes.items i p)) said).1)
  asked_tid Turn said = absurd (false≢true said)

  pub all_of_each : ((p : ℕ) → p < length c.list.items → AllCameOf c (p + 1)) → AllCame c
  all_of_each each e at said = let tid = asked_tid e said in let low = tid.0 in let high = tid.1 in let one : tid_in e ≡ tid_in e - 1 + 1 = omega arith in
      each (tid_in e - 1) (omega arith) e one at said

  asked_can : (e : Event) → asks c e ≡ true → CanTake c e
  asked_can (Execute i) said = list_tid i said
  asked_can (Decide i) said = list_tid i said
  asked_can (MarkRead i p) said = tt
  asked_can (MarkWrite i p) said = tt
  asked_can (Install i p) said = tt
  asked_can Turn said = tt

  pub can_take : (e : Event) → is_open c e ≡ true → CanTake c e
  can_take e said = asked_can e (both_true (asks c e) (not (has_come c e)) (both_true (ended c.phase == phase_of e) (asks c e && not (has_come c e)) said).1).0

pub early : (p : Phase) → ¬ (p ≡ phase.Settled) → ended p < 4
early phase.Executing off = omega arith
early phase.Marking off = omega arith
early phase.Deciding off = omega arith
early phase.Installing off = omega arith
early phase.Settled off = absurd (off refl)
