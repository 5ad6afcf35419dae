-- Which lists of events are legal: a definition over the batch's list, the sets of its requests and the set of the events so far.
--
-- O is whatever carries a request and what its run on the batch's start comes to, as in the definition of a batch. A TID is a place
-- in the batch's list, from 1; a place within a request's sets counts from 0.
use Rattle.std.specs.Prelude.{◌≡◌, ⊤, ℕ, ◌+◌, ◌-◌, ◌<◌, ◌≤◌, List, [], ◌∷◌, slice_get, Option, Some, true, Contains}
use Rattle.std.specs.declared.cmp.Ordering.{Ordering}
use Rattle.batch_rules.specs.declared.verdicts.Rule.{Rule}
use Rattle.batch_rules.specs.Verdicts.{finishes}
use Rattle.batch_rules.specs.Batches.{Carrier, Judged, judged, touching, written}
use Rattle.core_machine.specs.declared.events.Event.{Event}
use Rattle.core_machine.specs.declared.events.Event.TheVariants.{Execute, MarkRead, MarkWrite, Decide, Install, Turn}

-- how many phases have ended, and the events that have come
pub record SoFar : Type 0 where
  pub phase : ℕ
  pub came : List Event

abbrev pub at_first : SoFar
at_first = record { phase = 0; came = [] }

-- the phase that an event belongs to, by how many end before it. A turn belongs to none
abbrev pub phase_of : Event → ℕ
phase_of (Execute i) = 0
phase_of (MarkRead i p) = 1
phase_of (MarkWrite i p) = 1
phase_of (Decide i) = 2
phase_of (Install i p) = 3
phase_of Turn = 4

-- the request that it is of, and the place in one of that one's sets; 0 where there is none
abbrev pub tid_in : Event → ℕ
tid_in (Execute i) = i
tid_in (MarkRead i p) = i
tid_in (MarkWrite i p) = i
tid_in (Decide i) = i
tid_in (Install i p) = i
tid_in Turn = 0

abbrev pub place_in : Event → ℕ
place_in (Execute i) = 0
place_in (MarkRead i p) = p
place_in (MarkWrite i p) = p
place_in (Decide i) = 0
place_in (Install i p) = p
place_in Turn = 0

abbrev pub turned : ℕ → Event → ℕ
turned phase Turn = phase + 1
turned phase e = phase

-- one event more, and all of a list one after the other
abbrev pub along : SoFar → Event → SoFar
along so e = record { phase = turned so.phase e; came = e ∷ so.came }

abbrev pub all_along : SoFar → List Event → SoFar
all_along so [] = so
all_along so (e ∷ es) = all_along (along so e) es

-- four phases have ended, so nothing is due
abbrev pub IsSettled : SoFar → Type 0
IsSettled so = so.phase ≡ 4

module _ {K V A O : Type 0} (R : K → K → Ordering) (by : Carrier K V A O) (rule : Rule) (list : List O) where
  -- the request of a TID, with its verdict
  abbrev pub Stands : ℕ → Judged O → Type 0
  Stands i d = (1 ≤ i) × (slice_get (judged (touching by R) rule [] list) (i - 1) ≡ Some d)

  -- the events that a batch asks for, turns aside
  abbrev pub Asked : Event → Type 0
  Asked (Execute i) = (d : Judged O) × Stands i d
  Asked (MarkRead i p) = (d : Judged O) × Stands i d × ((k : K) × (slice_get (by.reads d.request) p ≡ Some k))
  Asked (MarkWrite i p) = (d : Judged O) × Stands i d × ((k : K) × (slice_get (written by d.request) p ≡ Some k))
  Asked (Decide i) = (d : Judged O) × Stands i d
  Asked (Install i p) = (d : Judged O) × Stands i d × (finishes d.verdict ≡ true)
      × ((w : K × Option V) × (slice_get (by.rows d.request) p ≡ Some w))
  Asked Turn = ⊥

  -- A turn is due where all that its phase asks for has come; another event where its phase asks for it and it has not come
  abbrev pub IsDue : SoFar → Event → Type 0
  IsDue so Turn = (so.phase < 4) × ((e : Event) → phase_of e ≡ so.phase → Asked e → Contains so.came e)
  IsDue so e = (phase_of e ≡ so.phase) × Asked e × ¬ Contains so.came e

  -- each event is due when it comes
  abbrev pub IsLegal : SoFar → List Event → Type 0
  IsLegal so [] = ⊤
  IsLegal so (e ∷ es) = IsDue so e × IsLegal (along so e) es
