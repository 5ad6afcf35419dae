-- What the machine holds, what an event does to it, and what it is when it has settled.
use Rattle.std.specs.Prelude.{◌≡◌, ℕ, ◌+◌, ◌-◌, ◌*◌, ◌<◌, ◌≤◌, ◌==◌, min, List, [], ◌∷◌, length, slice_get, Option, Some, None}
use Rattle.std.specs.Prelude.{Bool, true, false, if◌then◌else◌}
use Rattle.std.specs.declared.cmp.Ordering.{Ordering}
use Rattle.std.specs.Ordering.{eq_by_cmp}
use Rattle.std.specs.Option.{option_map}
use Rattle.std.specs.FinMap.{FinMap}
use Rattle.aria_base.specs.Reserved.{number_under, tid_under}
use Rattle.aria_base.specs.declared.limits.TheConstants.{MOST_REQUESTS, TAG_SPAN}
use Rattle.batch_rules.specs.declared.verdicts.Rule.{Rule}
use Rattle.batch_rules.specs.declared.verdicts.Verdict.{Verdict}
use Rattle.batch_rules.specs.Trees.{Tree, set_at}
use Rattle.batch_rules.specs.Verdicts.{verdict_by}
use Rattle.batch_rules.specs.Batches.{Carrier, Judged, judged, touching, written, after_commit, on_start}
use Rattle.dep_rules.specs.Words.{earlier_only, lesser}
use Rattle.core_machine.specs.declared.events.Event.{Event}
use Rattle.core_machine.specs.declared.events.Event.TheVariants.{Execute, MarkRead, MarkWrite, Decide, Install, Turn}
use Rattle.core_machine.specs.Events.{at_first, all_along, IsSettled, IsLegal, Stands}

-- Outcomes and verdicts by TID; the two reservation words of each key, that of the requests that write it and that of those that read
-- it; and the database.
pub record Held {K : Type 0} (R : K → K → Ordering) (V O : Type 0) : Type 0 where
  pub outcomes : ℕ → Option O
  pub writers : K → ℕ
  pub readers : K → ℕ
  pub verdicts : ℕ → Option Verdict
  pub map : FinMap R V

abbrev pub put : {X : Type 0} → (ℕ → Option X) → ℕ → Option X → ℕ → Option X
put f i x j = if j == i then x else f j

abbrev pub and_then : {X Y : Type 0} → Option X → (X → Option Y) → Option Y
and_then None f = None
and_then (Some x) f = f x

abbrev pub installed : {K V : Type 0} {R : K → K → Ordering} → FinMap R V → Option (K × Option V) → FinMap R V
installed db None = db
installed db (Some w) = set_at db w.0 w.1

-- the words after the number was marked at the key: the lesser of the two stands there
abbrev pub marked : {K : Type 0} → (K → K → Ordering) → (K → ℕ) → Option K → ℕ → K → ℕ
marked R words None n q = words q
marked R words (Some k) n q = if eq_by_cmp R q k then min (words q) n else words q

-- the least TID below `tid` that the words of these keys stand for under the tag, and this one
abbrev pub least_told : {K : Type 0} → ℕ → (K → ℕ) → ℕ → Option ℕ → List K → Option ℕ
least_told tag words tid best [] = best
least_told tag words tid best (k ∷ ks) = least_told tag words tid (lesser best (earlier_only tid (tid_under tag (words k)))) ks

module _ {K V A O : Type 0} (by : Carrier K V A O) (rule : Rule) (tag : ℕ) where
  -- the verdict of the request with this TID as the words tell it
  abbrev pub decide : (writers readers : K → ℕ) → ℕ → O → Verdict
  decide writers readers tid o =
      let waw : Option ℕ = least_told tag writers tid None (written by o) in
      let raw : Option ℕ = least_told tag writers tid None (by.reads o) in
      let war : Option ℕ = least_told tag readers tid None (written by o) in
      verdict_by rule waw raw war

  module _ {R : K → K → Ordering} (start : FinMap R V) (list : List O) (first : Bool → K → ℕ) where
    -- at the beginning the words of each key, for those that write it and for those that read it, are the first ones
    abbrev pub begun : Held R V O
    begun = record { outcomes = λ i. None; writers = first true; readers = first false; verdicts = λ i. None; map = start }

    -- what one event does. Where it finds nothing to work on it changes nothing
    abbrev pub step : Held R V O → Event → Held R V O
    step h (Execute i) = record {
      outcomes = put h.outcomes i (slice_get list (i - 1));
      writers = h.writers;
      readers = h.readers;
      verdicts = h.verdicts;
      map = h.map;
    }
    step h (MarkRead i p) = record {
      outcomes = h.outcomes;
      writers = h.writers;
      readers = marked R h.readers (and_then (h.outcomes i) (λ o. slice_get (by.reads o) p)) (number_under tag i);
      verdicts = h.verdicts;
      map = h.map;
    }
    step h (MarkWrite i p) = record {
      outcomes = h.outcomes;
      writers = marked R h.writers (and_then (h.outcomes i) (λ o. slice_get (written by o) p)) (number_under tag i);
      readers = h.readers;
      verdicts = h.verdicts;
      map = h.map;
    }
    step h (Decide i) = record {
      outcomes = h.outcomes;
      writers = h.writers;
      readers = h.readers;
      verdicts = put h.verdicts i (option_map (decide h.writers h.readers i) (h.outcomes i));
      map = h.map;
    }
    step h (Install i p) = record {
      outcomes = h.outcomes;
      writers = h.writers;
      readers = h.readers;
      verdicts = h.verdicts;
      map = installed h.map (and_then (h.outcomes i) (λ o. slice_get (by.rows o) p));
    }
    step h Turn = h

    abbrev pub steps : Held R V O → List Event → Held R V O
    steps h [] = h
    steps h (e ∷ es) = steps (step h e) es

    -- the verdicts and the database are those of the commit phase
    pub record IsCommitted (h : Held R V O) : Type 0 where
      pub verdicts : (i : ℕ) (d : Judged O) → Stands R by rule list i d → h.verdicts i ≡ Some d.verdict
      pub map : h.map ≡ after_commit by start (judged (touching by R) rule [] list)

-- the first words stand for no TID under the tag or a lesser one
abbrev pub AreFirst : {K : Type 0} → ℕ → (Bool → K → ℕ) → Type 0
AreFirst tag first = (writes : Bool) (k : _) → (tag + 1) * TAG_SPAN ≤ first writes k

module _ {K V Q A : Type 0} {R : K → K → Ordering} (is_done : A → Bool) (tree : Q → Tree K V A) (rule : Rule)
    (start : FinMap R V) (list : List Q) where
  -- after each legal list of events that settles, the verdicts and the database are those of the batch's commit phase
  abbrev pub Commits : ℕ → (Bool → K → ℕ) → List Event → Type 0
  Commits tag first es =
      let by : Carrier K V A Q = on_start is_done tree start in
      length list ≤ MOST_REQUESTS → AreFirst tag first → IsLegal R by rule list at_first es → IsSettled (all_along at_first es)
      → IsCommitted by rule tag start list first (steps by rule tag start list first (begun by rule tag start list first) es)

  -- some legal list of events settles
  abbrev pub CanSettle : Type 0
  CanSettle = (es : List Event) × IsLegal R (on_start is_done tree start) rule list at_first es × IsSettled (all_along at_first es)
