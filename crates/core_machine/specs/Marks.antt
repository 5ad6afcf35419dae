-- The words that the machine holds once all marks have come, as the reservation words of a batch's numbered keys.
use Rattle.std.specs.Prelude.{◌≡◌, ◌⊎◌, ℕ, ◌+◌, ◌*◌, ◌<◌, ◌≤◌, List, length, slice_get, slice_index, Option, Some, Bool, true, false}
use Rattle.std.specs.declared.cmp.Ordering.{Ordering}
use Rattle.std.specs.FinMap.{FinMap}
use Rattle.aria_base.specs.Reserved.{start_of, AreAbove, AreWords}
use Rattle.aria_base.specs.declared.limits.TheConstants.{MOST_REQUESTS, TAGS}
use Rattle.aria_base.specs.declared.marks.Mark.{Mark}
use Rattle.batch_rules.specs.declared.verdicts.Rule.{Rule}
use Rattle.batch_rules.specs.Numberings.{IsOneToOneOn}
use Rattle.batch_rules.specs.Touches.{is_among}
use Rattle.batch_rules.specs.Trees.{Tree}
use Rattle.batch_rules.specs.Batches.{Carrier, written, on_start}
use Rattle.dep_rules.specs.Numberings.{IsNumbered}
use Rattle.dep_rules.specs.Sheets.{Sheet, IsSheet, AreMarksOf}
use Rattle.core_machine.specs.declared.events.Event.{Event}
use Rattle.core_machine.specs.Events.{at_first, all_along, IsLegal}
use Rattle.core_machine.specs.Machines.{Held, begun, steps}

-- the two places of a key number: for those that write the key, and for those that read it
abbrev pub place : Bool → ℕ → ℕ
place true number = 2 * number
place false number = 2 * number + 1

module _ {K V A O : Type 0} (R : K → K → Ordering) (by : Carrier K V A O) (list : List O) where
  -- some request of the list touches the key
  abbrev pub IsTouched : K → Type 0
  IsTouched k = (n : ℕ) × (o : O) × (slice_get list n ≡ Some o)
      × ((is_among R (by.reads o) k ≡ true) ⊎ (is_among R (written by o) k ≡ true))

  -- at the numbers of the touched keys stand the words that the machine holds
  pub record AreHeld (number : K → ℕ) (words : List ℕ) (h : Held R V O) : Type 0 where
    pub writers : (k : K) → IsTouched k → h.writers k ≡ slice_index words (place true (number k))
    pub readers : (k : K) → IsTouched k → h.readers k ≡ slice_index words (place false (number k))

module _ {K V Q A : Type 0} {R : K → K → Ordering} (is_done : A → Bool) (tree : Q → Tree K V A) (rule : Rule)
    (start : FinMap R V) (list : List Q) where
  -- Where two keys have one number exactly if they are equal, `words` are those over the old numbers after exactly the batch's marks. Then
  -- each legal list of events that begins from the old numbers and has all marks behind it leaves them.
  abbrev pub MarksTell : (K → ℕ) → List K → Sheet → List ℕ → ℕ → List Mark → List ℕ → List Event → Type 0
  MarksTell number keys sheet old tag marks words es =
      let by : Carrier K V A Q = on_start is_done tree start in
      let first : Bool → K → ℕ = λ writes k. start_of old (place writes (number k)) in
      length list ≤ MOST_REQUESTS → tag < TAGS → AreAbove tag old → IsSheet sheet
      → IsOneToOneOn R keys number → IsNumbered R by.reads (written by) keys number list sheet
      → AreMarksOf sheet marks → AreWords old tag sheet.keys marks words → IsLegal R by rule list at_first es
      → 1 < (all_along at_first es).phase
      → AreHeld R by list number words (steps by rule tag start list first (begun by rule tag start list first) es)
