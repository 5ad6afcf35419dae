-- What the machine in code is after events: it has what the definition's machine holds.
use Rattle.std.specs.Prelude.{◌≡◌, ◌↔◌, ⊤, ℕ, ◌+◌, ◌-◌, ◌^◌, ◌<◌, ◌≤◌, ◌&&◌, ◌==◌, not, min, List, [], ◌∷◌, ◌++◌, length, map}
use Rattle.std.specs.Prelude.{take, slice_get, slice_set, Option, Some, None, Bool, true, false, is_some, Contains}
use Rattle.std.specs.Option.{option_map}
use Rattle.aria_base.specs.Orders.{key_cmp, Cells, Database}
use Rattle.aria_base.specs.Reserved.{number_under}
use Rattle.aria_base.specs.declared.keys.Key.{Key}
use Rattle.aria_base.specs.declared.calls.Request.{Request}
use Rattle.aria_base.specs.declared.limits.TheConstants.{MOST_REQUESTS}
use Rattle.proc_lang.specs.Catalogs.{Plan, run_of}
use Rattle.proc_lang.specs.Meaning.{is_done}
use Rattle.proc_lang.specs.declared.ends.End.{End}
use Rattle.batch_rules.specs.declared.verdicts.Rule.{Rule}
use Rattle.batch_rules.specs.declared.verdicts.Verdict.{Verdict}
use Rattle.batch_rules.specs.Batches.{Carrier, judged, touching, after_commit, on_start}
use Rattle.proc_exec.specs.declared.outcomes.Outcome.{Outcome}
use Rattle.proc_exec.specs.Outcomes.{outcome_at}
use Rattle.core_machine.specs.declared.events.Event.{Event}
use Rattle.core_machine.specs.declared.events.Event.TheVariants.{Execute, MarkRead, MarkWrite, Decide, Install, Turn}
use Rattle.core_machine.specs.declared.refusals.CoreRefused.{CoreRefused}
use Rattle.core_machine.specs.declared.refusals.CoreRefused.TheVariants as refused
use Rattle.core_machine.specs.declared.cores.Core.{Core}
use Rattle.core_machine.specs.declared.decisions.TheConstants.{TAG}
use Rattle.core_machine.specs.Events.{SoFar, at_first, all_along, phase_of, tid_in, place_in, IsDue, IsLegal}
use Rattle.core_machine.specs.Machines.{Held, installed, marked, decide, begun, steps}
use Rattle.core_machine.specs.Found.{at_tid, outcome_of, read_at, write_at, finishes_by}
use Rattle.core_machine.specs.Kinds.{is_in}
use Rattle.core_machine.specs.Phases.{ended}
use Rattle.core_machine.specs.Words.{word_in, ran}

-- a batch: its list on the rows that it begins with
pub record Course : Type 0 where
  pub catalog : Plan
  pub rule : Rule
  pub start : Database
  pub list : List Request

-- before any mark each word is the greatest one
abbrev pub unmarked : Bool → Key → ℕ
unmarked writes key = 2 ^ 64 - 1

module _ (b : Course) where
  abbrev pub carrier : Carrier Key Cells End Request
  carrier = on_start is_done (run_of b.catalog) b.start

  -- how far these events lead, each of which is due when it comes; and whether this one is due next
  abbrev pub after : List Event → SoFar
  after es = all_along at_first es

  abbrev pub IsCourse : List Event → Type 0
  IsCourse es = IsLegal key_cmp carrier b.rule b.list at_first es

  abbrev pub IsNext : List Event → Event → Type 0
  IsNext es e = IsDue key_cmp carrier b.rule b.list (after es) e

  -- what the machine of the definition holds after them
  abbrev pub held : List Event → Held key_cmp Cells Request
  held es = steps carrier b.rule TAG b.start b.list unmarked (begun carrier b.rule TAG b.start b.list unmarked) es

-- whether an event was taken
abbrev pub has_come : Core → Event → Bool
has_come core e = is_in core.came e

-- The machine in code has taken these events of the batch: each of them was due, and it has what the machine of the definition holds.
pub record HasTaken (b : Course) (es : List Event) (core : Core) : Type 0 where
  pub catalog : core.catalog ≡ b.catalog
  pub rule : core.rule ≡ b.rule
  pub list : core.list.items ≡ b.list
  pub few : length b.list ≤ MOST_REQUESTS
  pub legal : IsCourse b es
  pub phase : ended core.phase ≡ (after b es).phase
  pub came : (e : Event) → (has_come core e ≡ true) ↔ Contains (after b es).came e
  pub fits : (e : Event) → Contains (after b es).came e → place_in e < 2 ^ 32
  pub outcomes : (i : ℕ) → outcome_of core.outcomes.items i ≡ option_map (outcome_at (run_of b.catalog) b.start) ((held b es).outcomes i)
  pub writers : (key : Key) → word_in core.writers key ≡ (held b es).writers key
  pub readers : (key : Key) → word_in core.readers key ≡ (held b es).readers key
  pub verdicts : (i : ℕ) (v : Verdict) → (held b es).verdicts i ≡ Some v → at_tid core.verdicts.items i ≡ Some v
  pub tables : core.tables ≡ (held b es).map

-- the verdicts of the batch's commit phase, in the order of its list, and the database that it leaves
abbrev pub verdicts_of : Course → List Verdict
verdicts_of b = map (λ d. d.verdict) (judged (touching (carrier b) key_cmp) b.rule [] b.list)

abbrev pub database_of : Course → Database
database_of b = after_commit (carrier b) b.start (judged (touching (carrier b) key_cmp) b.rule [] b.list)

-- why events are refused behind those that the machine has taken: the one at this place is the first that is not due
abbrev pub IsRefusal : Course → List Event → List Event → CoreRefused → Type 0
IsRefusal b es events refused.Memory = ⊤
IsRefusal b es events (refused.NotDue at) =
    (e : Event) × (slice_get events at ≡ Some e) × IsCourse b (es ++ take at events) × ¬ IsNext b (es ++ take at events) e

-- ---- one event

-- whether the machine would take the event in its phase, had it not come
abbrev pub asks : Core → Event → Bool
asks core (Execute i) = is_some (at_tid core.list.items i)
asks core (MarkRead i p) = is_some (read_at core.outcomes.items i p)
asks core (MarkWrite i p) = is_some (write_at core.outcomes.items i p)
asks core (Decide i) = is_some (at_tid core.list.items i)
asks core (Install i p) = finishes_by (at_tid core.verdicts.items i) && is_some (write_at core.outcomes.items i p)
asks core Turn = false

-- whether the event is due, which is no turn
abbrev pub is_open : Core → Event → Bool
is_open core e = (ended core.phase == phase_of e) && (asks core e && not (has_come core e))

-- the TID is one of the batch's
abbrev pub IsTid : Core → ℕ → Type 0
IsTid core i = (1 ≤ i) × (i ≤ length core.list.items)

-- of those that the phase asks for all have come; or one has not. A place that no event can name has none
abbrev pub AllCame : Core → Type 0
AllCame core = (e : Event) → phase_of e ≡ ended core.phase → asks core e ≡ true → has_come core e ≡ true

abbrev pub SomeLeft : Core → Type 0
SomeLeft core = (e : Event) × (phase_of e ≡ ended core.phase) × (asks core e ≡ true) × (place_in e < 2 ^ 32 → has_come core e ≡ false)

-- the same of the events of one request
abbrev pub AllCameOf : Core → ℕ → Type 0
AllCameOf core tid = (e : Event) → tid_in e ≡ tid → phase_of e ≡ ended core.phase → asks core e ≡ true → has_come core e ≡ true

-- where the event is one of a request, the request is there
abbrev pub CanTake : Core → Event → Type 0
CanTake core (Execute i) = IsTid core i
CanTake core (Decide i) = IsTid core i
CanTake core (MarkRead i p) = ⊤
CanTake core (MarkWrite i p) = ⊤
CanTake core (Install i p) = ⊤
CanTake core Turn = ⊤

-- the machine d is the machine c with this phase, these outcomes, words and verdicts, and this database
pub record Becomes (c d : Core) (ended_now : ℕ) (ran_now : List (Option Outcome)) (by_writers by_readers : Key → ℕ)
    (told_now : List Verdict) (db : Database) : Type 0 where
  pub catalog : d.catalog ≡ c.catalog
  pub rule : d.rule ≡ c.rule
  pub list : d.list.items ≡ c.list.items
  pub came : d.came ≡ c.came
  pub phase : ended d.phase ≡ ended_now
  pub outcomes : d.outcomes.items ≡ ran_now
  pub writers : (key : Key) → word_in d.writers key ≡ by_writers key
  pub readers : (key : Key) → word_in d.readers key ≡ by_readers key
  pub verdicts : d.verdicts.items ≡ told_now
  pub tables : d.tables ≡ db

-- the verdict that the words tell, where the request ran
abbrev pub told : Core → ℕ → Option Outcome → List Verdict
told c i None = c.verdicts.items
told c i (Some o) = slice_set c.verdicts.items (i - 1) (decide ran c.rule TAG (word_in c.writers) (word_in c.readers) i o)

-- the outcome of the request of the list, where it is there
abbrev pub executed : Core → ℕ → Option Request → List (Option Outcome)
executed c i None = c.outcomes.items
executed c i (Some q) = slice_set c.outcomes.items (i - 1) (Some (outcome_at (run_of c.catalog) c.tables q))

-- what an event does to the machine, but for the note that it has come
abbrev pub Performs : Core → Event → Core → Type 0
Performs c (Execute i) d =
    Becomes c d (ended c.phase) (executed c i (at_tid c.list.items i)) (word_in c.writers) (word_in c.readers) c.verdicts.items c.tables
Performs c (MarkRead i p) d =
    let key : Option Key = read_at c.outcomes.items i p in
    let readers : Key → ℕ = marked key_cmp (word_in c.readers) key (number_under TAG i) in
    Becomes c d (ended c.phase) c.outcomes.items (word_in c.writers) readers c.verdicts.items c.tables
Performs c (MarkWrite i p) d =
    let key : Option Key = option_map (λ w. w.0) (write_at c.outcomes.items i p) in
    let writers : Key → ℕ = marked key_cmp (word_in c.writers) key (number_under TAG i) in
    Becomes c d (ended c.phase) c.outcomes.items writers (word_in c.readers) c.verdicts.items c.tables
Performs c (Decide i) d =
    let verdicts : List Verdict = told c i (outcome_of c.outcomes.items i) in
    Becomes c d (ended c.phase) c.outcomes.items (word_in c.writers) (word_in c.readers) verdicts c.tables
Performs c (Install i p) d =
    let db : Database = installed c.tables (write_at c.outcomes.items i p) in
    Becomes c d (ended c.phase) c.outcomes.items (word_in c.writers) (word_in c.readers) c.verdicts.items db
Performs c Turn d =
    Becomes c d (min (ended c.phase + 1) 4) c.outcomes.items (word_in c.writers) (word_in c.readers) c.verdicts.items c.tables
