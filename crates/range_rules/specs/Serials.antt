-- Works one after the other, each in place on what the ones before it left; that a batch is such a run; and how far it gets.
use Rattle.std.specs.Prelude.{◌≡◌, ◌==◌, ◌++◌, ◌<◌, ℕ, List, map, length, Option, Some, Bool, ◌||◌, true, not, IsSomeAnd, slice_get}
use Rattle.std.specs.Prelude.{EachIndex, SomeIndex}
use Rattle.std.specs.List.{All, filter, filter_map, find, list_any}
use Rattle.std.specs.List.Sorted.{IsPermutation}
use Rattle.std.specs.Option.{option_map}
use Rattle.aria_base.specs.Orders.{key_cmp, Cells, Database}
use Rattle.aria_base.specs.declared.keys.Key.{Key}
use Rattle.aria_base.specs.declared.calls.Request.{Request}
use Rattle.proc_lang.specs.declared.ends.End.{End}
use Rattle.batch_rules.specs.Trees.{Tree}
use Rattle.batch_rules.specs.Touches.{is_among}
use Rattle.batch_rules.specs.Runs.{Runs, ends_in_turn, map_in_turn}
use Rattle.batch_core.specs.declared.answers.Answer.{Answer}
use Rattle.batch_core.specs.declared.answers.Line.{Line}
use Rattle.batch_core.specs.declared.answers.Reply.{Reply}
use Rattle.batch_core.specs.declared.answers.Reply.TheVariants.{Ended}
use Rattle.batch_core.specs.Serial.{is_wait}
use Rattle.range_rules.specs.declared.routines.Action.{Action}
use Rattle.range_rules.specs.declared.routines.NumberedWork.{NumberedWork}
use Rattle.range_rules.specs.declared.routines.Ran.{Ran}
use Rattle.range_rules.specs.declared.routines.RoutineCall.{RoutineCall}
use Rattle.range_rules.specs.declared.routines.Seen.{Seen}
use Rattle.range_rules.specs.Scans.{is_under_any}
use Rattle.range_rules.specs.Courses.{ran_on, left_on}

-- what a run looked at: the keys that it read, and all keys under the prefixes that it scanned
abbrev pub saw : Ran → Key → Bool
saw ran k = is_among key_cmp ran.reads k || is_under_any ran.scans k

-- the work of the list that has this number, and the reply that these lines have for it
abbrev pub numbered_as : List NumberedWork → ℕ → Option NumberedWork
numbered_as list q = find (λ w. w.q == q) list

abbrev pub named : List NumberedWork → List ℕ → List NumberedWork
named list order = filter_map (numbered_as list) order

abbrev pub is_named : List ℕ → NumberedWork → Bool
is_named order w = list_any (λ q. q == w.q) order

abbrev pub printed : List Line → ℕ → Option Reply
printed lines q = option_map (λ line. line.reply) (find (λ line. line.q == q) lines)

module _ (tree : Request → Tree Key Cells End) (act : ℕ → RoutineCall → List Seen → Action) where
  -- works by what their runs come to
  abbrev pub works : Runs key_cmp Cells End NumberedWork
  works = record {
    end = λ w db. (ran_on tree act db w).end;
    rows = λ w db. (ran_on tree act db w).writes;
    after = λ w db. left_on tree act db w;
    sees = λ w db. saw (ran_on tree act db w);
  }

  abbrev pub serial_ends : Database → List NumberedWork → List End
  serial_ends = ends_in_turn works

  abbrev pub serial_rows : Database → List NumberedWork → Database
  serial_rows = map_in_turn works

  -- The answer tells a serial run of the list from the start. Its order names works of the list. One after the other from the start they
  -- end as their lines say, and leave the rows. The other works, in the list's order, are those that are carried over, and the line of
  -- each of them says that it waits. Order and carried works together have each number of the list once.
  pub record IsSerialAnswer (start : Database) (list : List NumberedWork) (answer : Answer) (rows : Database)
      (carried : List NumberedWork) : Type 0 where
    pub found : map (numbered_as list) answer.order ≡ map Some (named list answer.order)
    pub ends : map (printed answer.lines) answer.order
        ≡ map (λ end. Some (Ended end)) (serial_ends start (named list answer.order))
    pub left : rows ≡ serial_rows start (named list answer.order)
    pub rest : carried ≡ filter (λ w. not (is_named answer.order w)) list
    pub waits : All (λ w. IsSomeAnd (printed answer.lines w.q) (λ reply. is_wait reply ≡ true)) carried
    pub once : IsPermutation (answer.order ++ map (λ w. w.q) carried) (map (λ w. w.q) list)

  -- The list's first work finishes, with its end on the start. Fewer are carried than the list has; and since the next list begins with
  -- them, each stands at a smaller place in it than in this list.
  pub record IsProgress (start : Database) (list : List NumberedWork) (answer : Answer) (carried : List NumberedWork) : Type 0 where
    pub first : slice_get answer.lines 0
        ≡ option_map (λ w. record { q = w.q; reply = Ended (ran_on tree act start w).end }) (slice_get list 0)
    pub fewer : length carried < length list
    pub sooner : EachIndex carried (λ i. SomeIndex list (λ j. (i < j) × (slice_get carried i ≡ slice_get list j)))
