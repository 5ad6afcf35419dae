-- What each answer promises, by the request numbers that it prints: its order is a serial one.
use Rattle.std.specs.Prelude.{◌≡◌, ⊤, ℕ, ◌<◌, ◌≤◌, ◌==◌, List, [], ◌∷◌, ◌++◌, map, Option, Some, Bool, true, false, not, IsSomeAnd}
use Rattle.std.specs.List.{All, filter, filter_map, find, list_any}
use Rattle.std.specs.List.Sorted.{IsPermutation}
use Rattle.std.specs.Option.{option_map}
use Rattle.aria_base.specs.Orders.{Cells, Database}
use Rattle.aria_base.specs.declared.keys.Key.{Key}
use Rattle.aria_base.specs.declared.calls.Request.{Request}
use Rattle.proc_lang.specs.declared.ends.End.{End}
use Rattle.proc_lang.specs.Meaning.{is_done}
use Rattle.batch_rules.specs.Trees.{Tree}
use Rattle.batch_rules.specs.Serials.{serial_ends, serial_map}
use Rattle.batch_core.specs.declared.answers.Reply.{Reply}
use Rattle.batch_core.specs.declared.answers.Reply.TheVariants.{Ended, Waits}
use Rattle.batch_core.specs.declared.answers.Answer.{Answer}
use Rattle.batch_core.specs.Steps.{State, Handed, list_of, step, answer}

-- the numbers of the items rise, each above the one before it: the first is above `low`, and none is above `high`
abbrev pub RiseWithin : {X : Type 0} → (X → ℕ) → ℕ → List X → ℕ → Type 0
RiseWithin number low [] high = low ≤ high
RiseWithin number low (x ∷ xs) high = (low < number x) × RiseWithin number (number x) xs high

-- the requests that wait have numbers that were given, from 1 up to the last one at most, and in their order
abbrev pub IsNumbered : State → Type 0
IsNumbered state = RiseWithin (λ request. request.q) 0 state.waiting state.requests

-- the request of the list that has this number
abbrev pub request_numbered : List Request → ℕ → Option Request
request_numbered list q = find (λ request. request.q == q) list

-- the requests of the list that the order names
abbrev pub named : List Request → List ℕ → List Request
named list order = filter_map (request_numbered list) order

abbrev pub is_named : List ℕ → Request → Bool
is_named order request = list_any (λ q. q == request.q) order

-- the reply that the answer prints for this number
abbrev pub printed : Answer → ℕ → Option Reply
printed answer q = option_map (λ line. line.reply) (find (λ line. line.q == q) answer.lines)

abbrev pub is_wait : Reply → Bool
is_wait (Ended end) = false
is_wait (Waits wait) = true

-- The answer tells a serial run of the list from the start. Its order names requests of the list. One after the other from the start
-- they end as printed, and leave the rows of the next state. The other requests, in the list's order, are those that wait in the next
-- state, and each of them is printed to wait. Order and waiting requests together have each number of the list once.
pub record IsSerialAnswer (tree : Request → Tree Key Cells End) (start : Database) (list : List Request)
    (answer : Answer) (next : State) : Type 0 where
  pub found : map (request_numbered list) answer.order ≡ map Some (named list answer.order)
  pub ends : map (printed answer) answer.order ≡ map (λ end. Some (Ended end)) (serial_ends is_done tree start (named list answer.order))
  pub rows : next.rows ≡ serial_map is_done tree start (named list answer.order)
  pub rest : next.waiting ≡ filter (λ request. not (is_named answer.order request)) list
  pub waits : All (λ request. IsSomeAnd (printed answer request.q) (λ reply. is_wait reply ≡ true)) next.waiting
  pub once : IsPermutation (answer.order ++ map (λ request. request.q) next.waiting) (map (λ request. request.q) list)

module _ (tree : Request → Tree Key Cells End) where
  -- the batch is serialised by the order that its answer prints
  abbrev pub IsSerial : State → Handed → Type 0
  IsSerial state handed = IsSerialAnswer tree state.rows (list_of state handed) (answer tree state handed) (step tree state handed)

  -- each of the batches is, from the state in which it starts
  abbrev pub AllSerial : State → List Handed → Type 0
  AllSerial state [] = ⊤
  AllSerial state (handed ∷ rest) = IsSerial state handed × AllSerial (step tree state handed) rest
