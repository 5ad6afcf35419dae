-- What the calls of nodes speak of.
use Rattle.std.specs.Prelude.{⊤, ℕ, ◌+◌, ◌≤◌, length, Bool, false, nat_le}
use Rattle.aria_base.specs.Orders.{Database}
use Rattle.aria_base.specs.declared.calls.Request.{Request}
use Rattle.aria_base.specs.declared.limits.TheConstants.{MOST_REQUESTS}
use Rattle.batch_core.specs.Steps.{State, Handed, numbered}
use Rattle.node_rules.specs.Worlds.{Start, Deliver}
use Rattle.node_rules.specs.Worlds.{NetEvent as Happens}
use Rattle.node_world.specs.Worlds.{calls_in}
use Rattle.node_answers.specs.Runs.{state_after, handed_at}
use Rattle.part_nodes.specs.declared.events.NetEvent.{NetEvent}
use Rattle.part_nodes.specs.declared.events.NetEvent.TheVariants as event
use Rattle.node_world.specs.declared.worlds.World.{World}

-- how many calls the event starts
abbrev pub calls_of : NetEvent → ℕ
calls_of (event.Start calls) = length calls.items
calls_of (event.Deliver k) = 0

-- all calls that are started are at most so many, where so many were started before
abbrev pub HasRoom : ℕ → NetEvent → Type 0
HasRoom requests (event.Start calls) = requests + length calls.items ≤ MOST_REQUESTS
HasRoom requests (event.Deliver k) = ⊤

-- the event of the definitions, where so many requests were numbered before
abbrev pub event_of : ℕ → NetEvent → Happens Request
event_of requests (event.Start calls) = Start (numbered requests calls.items)
event_of requests (event.Deliver k) = Deliver k

-- no message has the number that is to be delivered
abbrev pub is_past : World → NetEvent → Bool
is_past w (event.Start calls) = false
is_past w (event.Deliver k) = nat_le (length w.sent.items) k

-- the state of one database after so many of the batches that were started, and the batch behind them
abbrev pub state_in : Database → World → ℕ → State
state_in start w done = state_after w.catalog w.rule start (calls_in w) done

abbrev pub handed_in : Database → World → ℕ → Handed
handed_in start w done = handed_at w.catalog w.rule start (calls_in w) done
