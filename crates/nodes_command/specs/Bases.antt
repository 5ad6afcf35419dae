-- A database before its first batch, and from then on the nodes that divide it, as a state.
use Rattle.std.specs.Prelude.{◌≡◌, ◌<◌, ℕ, length, Result, Ok, Err}
use Rattle.std.specs.FinMap as fin
use Rattle.aria_base.specs.Orders.{Cells}
use Rattle.aria_base.specs.declared.keys.Key.{Key}
use Rattle.batch_core.specs.Steps.{State}
use Rattle.node_answers.specs.Runs.{state_at_first}
use Rattle.node_world.specs.Worlds.{done_in}
use Rattle.part_nodes.specs.Asked.{state_in}
use Rattle.part_nodes.specs.Ready.{AreReady}
use Rattle.part_nodes.specs.declared.nodes.Nodes.{Nodes}
use Rattle.proc_lang.specs.Catalogs.{Plan}
use Rattle.script_course.specs.declared.stops.Stop.{Stop}
use Rattle.nodes_command.specs.declared.bases.Base.{Base}
use Rattle.nodes_command.specs.declared.bases.Base.TheVariants as base

-- ---- nodes that have completed all that was started

-- the state of one database behind all batches
abbrev pub state_now : Nodes → State
state_now n = state_in n.start.value n.world (length n.world.started.items)

-- each node has completed all of them
pub record AreDone (n : Nodes) : Type 0 where
  pub ready : AreReady n
  pub done : (node : ℕ) → node < n.world.nodes → done_in n.world node ≡ length n.world.started.items

-- a result by the state that goes on
abbrev pub state_result : Result Nodes Stop → Result State Stop
state_result (Ok n) = Ok (state_now n)
state_result (Err why) = Err why

-- ---- with the rows before the first batch

abbrev pub state_of : Base → State
state_of (base.Rows tables rule) = state_at_first rule tables
state_of (base.Runs n) = state_now n

-- a result by the state that goes on
abbrev pub base_result : Result Base Stop → Result State Stop
base_result (Ok b) = Ok (state_of b)
base_result (Err why) = Err why

-- how many calls were started
abbrev pub requests_in : Base → ℕ
requests_in (base.Rows tables rule) = 0
requests_in (base.Runs n) = n.world.requests

abbrev pub put_in : Base → Key → Cells → Base
put_in (base.Rows tables rule) key row = base.Rows (fin.insert tables key row) rule
put_in (base.Runs n) key row = base.Runs n

-- no batch was run
abbrev pub IsHead : Base → Type 0
IsHead (base.Rows tables rule) = Unit {0}
IsHead (base.Runs n) = ⊥

-- the nodes run by this catalogue, and no batch is under way
abbrev pub IsUnder : Plan → Base → Type 0
IsUnder plan (base.Rows tables rule) = Unit {0}
IsUnder plan (base.Runs n) = AreDone n × (n.world.catalog ≡ plan)

-- the same database, as nodes
pub record IsBegun (plan : Plan) (b : Base) (n : Nodes) : Type 0 where
  pub done : AreDone n
  pub plan_is : n.world.catalog ≡ plan
  pub state : state_now n ≡ state_of b
  pub requests : n.world.requests ≡ requests_in b
