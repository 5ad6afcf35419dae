-- All nodes in code, as the world of the definitions.
use Rattle.std.specs.Prelude.{◌≡◌, ℕ, ◌<◌, List, map, nat_le, Bool}
use Rattle.std.specs.List.{list_all}
use Rattle.aria_base.specs.Orders.{key_cmp, Cells, Database}
use Rattle.aria_base.specs.declared.calls.Call.{Call}
use Rattle.aria_base.specs.declared.calls.Request.{Request}
use Rattle.aria_base.specs.declared.keys.Key.{Key}
use Rattle.proc_lang.specs.declared.ends.End.{End}
use Rattle.node_rules.specs.Messages.{Message}
use Rattle.node_rules.specs.Nets.{Net, all_nodes}
use Rattle.node_rules.specs.Worlds.{World as Definition}
use Rattle.node_batch.specs.Letters.{net_of, message_of}
use Rattle.node_batch.specs.Sames.{same_message}
use Rattle.node_seats.specs.Nodes.{world_of, AreKept, done_by}
use Rattle.node_world.specs.declared.worlds.World.{World}

abbrev pub started_in : World → List (List Request)
started_in w = map (λ new. new.items) w.started.items

abbrev pub sent_in : World → List (Message Key Cells)
sent_in w = map message_of w.sent.items

abbrev pub net_in : World → Net key_cmp Cells Request End
net_in w = net_of w.catalog w.rule w.nodes same_message

-- the world, where these were the rows at the beginning
abbrev pub world_in : Database → World → Definition key_cmp Cells Request End
world_in start w = world_of w.catalog w.rule w.nodes start (started_in w) (sent_in w) w.seats.items

-- how many batches a node has completed
abbrev pub done_in : World → ℕ → ℕ
done_in w n = done_by w.seats.items n

abbrev pub Keeps : Database → World → Type 0
Keeps start w = AreKept w.catalog w.rule w.nodes start (started_in w) w.requests (sent_in w) w.given.items w.seats.items

-- the calls of each started batch
abbrev pub calls_in : World → List (List Call)
calls_in w = map (map (λ q. q.call)) (started_in w)

-- all nodes have completed so many batches
abbrev pub all_past : World → ℕ → Bool
all_past w batches = list_all (λ n. nat_le batches (done_in w n)) (all_nodes (net_in w))

-- and the same ones
abbrev pub AreLevel : World → Type 0
AreLevel w = (n : ℕ) → n < w.nodes → done_in w n ≡ done_in w 0
