use denote.Param.Send.{sendable}
use Rattle.std.proofs.Crossing.{crosses}
use Rattle.aria_base.proofs.memory.Memory.TheSendSync as memory
use Rattle.replica_run.proofs.Crosses.{job_send, ran_send}
use Rattle.replica_run.proofs.at_once.do_all.Goals as goal

pub map_vec-requires-send-J : goal.map_vec-requires-send-J
map_vec-requires-send-J g c κs within = search (job_send, crosses, sendable) depth 30

pub map_vec-requires-send-X : goal.map_vec-requires-send-X
map_vec-requires-send-X g c κs within = search (ran_send, memory.the_send, crosses, sendable) depth 30
