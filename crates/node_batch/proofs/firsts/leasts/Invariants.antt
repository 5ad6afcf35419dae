use Rattle.std.proofs.Common.{◌≡◌, ◌++◌, [], map, take, drop}
use Rattle.node_batch.specs.Firsts.{Knows, reads_in, writes_in, holders_behind}
use Rattle.node_batch.specs.Letters.{sets_of, holders_of}
use Rattle.node_batch.proofs.firsts.leasts.Given as goal

abbrev pub invariant-loop-place : goal.invariant-loop-place
invariant-loop-place l = record {
  so_far : map holders_of l.leasts.items ++ holders_behind (map sets_of (take l.place l.parts)) (map sets_of (drop l.place l.parts)) ≡ holders_behind []
      (map sets_of l.parts);
  writers : Knows writes_in (map sets_of (take l.place l.parts)) l.writers;
  readers : Knows reads_in (map sets_of (take l.place l.parts)) l.readers;
}
