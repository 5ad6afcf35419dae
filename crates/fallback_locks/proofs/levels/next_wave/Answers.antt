use Rattle.std.proofs.Common.{◌≤◌, arith}
use Rattle.fallback_locks.proofs.LastWaves.{writer_most, toucher_most}
use Rattle.fallback_locks.proofs.levels.next_wave.Goals as goal

pub overflow_add-wave : goal.overflow_add-wave
overflow_add-wave g c =
    let last = g.T.Table.last c.args.table.now in
    let read : c.last_writer-read.result ≤ 10000 = rw (c.last_writer-read.ensures) (writer_most last 10000 c.args.reads.now c.requires.low) in
    let written : c.last_toucher-written.result ≤ 10000 = rw (c.last_toucher-written.ensures) (toucher_most last 10000 c.args.writes.now c.requires.low) in
    omega (arith, c.max-wave.ensures, read, written)
