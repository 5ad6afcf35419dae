use Rattle.std.proofs.Common.{◌≡◌}
use Rattle.load_gen.specs.Draws.{times}
use Rattle.tpcc_routines.specs.Mixes.{request}
use Rattle.tpcc_routines.proofs.mixes.more_batch.Given as goal

abbrev pub invariant-loop : goal.invariant-loop
invariant-loop l = (l.works.items ≡ (times l.counter (request l.settings l.number) l.initial.draws).0)
    × (l.draws ≡ (times l.counter (request l.settings l.number) l.initial.draws).1)
