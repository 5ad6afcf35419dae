use Rattle.std.proofs.Common.{◌≡◌}
use Rattle.load_gen.specs.Draws.{times}
use Rattle.load_gen.specs.Ycsb.{access}
use Rattle.load_gen.proofs.requests.accesses.Given as goal

abbrev pub invariant-loop : goal.invariant-loop
invariant-loop l = (l.accesses.items ≡ (times l.counter (access l.settings) l.initial.draws).0)
    × (l.draws ≡ (times l.counter (access l.settings) l.initial.draws).1)
