use Rattle.std.proofs.Common.{◌≡◌, map, length}
use Rattle.tpcc_load.specs.Draws.{over}
use Rattle.tpcc_load.specs.Rows.{laid}
use Rattle.tpcc_load.specs.Heads.{person, customer_row, rank_of}
use Rattle.tpcc_load.proofs.customers.customers.Given as goal

abbrev pub invariant-loop-place : goal.invariant-loop-place
invariant-loop-place l =
    (l.draws ≡ (over l.place (person l.settings) l.initial.draws).1)
    × (l.tables ≡ laid l.initial.tables (map (customer_row l.at.w l.at.d) (over l.place (person l.settings) l.initial.draws).0))
    × (length l.ranks.items ≡ l.place)
    × (l.ranks.items ≡ map rank_of (over l.place (person l.settings) l.initial.draws).0)
