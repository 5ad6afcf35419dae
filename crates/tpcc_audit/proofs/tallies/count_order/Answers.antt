use Rattle.std.proofs.Common.{ap, ◌∙◌}
use Rattle.std.proofs.Math.Facts.{to_z-of_z}
use Rattle.tpcc_audit.specs.Books.{tally_in, set_at, with_order}
use Rattle.tpcc_audit.proofs.Bounds.{set-within, order-within, small}
use Rattle.tpcc_audit.proofs.Places.{set-own}
use Rattle.tpcc_audit.proofs.tallies.count_order.Goals as goal

pub returns-clause-tallies : goal.returns-clause-tallies
returns-clause-tallies c = λ q.
    c.in_ok-set.ensures q
    ∙ ap (λ t. set_at c.args.at t q (tally_in c.args.tallies.now q)) (c.with_order.ensures
    ∙ (λ i. with_order c.tally_at-tally.result (to_z-of_z c.ranges.order i) (to_z-of_z c.ranges.lines i))
    ∙ ap (λ t. with_order t c.args.order c.args.lines) c.tally_at-tally.ensures)
    ∙ set-own c.args.at q (λ t. with_order t c.args.order c.args.lines) (tally_in c.args.tallies.now)

pub returns-clause-within : goal.returns-clause-within
returns-clause-within c = λ n q h.
    set-within n c.args.at q (with_order (tally_in c.args.tallies.now q) c.args.order c.args.lines) (tally_in c.args.tallies.now q) _
    (returns-clause-tallies c q) (order-within n (tally_in c.args.tallies.now q) c.args.order c.args.lines (small c.args.lines c.ranges.lines) h) h
