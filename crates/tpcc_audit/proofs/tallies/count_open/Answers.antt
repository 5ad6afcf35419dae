use Rattle.std.proofs.Common.{ap, ◌∙◌}
use Rattle.std.proofs.Math.Facts.{to_z-of_z}
use Rattle.tpcc_audit.specs.Books.{tally_in, set_at, with_open}
use Rattle.tpcc_audit.proofs.Bounds.{set-within, open-within}
use Rattle.tpcc_audit.proofs.Places.{set-own}
use Rattle.tpcc_audit.proofs.tallies.count_open.Goals as goal

pub returns-clause-tallies : goal.returns-clause-tallies
returns-clause-tallies c = λ q.
    c.in_ok-set.ensures q
    ∙ ap (λ t. set_at c.args.at t q (tally_in c.args.tallies.now q)) (c.with_open.ensures
    ∙ (λ i. with_open c.tally_at-tally.result (to_z-of_z c.ranges.order i)) ∙ ap (λ t. with_open t c.args.order) c.tally_at-tally.ensures)
    ∙ set-own c.args.at q (λ t. with_open t c.args.order) (tally_in c.args.tallies.now)

pub returns-clause-within : goal.returns-clause-within
returns-clause-within c = λ n q h.
    set-within n c.args.at q (with_open (tally_in c.args.tallies.now q) c.args.order) (tally_in c.args.tallies.now q) _ (returns-clause-tallies c q)
    (open-within n (tally_in c.args.tallies.now q) c.args.order h) h
