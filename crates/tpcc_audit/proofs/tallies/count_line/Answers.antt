use Rattle.std.proofs.Common.{ap, ◌∙◌}
use Rattle.tpcc_audit.specs.Books.{tally_in, set_at, with_line}
use Rattle.tpcc_audit.proofs.Bounds.{set-within, line-within}
use Rattle.tpcc_audit.proofs.Places.{set-own}
use Rattle.tpcc_audit.proofs.tallies.count_line.Goals as goal

pub returns-clause-tallies : goal.returns-clause-tallies
returns-clause-tallies c = λ q.
    c.in_ok-set.ensures q
    ∙ ap (λ t. set_at c.args.at t q (tally_in c.args.tallies.now q)) (c.with_line.ensures ∙ ap (λ t. with_line t) c.tally_at-tally.ensures)
    ∙ set-own c.args.at q (λ t. with_line t) (tally_in c.args.tallies.now)

pub returns-clause-within : goal.returns-clause-within
returns-clause-within c = λ n q h.
    set-within n c.args.at q (with_line (tally_in c.args.tallies.now q)) (tally_in c.args.tallies.now q) _ (returns-clause-tallies c q)
    (line-within n (tally_in c.args.tallies.now q) h) h
