use Rattle.std.proofs.Common.{sym, subst}
use Rattle.script_rows.specs.Drafts.{IsFitting, no_counts}
use Rattle.script_rows.proofs.Drafted.{next_fits}
use Rattle.script_rows.proofs.drafts.Draft.next.Goals as goal

pub returns-clause-fitting : goal.returns-clause-fitting
returns-clause-fitting c =
    subst IsFitting (sym c.in_ok-next.ensures)
    (next_fits c.args.self.place c.in_ok-place.place c.args.self.tables no_counts c.in_ok-place.deed c.requires
    (c.follows.ensures c.args.self.place no_counts c.args.line.now c.in_ok-place.place c.in_ok-place.deed c.in_ok-place.ensures))
