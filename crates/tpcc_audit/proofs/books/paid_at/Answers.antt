use Rattle.std.proofs.Common.{ap, sym, ◌∙◌, option_copied}
use Rattle.std.proofs.Math.Facts.{to_z-of_z}
use Rattle.tpcc_audit.specs.Books.{or_nothing, paid_in}
use Rattle.tpcc_audit.proofs.books.paid_at.Goals as goal

pub returns-in-None : goal.returns-in-None
returns-in-None c =
    ap or_nothing (sym (ap option_copied c.in-None.is) ∙ c.get.ensures.value) ∙ ap (paid_in c.args.paid.now) (to_z-of_z c.ranges.w)
