use Rattle.std.proofs.Common.{ap, sym, ◌∙◌}
use Rattle.std.specs.Option.{option_copied}
use Rattle.tbl_rows.proofs.Beside.{found-near, found-far}
use Rattle.tbl_rows.proofs.buckets.Bucket.get.Goals as goal

pub returns-in-Some : goal.returns-in-Some
returns-in-Some c = rw (← c.self.view_is) (sym (found-near _ _ _ _ (sym c.get.ensures ∙ ap option_copied c.in-Some.is)))

pub returns-in-None : goal.returns-in-None
returns-in-None c = rw (← c.self.view_is) (c.get-in-None.ensures ∙ sym (found-far _ _ _ (sym c.get.ensures ∙ ap option_copied c.in-None.is)))
