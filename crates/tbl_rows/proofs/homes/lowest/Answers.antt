use Rattle.tbl_rows.proofs.Slots.{mask}
use Rattle.tbl_rows.proofs.homes.lowest.Goals as goal

pub returns : goal.returns
returns c = mask c.args.word c.args.bits c.requires
