use Rattle.tbl_rows.proofs.Beside.{IsApart-bare, apart-put_near}
use Rattle.tbl_rows.proofs.Firsts.{get-none, beside-moved}
use Rattle.tbl_rows.proofs.buckets.fill.Goals as goal

pub returns-in-Some-clause-same : goal.returns-in-Some-clause-same
returns-in-Some-clause-same c = rw (c.set.ensures, c.in-Some.ensures.taken) (beside-moved _ _ _ _ (rw (c.is_vacant.ensures c.if-is_vacant.true) (get-none _)))

pub returns-in-Some-clause-apart : goal.returns-in-Some-clause-apart
returns-in-Some-clause-apart c = rw c.set.ensures
    (apart-put_near _ _ _ _ (IsApart-bare _ _ (c.is_vacant.ensures c.if-is_vacant.true)) c.in-Some.ensures.apart)
