use Rattle.std.proofs.Common.{sym, subst, ◌∙◌}
use Rattle.std.specs.Option.{IfSome}
use Rattle.tbl_snapshot.specs.Marks.{AllMarked}
use Rattle.tbl_snapshot.specs.Places.{HasPlaces}
use Rattle.tbl_snapshot.proofs.Buffers.{write-at, pushed}
use Rattle.tbl_snapshot.proofs.Placed.{keys_set_at}
use Rattle.tbl_snapshot.proofs.writes.Writes.set.Goals as goal

pub invariant_of-self : goal.invariant_of-self
invariant_of-self c =
    subst (λ ks. AllMarked c.self.inside.bits ks × IfSome c.self.inside.places (HasPlaces ks))
    (sym (keys_set_at c.self.inside.rows.items c.in-Some.place c.args.row c.index_mut.result.now c.index_mut.ensures.value)) c.self.invariant

pub returns-in-Some-clause-written : goal.returns-in-Some-clause-written
returns-in-Some-clause-written c = rw (← c.self.view_is) (write-at c.self.inside.rows.items c.args.key c.args.row c.in-Some.place c.index_mut.result.now
    (rw (← c.self.view_is) at c.in-Some.ensures) c.index_mut.ensures.value)

pub returns-in_ok-add-in-None-clause-written : goal.returns-in_ok-add-in-None-clause-written
returns-in_ok-add-in-None-clause-written c = c.in_ok-add-in-None.ensures.added ∙ sym (pushed c.args.self.now c.args.key c.args.row c.in-None.ensures)
