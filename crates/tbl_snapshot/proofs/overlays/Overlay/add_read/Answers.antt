use Rattle.std.proofs.Common.{◌∙◌, sym}
use Rattle.tbl_snapshot.proofs.Buffers.{seen-read, reads-written, reads-there, reads-more}
use Rattle.tbl_snapshot.proofs.overlays.Overlay.add_read.Goals as goal

pub returns-then-has-clause-noted : goal.returns-then-has-clause-noted
returns-then-has-clause-noted c = rw (← c.self.view_is)
    (seen-read _ c.self.inside.reads _ _ c.args.key (reads-written c.self.inside.reads c.self.inside.writes c.args.key (sym c.has.ensures ∙ c.if-has.true)))

pub returns-then-has-2-clause-noted : goal.returns-then-has-2-clause-noted
returns-then-has-2-clause-noted c = rw (← c.self.view_is)
    (seen-read _ c.self.inside.reads _ _ c.args.key (reads-there c.self.inside.reads c.self.inside.writes c.args.key (sym c.has-2.ensures ∙ c.if-has-2.true)))

pub returns-clause-noted : goal.returns-clause-noted
returns-clause-noted c = rw (← c.self.view_is)
    (seen-read _ c.self.inside.reads _ _ c.args.key (c.in_ok-add.ensures.added
    ∙ reads-more c.self.inside.reads c.self.inside.writes c.args.key (sym c.has.ensures ∙ c.if-has.false) (sym c.has-2.ensures ∙ c.if-has-2.false)))
