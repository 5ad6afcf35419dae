use Rattle.tbl_rows.proofs.Slots.{hash_apart}
use Rattle.tbl_rows.proofs.entries.Entry.is_at.Goals as goal

pub returns-else-hash-self : goal.returns-else-hash-self
returns-else-hash-self c =
    rw (← c.self.view_is) (hash_apart c.args.key.now c.self.inside.key c.args.hash c.self.inside.hash c.requires c.self.invariant c.if-hash-self.false)
