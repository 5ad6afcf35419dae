use Rattle.std.proofs.Common.{◌≡◌, ◌∙◌, ap, sym}
use Rattle.row_batons.proofs.Installing.{made, shorter}
use Rattle.row_batons.proofs.installs.install.Goals as goal

pub loop-key-preserved : goal.loop-key-preserved
loop-key-preserved c = (
  made c.loop-key.tables c.put_change.new.tables c.loop-key.keys.items c.pop.new.self.items c.loop-key.rows.items c.last_of-row.new.rows.items c.in-Some.key
      c.last_of-row.result c.in-Some.ensures.items c.last_of-row.ensures c.loop-key.invariant.1 c.in_ok-put_change.ensures ∙ c.loop-key.invariant.0,
  shorter c.loop-key.keys.items c.pop.new.self.items c.loop-key.rows.items c.last_of-row.new.rows.items c.in-Some.key c.last_of-row.result
      c.in-Some.ensures.items c.last_of-row.ensures c.loop-key.invariant.1,
)
