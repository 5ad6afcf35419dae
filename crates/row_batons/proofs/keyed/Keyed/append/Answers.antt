use Rattle.key_numbering.specs.Numbers.{with_keys}
use Rattle.row_batons.proofs.Keyings.{one_key}
use Rattle.row_batons.proofs.keyed.Keyed.append.Goals as goal

pub loop-key-preserved : goal.loop-key-preserved
loop-key-preserved c =
    one_key c.loop-key.self c.number_of.new.self (with_keys c.args.self.now c.args.keys.now) c.args.keys.now c.loop-key.key-index c.key-item.result
    c.loop-key.list.items c.push.new.self.items _ c.in_ok-number_of.field-0
    c.loop-key-test.true c.key-item.is c.in_ok-number_of.ensures.keys c.in_ok-number_of.ensures.number c.in_ok-push.ensures.items c.loop-key.invariant.0
    c.loop-key.invariant.1
