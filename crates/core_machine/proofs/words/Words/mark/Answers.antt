use Rattle.std.proofs.Common.{cond, Some, ◌∙◌, arith}
use Rattle.std.specs.BTreeMap.{is_at, get}
use Rattle.aria_base.proofs.Orders.{derived_cmp}
use Rattle.core_machine.proofs.Marking.{stays, falls_to}
use Rattle.core_machine.proofs.words.Words.mark.Goals as goal

pub returns-then-get-number : goal.returns-then-get-number
returns-then-get-number c = stays c.args.self.now c.args.key.now c.args.number (omega (arith, c.if-get-number.true, c.get.ensures))

pub returns : goal.returns
returns c = falls_to c.args.self.now (record { map = c.insert.new.self }) c.args.key.now c.args.number (omega (arith, c.if-get-number.false, c.get.ensures))
    (λ q. c.in_ok-insert.ensures.updates.0 q
    ∙ (λ j. cond (is_at (derived_cmp (c.in_ok-duplicate.ensures j)) q) (Some c.args.number) (get derived_cmp c.args.self.now.map q)))
