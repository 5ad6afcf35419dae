use Rattle.std.proofs.Common.{◌∙◌, ◌++◌, ◌∷◌, [], ap, map}
use Rattle.std.specs.FinMap as fin
use Rattle.key_numbering.specs.Numbers.{number_in, with_keys}
use Rattle.row_batons.specs.Numbers.{with_waiting}
use Rattle.row_batons.proofs.Keyings.{one_request}
use Rattle.row_batons.proofs.keyed.numbers_of.Goals as goal

pub loop-one-preserved : goal.loop-one-preserved
loop-one-preserved c =
    one_request c.loop-one.keyed c.add.new.self c.add-in-loop-one.new.self (with_waiting fin.empty c.args.waiting.now) c.args.waiting.now c.loop-one.one-index
    c.one-item.result c.loop-one.reads c.add.new.lists c.loop-one.writes c.add-in-loop-one.new.lists
    c.loop-one-test.true c.one-item.is
    (c.in_ok-add.ensures.keys ∙ ap (with_keys c.loop-one.keyed) c.as_slice.ensures)
    (c.in_ok-add-2.ensures.keys ∙ ap (with_keys c.add.new.self) c.as_slice-in-loop-one.ensures)
    (c.in_ok-add.ensures.list ∙ ap (λ ks. c.loop-one.reads ++ map (number_in (with_keys c.loop-one.keyed ks)) ks ∷ []) c.as_slice.ensures)
    (c.in_ok-add-2.ensures.list ∙ ap (λ ks. c.loop-one.writes ++ map (number_in (with_keys c.add.new.self ks)) ks ∷ []) c.as_slice-in-loop-one.ensures)
    c.loop-one.invariant.0 c.loop-one.invariant.1 c.loop-one.invariant.2
