use Rattle.std.proofs.Common.{rules, ◌≡◌, ◌∙◌, ◌++◌, ◌-◌, sym, length, true, false, Some, None, arith}
use Rattle.nodes_command.specs.Batches.{answer_at}
use Rattle.nodes_command.proofs.States.{last_alone, last_answer, last_each, told_last}
use Rattle.nodes_command.proofs.batches.text_of.Goals as goal

pub unreachable-requires : goal.unreachable-requires
unreachable-requires c =
    let n = c.args.nodes.now in
    let some = last_answer n c.requires.done c.requires.some c.batches.result c.batches.ensures c.in_ok-answer.field-0 c.in_ok-answer.ensures.answer in
    absurd (let both : None ≡ Some (answer_at n (length n.world.started.items - 1)) = sym c.in_default.is ∙ some in cc)

pub returns-then-not-each : goal.returns-then-not-each
returns-then-not-each c =
    let n = c.args.nodes.now in
    let off : c.args.each ≡ false = grind (arith, c.if-not-each.true) in
    last_alone c.args.catalog.now c.args.each n c.in_ok-text.text.items c.in-Some.answer off c.in_ok-text.ensures
    (told_last n c.requires.done c.requires.some c.batches.result c.batches.ensures c.in_ok-answer.field-0 c.in_ok-answer.ensures.answer
    c.in-Some.answer c.in-Some.is)

pub returns : goal.returns
returns c =
    let n = c.args.nodes.now in
    let on : c.args.each ≡ true = grind (arith, c.if-not-each.false) in
    let grown : c.extend_from_slice.new.self.items ≡ c.in_ok-text.text.items ++ c.in_ok-list.list.items = search rules in
    grown ∙ last_each c.args.catalog.now c.args.each n c.in_ok-text.text.items c.in_ok-list.list.items c.in-Some.answer on c.in_ok-text.ensures
    (told_last n c.requires.done c.requires.some c.batches.result c.batches.ensures c.in_ok-answer.field-0 c.in_ok-answer.ensures.answer
    c.in-Some.answer c.in-Some.is) c.in_ok-list.ensures
