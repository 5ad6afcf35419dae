use Rattle.std.proofs.Common.{◌≡◌, ◌∙◌, sym, subst, ℕ}
use Rattle.std.specs.Prelude.{IfOk}
use Rattle.answer_text.specs.States.{state_text}
use Rattle.aria_base.specs.Orders.{Database}
use Rattle.nodes_command.proofs.States.{batches_now, level, rows_now}
use Rattle.nodes_command.proofs.bases.list_nodes.Goals as goal

pub tables-requires-clause-level : goal.tables-requires-clause-level
tables-requires-clause-level c = level c.args.nodes.now c.requires

pub returns : goal.returns
returns c =
    let n = c.args.nodes.now in
    let rows = c.in_ok-tables.ensures ∙ rows_now n c.requires in
    let batches = c.batches.ensures ∙ sym (batches_now n c.requires c.ready.ensures) in
    subst (λ (s : Database × ℕ). IfOk c.print_state.result (λ text. text.items ≡ state_text c.args.catalog.now.tables s.0 s.1))
    (λ i. (rows i, batches i)) c.print_state.ensures
