use Rattle.std.proofs.Common.{◌≡◌, ◌+◌, ◌*◌, [], drop, map}
use denote.Param.Weighed.{most}
use Rattle.serde_json.proofs.value.Value.TheLaws.{the_size}
use Rattle.serde_json.specs.View.{items_view}
use Rattle.proc_lang.specs.Syntax.{step_of}
use Rattle.cat_forms.specs.StepWalks.{steps_after}
use Rattle.cat_read.specs.Places.{path_of}
use Rattle.cat_read.proofs.walks.+walking.Given as goal

abbrev pub invariant-read_steps-loop-at : goal.invariant-read_steps-loop-at
invariant-read_steps-loop-at l = steps_after l.walk.tables.now (path_of l.walk.body.now) (path_of l.place) l.at l.seen (map step_of l.stmts.items)
    (items_view (drop l.at l.item-items)) ≡ steps_after l.walk.tables.now (path_of l.walk.body.now) (path_of l.place) 0 l.initial.seen []
    (items_view l.item-items)

abbrev pub decreases-read_stmt : goal.decreases-read_stmt
decreases-read_stmt l = 8 * the_size l.value.now

abbrev pub decreases-read_statement : goal.decreases-read_statement
decreases-read_statement l = 8 * most the_size l.items.now.items + 6

abbrev pub decreases-read_verb : goal.decreases-read_verb
decreases-read_verb l = 8 * most the_size l.operands.now + 5

abbrev pub decreases-read_if : goal.decreases-read_if
decreases-read_if l = 8 * most the_size l.operands.now + 4

abbrev pub decreases-read_each : goal.decreases-read_each
decreases-read_each l = 8 * most the_size l.operands.now + 4

abbrev pub decreases-read_block : goal.decreases-read_block
decreases-read_block l = 8 * the_size l.value.now + 1

abbrev pub decreases-read_steps : goal.decreases-read_steps
decreases-read_steps l = 8 * most the_size l.items.now.items + 7
