use Rattle.std.proofs.Common.{◌≡◌, ℕ, ◌-◌, ◌<◌, List, length, Some, sym, ap, ◌∙◌, subst, arith}
use Rattle.std.specs.Prelude.{slice_get}
use Rattle.std.proofs.lemmas.Option.{none-some}
use Rattle.node_answers.specs.Merges.{answer_in, AreShares}
use Rattle.node_seats.specs.declared.seats.Seat.{Seat}
use Rattle.part_nodes.proofs.Asking.{none_at_zero, none_yet, seat_past, whole_entries, are_shares, few_entries, some_answer, serial_answer}
use Rattle.part_nodes.proofs.Skipped.{world_ready}
use Rattle.part_nodes.proofs.nodes.Nodes.answer.Goals as goal

-- number 0, and a batch that some node has not completed
pub returns-then-batch-eq0-clause-answer : goal.returns-then-batch-eq0-clause-answer
returns-then-batch-eq0-clause-answer c = none_at_zero c.args.self.now.start.value c.args.self.now.world c.args.batch c.if-batch-eq0.true

pub returns-then-batch-eq0-clause-serial : goal.returns-then-batch-eq0-clause-serial
returns-then-batch-eq0-clause-serial c = λ x e. absurd (none-some x e)

pub returns-then-not-is_past-clause-answer : goal.returns-then-not-is_past-clause-answer
returns-then-not-is_past-clause-answer c =
    let n = c.args.self.now in
    none_yet n.start.value n.world (world_ready _ c.requires.ready) c.args.batch (sym c.if-not-is_past.ensures)

pub returns-then-not-is_past-clause-serial : goal.returns-then-not-is_past-clause-serial
returns-then-not-is_past-clause-serial c = λ x e. absurd (none-some x e)

-- one that all have completed
pub merged-requires-clause-some : goal.merged-requires-clause-some
merged-requires-clause-some c =
    let many = c.requires.ready.keeps.many_seats in
    let some = c.requires.ready.keeps.some_node in
    subst (λ (l : List Seat). 0 < length l) (sym c.deref.ensures.value) (omega arith)

pub merged-requires-clause-past : goal.merged-requires-clause-past
merged-requires-clause-past c =
    let n = c.args.self.now in
    subst (λ (l : List Seat). (i : ℕ) (s : Seat) → slice_get l i ≡ Some s → c.args.batch - 1 < length s.entries.items) (sym c.deref.ensures.value)
    (seat_past n.start.value n.world (world_ready _ c.requires.ready) c.args.batch c.if-batch-eq0.false (sym c.if-not-is_past.ensures))

pub answer_of-requires : goal.answer_of-requires
answer_of-requires c =
    let n = c.args.self.now in
    let off = c.if-batch-eq0.false in
    let past = sym c.if-not-is_past.ensures in
    let whole = whole_entries n.start.value n.world (world_ready _ c.requires.ready) c.args.batch off past in
    let same = c.in_ok-entries.ensures whole (subst (λ (l : List Seat). AreShares l (c.args.batch - 1) whole) (sym c.deref.ensures.value)
    (are_shares n.start.value n.world (world_ready _ c.requires.ready) c.args.batch off past)) in
    let few = few_entries n.start.value n.world (world_ready _ c.requires.ready) c.args.batch off past c.in_ok-entries.entries.items same in
    let long = ap length c.deref-2.ensures.value in
    omega arith

pub returns-clause-answer : goal.returns-clause-answer
returns-clause-answer c =
    let n = c.args.self.now in
    let off = c.if-batch-eq0.false in
    let past = sym c.if-not-is_past.ensures in
    let whole = whole_entries n.start.value n.world (world_ready _ c.requires.ready) c.args.batch off past in
    let same = c.in_ok-entries.ensures whole (subst (λ (l : List Seat). AreShares l (c.args.batch - 1) whole) (sym c.deref.ensures.value)
    (are_shares n.start.value n.world (world_ready _ c.requires.ready) c.args.batch off past)) in
    some_answer n.start.value n.world (world_ready _ c.requires.ready) c.args.batch off past c.in_ok-entries.entries.items same c.in_ok-answer.answer
    (c.in_ok-answer.ensures ∙ ap (answer_in c.args.batch) c.deref-2.ensures.value)

pub returns-clause-serial : goal.returns-clause-serial
returns-clause-serial c =
    let n = c.args.self.now in
    let off = c.if-batch-eq0.false in
    let past = sym c.if-not-is_past.ensures in
    let whole = whole_entries n.start.value n.world (world_ready _ c.requires.ready) c.args.batch off past in
    let same = c.in_ok-entries.ensures whole (subst (λ (l : List Seat). AreShares l (c.args.batch - 1) whole) (sym c.deref.ensures.value)
    (are_shares n.start.value n.world (world_ready _ c.requires.ready) c.args.batch off past)) in
    serial_answer n.start.value n.world (world_ready _ c.requires.ready) c.args.batch off past c.in_ok-entries.entries.items same c.in_ok-answer.answer
    (c.in_ok-answer.ensures ∙ ap (answer_in c.args.batch) c.deref-2.ensures.value)
