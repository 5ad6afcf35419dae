use Rattle.std.proofs.Common.{refl, sym, ap, ◌∙◌, arith, ◌++◌, [], map, length, ◌≤◌, ◌-◌}
use Rattle.std.specs.Prelude.{slice_set}
use Rattle.std.proofs.lemmas.List.{append-nil, length-set}
use Rattle.node_batch.specs.Letters.{message_of, sets_of, holders_of}
use Rattle.node_batch.specs.Mails.{leasts_mails}
use Rattle.node_batch.specs.Firsts.{holders_behind}
use Rattle.node_batch.proofs.Kept.{shows_marks, no_news, all_news, many_parts}
use Rattle.node_batch.proofs.Noted.{as_many}
use Rattle.node_batch.proofs.node_batches.NodeBatch.take_marks.Goals as goal

pub returns-then-self-len-clause-shows : goal.returns-then-self-len-clause-shows
returns-then-self-len-clause-shows c = λ plan rule same desk m shows is_tid e none.
    let many = many_parts plan rule same desk _ _ _ _ _ _ _ _ _ shows in
    let high = c.requires.high in
    let within : c.args.tid ≤ length c.args.self.now.list.items = omega arith in
    let long = c.len.ensures ∙ c.args.self.now.parts.ok.0 in
    let less = c.if-self-len.true in (
      shows_marks plan rule same desk _ _ _ _ _ _ _ _ _ shows m c.args.tid c.requires.low within is_tid
          (sets_of c.args.part) e none c.args.part refl _ _ refl refl,
      sym (ap (λ l. map message_of c.args.out.now.items ++ l)
          (no_news plan rule same desk _ _ _ _ _ _ _ _ _ shows m c.args.tid c.requires.low within is_tid (sets_of c.args.part) e none (omega arith))
          ∙ append-nil _),
    )

pub push_leasts-requires-clause-few : goal.push_leasts-requires-clause-few
push_leasts-requires-clause-few c =
    let few = c.requires.few in
    let same = ap length c.deref-2.ensures.value ∙ as_many c.deref.result.now c.in_ok-least.least.items c.in_ok-least.ensures
    ∙ ap length c.deref.ensures.value ∙ length-set c.args.self.now.parts.items (c.args.tid - 1) c.args.part in
    omega arith

pub returns-clause-shows : goal.returns-clause-shows
returns-clause-shows c = λ plan rule same desk m shows is_tid e none.
    let many = many_parts plan rule same desk _ _ _ _ _ _ _ _ _ shows in
    let high = c.requires.high in
    let within : c.args.tid ≤ length c.args.self.now.list.items = omega arith in
    let long = c.len.ensures ∙ c.args.self.now.parts.ok.0 in
    let more = c.if-self-len.false in
    let left = c.requires.left in
    let after = slice_set c.args.self.now.parts.items (c.args.tid - 1) c.args.part in
    let shown = shows_marks plan rule same desk _ _ _ _ _ _ _ _ _ shows m c.args.tid c.requires.low within is_tid
    (sets_of c.args.part) e none c.args.part refl after _ refl refl in (
      shown,
      c.in_ok-push_leasts.ensures
          ∙ ap (λ l. map message_of c.args.out.now.items ++ leasts_mails c.args.self.now.site 0 l) (ap (map holders_of) c.deref-2.ensures.value
          ∙ c.in_ok-least.ensures ∙ ap (λ l. holders_behind [] (map sets_of l)) c.deref.ensures.value)
          ∙ ap (λ l. map message_of c.args.out.now.items ++ l)
          (all_news plan rule same desk _ _ _ _ _ _ _ _ _ shows m c.args.tid c.requires.low within is_tid (sets_of c.args.part) e none
          (omega arith) left after shown.parts_are),
    )
