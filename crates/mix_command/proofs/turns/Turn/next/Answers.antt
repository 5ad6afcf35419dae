use Rattle.std.proofs.Common.{◌≡◌, ◌∙◌, ◌+◌, ◌≤◌, List, length, ap, subst, sym}
use Rattle.batch_core.specs.declared.answers.Answer.{Answer}
use Rattle.bench_command.specs.Tallies.{with_lines}
use Rattle.range_resv.specs.Engines.{batch_from}
use Rattle.range_rules.specs.declared.routines.TheConstants.{MOST_WORKS}
use Rattle.range_rules.specs.declared.routines.Work.{Work}
use Rattle.tpcc_sound.specs.Laws.{act}
use Rattle.mix_command.specs.Courses.{works_at}
use Rattle.mix_command.specs.Turns.{IsEarly, stage_of}
use Rattle.mix_command.proofs.Bounds.{behind-is, has-room, still-early}
use Rattle.mix_command.proofs.turns.Turn.next.Goals as goal

pub with-tally-requires : goal.with-tally-requires
with-tally-requires g c =
    let lines : c.as_slice.result.now ≡ (batch_from act c.args.config.now.rule c.args.self.mix c.in_ok-works.works.items).lines =
    c.as_slice.ensures ∙ ap (λ (a : Answer). a.lines) c.in_ok-mix.ensures.answer in
    rw lines (has-room c.args.config.now.rule (stage_of c.args.self) c.in_ok-works.works.items c.requires.early c.requires.batches
    c.in_ok-works.ensures.may.room)

pub returns-clause-behind : goal.returns-clause-behind
returns-clause-behind g c =
    let lines : c.as_slice.result.now ≡ (batch_from act c.args.config.now.rule c.args.self.mix c.in_ok-works.works.items).lines =
    c.as_slice.ensures ∙ ap (λ (a : Answer). a.lines) c.in_ok-mix.ensures.answer in
    behind-is c.args.config.now.rule (stage_of c.args.self) (works_at c.args.orders.now c.args.size (stage_of c.args.self)) c.in_ok-mix.mix
    c.draw_works.new.draws c.with-tally.result c.in_ok-works.works.items c.in_ok-works.ensures.works c.in_ok-works.ensures.past
    c.in_ok-mix.ensures.plan c.in_ok-mix.ensures.counts c.in_ok-mix.ensures.rows c.in_ok-mix.ensures.waiting
    (c.with-tally.ensures ∙ ap (with_lines c.args.self.tally) lines)

pub returns-clause-early : goal.returns-clause-early
returns-clause-early g c =
    let drawn = works_at c.args.orders.now c.args.size (stage_of c.args.self) in
    subst IsEarly (sym (returns-clause-behind g c))
    (still-early c.args.config.now.rule (stage_of c.args.self) drawn c.requires.early
    (subst (λ (works : List Work). length c.args.self.mix.carried + length works ≤ MOST_WORKS) c.in_ok-works.ensures.works c.in_ok-works.ensures.may.room))
