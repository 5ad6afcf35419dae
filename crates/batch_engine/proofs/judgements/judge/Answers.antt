use Rattle.std.proofs.Common.{rules, ◌≡◌, sym, ap, subst, ◌∙◌, map, ◌≤◌, List}
use Rattle.std.specs.List.{All}
use Rattle.std.proofs.lemmas.Simd.{map-map}
use Rattle.batch_rules.specs.Batches.{reads_at, rows_at}
use Rattle.batch_rules.specs.Touches.{keys_of}
use Rattle.dep_rules.specs.Decisions.{reads_of, writes_of}
use Rattle.dep_rules.specs.declared.sets.Sets.{Sets}
use Rattle.key_numbering.specs.Numbers.{touch_count}
use Rattle.proc_exec.specs.Outcomes.{outcome_at}
use Rattle.proc_lang.specs.Catalogs.{run_of}
use Rattle.proc_lang.specs.Meaning.{is_done}
use Rattle.proc_lang.specs.declared.limits.TheConstants.{MOST_ACCESSES}
use Rattle.batch_engine.specs.Lasts.{marks_of}
use Rattle.batch_engine.specs.Lists.{sets_in}
use Rattle.touch_numbers.specs.Touchings.{sets_of}
use Rattle.batch_engine.specs.Marks.{MarksSets, NumbersKeys}
use Rattle.batch_engine.proofs.Committing.{touched-few, marks-through}
use Rattle.batch_engine.proofs.Judging.{verdicts-are}
use Rattle.batch_engine.proofs.judgements.judge.Goals as goal

pub mark-requires-clause-touched : goal.mark-requires-clause-touched
mark-requires-clause-touched g c κs within =
    let tree = run_of c.args.catalog.now in
    let start = c.args.tables.now in
    let list = c.args.list.now in
    let outcomes : c.in_ok-outcomes.outcomes.items ≡ map (outcome_at tree start) list = search rules in
    let sets = ap (map sets_of) c.deref-2.ensures.value ∙ c.in_ok-touched.ensures ∙ ap (map sets_in) (c.deref.ensures.value ∙ outcomes)
    ∙ map-map sets_in (outcome_at tree start) list in
    subst (All (λ (s : Sets). touch_count s ≤ MOST_ACCESSES)) (sym sets)
    (touched-few c.args.catalog.now start list (λ request. c.touches_few.ensures c.args.catalog.now request start))

pub returns-clause-marked : goal.returns-clause-marked
returns-clause-marked g c =
    let tree = run_of c.args.catalog.now in
    let start = c.args.tables.now in
    let list = c.args.list.now in
    let outcomes : c.in_ok-outcomes.outcomes.items ≡ map (outcome_at tree start) list = search rules in
    let sets = ap (map sets_of) c.deref-2.ensures.value ∙ c.in_ok-touched.ensures ∙ ap (map sets_in) (c.deref.ensures.value ∙ outcomes)
    ∙ map-map sets_in (outcome_at tree start) list in
    marks-through reads_of writes_of (λ q. sets_in (outcome_at tree start q)) list (marks_of c.in_ok-last.last)
    (subst (λ (l : List Sets). MarksSets reads_of writes_of l (marks_of c.in_ok-last.last)) sets c.in_ok-last.ensures.marks)

pub returns-clause-numbered : goal.returns-clause-numbered
returns-clause-numbered g c = subst (λ (l : List Sets). NumbersKeys reads_of writes_of l c.in_ok-last.last.numbered)
    (ap (map sets_of) c.deref-2.ensures.value ∙ c.in_ok-touched.ensures ∙ ap (map sets_in) c.deref.ensures.value) c.in_ok-last.ensures.marks.numbered

pub returns-clause-judged : goal.returns-clause-judged
returns-clause-judged g c =
    let tree = run_of c.args.catalog.now in
    let start = c.args.tables.now in
    let rule = c.args.config.now.rule in
    let list = c.args.list.now in
    let outcomes : c.in_ok-outcomes.outcomes.items ≡ map (outcome_at tree start) list = search rules in
    let sets = ap (map sets_of) c.deref-2.ensures.value ∙ c.in_ok-touched.ensures ∙ ap (map sets_in) (c.deref.ensures.value ∙ outcomes)
    ∙ map-map sets_in (outcome_at tree start) list in
    let marked = marks-through reads_of writes_of (λ q. sets_in (outcome_at tree start q)) list (marks_of c.in_ok-last.last)
    (subst (λ (l : List Sets). MarksSets reads_of writes_of l (marks_of c.in_ok-last.last)) sets c.in_ok-last.ensures.marks) in
    let verdicts = c.in_ok-verdicts.ensures
    ∙ verdicts-are (reads_at is_done tree start) (λ q. keys_of (rows_at is_done tree start q)) list c.in_ok-last.last.numbered marked.numbered rule in
    record {
      outcomes = outcomes;
      verdicts = verdicts;
    }
