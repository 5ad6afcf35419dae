use Rattle.std.proofs.Common.{rules, ◌≡◌, sym, ap, subst, ◌∙◌, length, map, ◌≤◌, []}
use Rattle.std.specs.FinMap as fin
use Rattle.std.proofs.lemmas.List.{length-map}
use Rattle.std.proofs.lemmas.Simd.{map-map}
use Rattle.proc_lang.specs.Catalogs.{run_of}
use Rattle.range_rules.specs.declared.routines.Ran.{Ran}
use Rattle.range_rules.specs.declared.routines.TheConstants.{MOST_WORKS}
use Rattle.batch_rules.specs.Batches.{judged}
use Rattle.range_rules.specs.Batches.{depends}
use Rattle.range_rules.specs.Courses.{ran_on}
use Rattle.range_marks.proofs.Judging.{verdicts-through}
use Rattle.range_runs.specs.Indexes.{followed_all}
use Rattle.range_resv.specs.Lists.{finishing_among}
use Rattle.range_resv.proofs.Apart.{few-touched, are-apart}
use Rattle.range_resv.proofs.Settling.{followed-is, rows-are}
use Rattle.range_resv.proofs.commits.commit.Goals as goal

pub judge-requires-clause-list : goal.judge-requires-clause-list
judge-requires-clause-list g c κs within =
    let start = c.args.tables in
    let act = g.R.Routine.act c.args.routines.now in
    let rans : c.in_ok-rans.rans.items ≡ map (ran_on (run_of c.args.catalog.now) act start) c.args.list.now = search rules in
    subst (λ n. n ≤ MOST_WORKS) (sym (ap length (c.deref.ensures.value ∙ rans) ∙ length-map c.args.list.now (ran_on (run_of c.args.catalog.now) act start)))
    c.requires.list

pub judge-requires-clause-few : goal.judge-requires-clause-few
judge-requires-clause-few g c κs within =
    let act = g.R.Routine.act c.args.routines.now in
    let rans : c.in_ok-rans.rans.items ≡ map (ran_on (run_of c.args.catalog.now) act c.args.tables) c.args.list.now = search rules in
    few-touched c.args.catalog.now c.requires.catalog (g.R.Routine.taken c.args.routines.now) act c.args.tables c.args.list.now c.requires.well _
    (c.deref.ensures.value ∙ rans)

pub judge-requires-clause-apart : goal.judge-requires-clause-apart
judge-requires-clause-apart g c κs within =
    let act = g.R.Routine.act c.args.routines.now in
    let rans : c.in_ok-rans.rans.items ≡ map (ran_on (run_of c.args.catalog.now) act c.args.tables) c.args.list.now = search rules in
    are-apart c.args.catalog.now c.requires.catalog (g.R.Routine.taken c.args.routines.now) act c.args.tables c.args.list.now c.requires.well _
    (c.deref.ensures.value ∙ rans)

pub returns : goal.returns
returns g c =
    let tree = run_of c.args.catalog.now in
    let act = g.R.Routine.act c.args.routines.now in
    let start = c.args.tables in
    let rule = c.args.config.now.rule in
    let list = c.args.list.now in
    let rans : c.in_ok-rans.rans.items ≡ map (ran_on tree act start) list = search rules in
    let verdicts = c.in_ok-verdicts.ensures ∙ ap (λ rs. map (λ d. d.verdict) (judged depends rule [] rs)) (c.deref.ensures.value ∙ rans)
    ∙ sym (verdicts-through (ran_on tree act start) depends rule list) in
    let changes = c.in_ok-runs.ensures.changes ∙ ap (map (λ (r : Ran). r.writes)) rans ∙ map-map (λ (r : Ran). r.writes) (ran_on tree act start) list in
    let ends = c.in_ok-runs.ensures.ends ∙ ap (map (λ (r : Ran). r.end)) rans ∙ map-map (λ (r : Ran). r.end) (ran_on tree act start) list in
    let tables = c.in_ok-tables.ensures in
    let index = c.in_ok-index.ensures
    ∙ (λ i. followed_all c.args.index (finishing_among (c.deref-2.ensures.value i) ((c.deref-3.ensures.value ∙ sym c.deref-4.ensures.value) i))) in
    record {
      rows = tables ∙ rows-are tree act rule start list c.deref-4.result.now (c.deref-4.ensures.value ∙ verdicts) c.in_ok-runs.runs.changes.items changes;
      index = λ k. ap (λ x. fin.contains_key x k) index
          ∙ followed-is c.args.index start c.in_ok-runs.runs.changes.items c.deref-4.result.now c.requires.index k
          ∙ sym (ap (λ db. fin.contains_key db k) tables);
      ends = ends;
      verdicts = verdicts;
    }
