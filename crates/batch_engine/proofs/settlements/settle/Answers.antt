use Rattle.std.proofs.Common.{rules, ◌≡◌, sym, ap, subst, ◌∙◌, length, map, arith}
use Rattle.std.proofs.lemmas.List.{length-map}
use Rattle.std.proofs.lemmas.Simd.{map-map}
use Rattle.batch_core.specs.declared.answers.Line.{Line}
use Rattle.proc_exec.specs.Lates.{fate_of}
use Rattle.proc_exec.specs.Outcomes.{outcome_at}
use Rattle.proc_lang.specs.Catalogs.{run_of}
use Rattle.reorder.specs.Orders.{ordered_tids}
use Rattle.batch_core.specs.Steps.{number_in}
use Rattle.batch_engine.specs.Answers.{lines_in, is_final}
use Rattle.batch_engine.proofs.Settling.{few_among, length-lines}
use Rattle.batch_engine.proofs.Settling as settling
use Rattle.std.specs.List.{All}
use Rattle.dep_rules.specs.Sheets.{IsTid}
use Rattle.fallback_locks.specs.Numbers.{StandFor}
use Rattle.install_phase.specs.Installs.{after_changes}
use Rattle.batch_engine.specs.Lists.{sets_in, tids_among, waiting_among, counting}
use Rattle.batch_engine.proofs.Committing.{rows-are}
use Rattle.batch_engine.proofs.LateNumbers.{stands, tids_are}
use Rattle.batch_engine.proofs.settlements.settle.Goals as goal

pub run_late-requires-clause-waiting : goal.run_late-requires-clause-waiting
run_late-requires-clause-waiting g c κs within =
    let size : c.len-size.result ≡ length c.args.judgement.verdicts.items = search rules in
    let few = few_among c.args.list.items (map sets_in c.args.judgement.outcomes.items) c.deref-3.result.now in
    omega (arith, ap length c.in_ok-runs.ensures.waiting, few, ap length c.deref-3.ensures.value, size)

pub order_of-requires-clause-each : goal.order_of-requires-clause-each
order_of-requires-clause-each g c =
    let ends = c.in_ok-runs.runs.ends.items in
    let many : length ends ≡ length c.args.list.items = ap length c.in_ok-runs.ensures.ends ∙ length-map c.args.judgement.outcomes.items (λ o. o.end)
    ∙ c.requires.outcomes in
    let even : length c.deref-7.result.now ≡ length ends = ap length c.deref-7.ensures.value ∙ c.requires.verdicts ∙ sym many in
    ap length c.deref-10.ensures.value ∙ ap length c.in_ok-lines.ensures
    ∙ length-lines c.deref-6.result.now ends c.deref-7.result.now (map fate_of c.in_ok-after.after.lates.items) even
    ∙ ap length (c.deref-7.ensures.value ∙ sym c.deref-9.ensures.value)

pub returns : goal.returns
returns g c judged =
    let tree = run_of c.args.catalog.now in
    let rule = c.args.config.now.rule in
    let percent = c.args.config.now.fallback in
    let list = c.args.list.items in
    let outcomes = c.args.judgement.outcomes.items in
    let ends = c.in_ok-runs.runs.ends.items in
    let verdicts = c.args.judgement.verdicts.items in
    let fates = map fate_of c.in_ok-after.after.lates.items in
    let start = c.args.tables in
    let sets_are = ap (map sets_in) judged.outcomes ∙ map-map sets_in (outcome_at tree start) list in
    let changes = map (λ o. o.writes) outcomes in
    let changes_are = ap (map (λ o. o.writes)) judged.outcomes ∙ map-map (λ o. o.writes) (outcome_at tree start) list in
    let counted : c.in_ok-runs.runs.changes.items ≡ counting changes verdicts = c.in_ok-runs.ensures.changes
    ∙ ap (counting changes) c.deref-3.ensures.value in
    let ends_are = c.in_ok-runs.ensures.ends ∙ ap (map (λ o. o.end)) judged.outcomes ∙ map-map (λ o. o.end) (outcome_at tree start) list in
    let waiting = c.in_ok-runs.ensures.waiting
    ∙ settling.waiting-is tree rule start percent list (map sets_in outcomes) c.deref-3.result.now sets_are (c.deref-3.ensures.value ∙ judged.verdicts) in
    let size : c.len-size.result ≡ length verdicts = search rules in
    let rows = c.in_ok-installed.ensures ∙ (λ i. after_changes 1 start (counted i) (c.deref-4.ensures.value i))
    ∙ rows-are tree rule start list changes verdicts changes_are judged.verdicts in
    let late = settling.late-is tree rule start percent list c.in_ok-installed.installed c.in_ok-after.after.tables c.in_ok-runs.runs.waiting.items
    c.len-size.result fates
    rows waiting (size ∙ ap length judged.verdicts ∙ length-map _ (λ d. d.verdict)) c.in_ok-after.ensures.late in
    let listed : c.deref.result.now ≡ list = c.deref.ensures.value in
    let numbers = c.in_ok-numbers.ensures ∙ ap (map (λ q. q.q)) listed in
    let lines : c.in_ok-lines.lines.items ≡ _ = c.in_ok-lines.ensures
    ∙ (λ i. lines_in ((c.deref-6.ensures.value ∙ numbers) i) ends (c.deref-7.ensures.value i) fates)
    ∙ settling.lines-are tree rule start percent list ends verdicts fates ends_are judged.verdicts late.1 in
    let order : c.in_ok-order.order.items ≡ _ = c.in_ok-order.ensures
    ∙ (λ i. map (number_in ((c.deref-8.ensures.value ∙ numbers) i))
    (ordered_tids ((c.deref-9.ensures.value ∙ judged.verdicts) i) (map (λ (line : Line). is_final line.reply) ((c.deref-10.ensures.value ∙ lines) i))))
    ∙ settling.order-is tree rule start percent list in
    record {
      rows = late.0;
      carried = c.in_ok-after.ensures.carried
          ∙ settling.carried-is tree rule start percent list fates c.in_ok-runs.runs.waiting.items waiting late.1;
      lines = c.from_vec.ensures ∙ lines;
      order = c.from_vec-2.ensures ∙ order;
    }

pub run_late-requires-clause-tids : goal.run_late-requires-clause-tids
run_late-requires-clause-tids g c κs within =
    let tids : c.deref-5.result.now ≡ tids_among 1 c.args.judgement.verdicts.items = c.deref-5.ensures.value ∙ c.in_ok-tids.ensures
    ∙ ap (tids_among 1) c.deref-2.ensures.value in
    subst (All (λ tid. IsTid c.args.numbered.now tid)) (sym tids)
    (tids_are c.args.numbered.now (map sets_in c.args.judgement.outcomes.items) c.args.judgement.verdicts.items (c.requires.verdicts
    ∙ sym (length-map c.args.judgement.outcomes.items sets_in ∙ c.requires.outcomes)) c.requires.numbered)

pub run_late-requires-clause-numbered : goal.run_late-requires-clause-numbered
run_late-requires-clause-numbered g c κs within =
    let tids : c.deref-5.result.now ≡ tids_among 1 c.args.judgement.verdicts.items = c.deref-5.ensures.value ∙ c.in_ok-tids.ensures
    ∙ ap (tids_among 1) c.deref-2.ensures.value in
    let sets = map sets_in c.args.judgement.outcomes.items in
    let long = length-map c.args.judgement.outcomes.items sets_in ∙ c.requires.outcomes in
    let waiting : c.in_ok-runs.runs.waiting.items ≡ waiting_among c.args.list.items sets c.args.judgement.verdicts.items = c.in_ok-runs.ensures.waiting
    ∙ ap (waiting_among c.args.list.items sets) c.deref-3.ensures.value in
    subst (λ ts. StandFor c.args.numbered.now ts c.in_ok-runs.runs.waiting.items) (sym tids)
    (subst (StandFor c.args.numbered.now (tids_among 1 c.args.judgement.verdicts.items)) (sym waiting)
    (stands c.args.numbered.now c.args.list.items sets c.args.judgement.verdicts.items long c.requires.verdicts c.requires.numbered))
