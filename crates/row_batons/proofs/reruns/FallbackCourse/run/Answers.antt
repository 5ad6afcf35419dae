use Rattle.std.proofs.Common.{◌≡◌, ◌∙◌, ℕ, ap, sym, refl, arith, subst, ◌<◌, ◌≤◌, List, [], map, length, get_or}
use Rattle.std.proofs.lemmas.Result.{IfOk-weaker}
use Rattle.atomic_table.proofs.Lists.{at_index}
use Rattle.work_claim.specs.Rule.{times}
use Rattle.work_claim.proofs.Keeps.{times-contained}
use Rattle.batch_rules.specs.Batches.{late_fate, late_map}
use Rattle.proc_lang.specs.Catalogs.{run_of}
use Rattle.proc_lang.specs.Meaning.{is_done}
use Rattle.proc_exec.specs.declared.outcomes.Waiting.{Waiting}
use Rattle.proc_exec.specs.Limits.{touchable}
use Rattle.row_batons.specs.Fallbacks.{touches_in}
use Rattle.row_batons.specs.Windows.{laid, rows_of}
use Rattle.row_batons.proofs.Handed.{rows_handed, fate_is, rows_after, on_ok}
use Rattle.row_batons.proofs.reruns.FallbackCourse.run.Goals as goal

pub run_on-requires-clause-slots : goal.run_on-requires-clause-slots
run_on-requires-clause-slots c =
    let self = c.args.self.now in
    let lt : c.args.item < length self.touches.now = (let h = self.counted in let i = c.requires.item in omega arith) in
    let touched = c.list-touched.ensures in
    λ k d within. self.laid.within c.args.item (get_or c.list-touched.result.now k d) c.requires.item
    (subst (λ l. 1 ≤ times (get_or c.list-touched.result.now k d) l) touched (times-contained c.list-touched.result.now k d within))

pub run_on-requires-clause-handed : goal.run_on-requires-clause-handed
run_on-requires-clause-handed c =
    let self = c.args.self.now in
    let lt : c.args.item < length self.touches.now = (let h = self.counted in let i = c.requires.item in omega arith) in
    let touched = c.list-touched.ensures in
    rows_handed (run_of self.catalog.now) self.snapshot self.waiting.now self.keys.now (touches_in self.touches.now) self.laid c.args.item c.requires.item
    c.list-touched.result.now touched c.args.rows.now.items
    (c.requires.rows ∙ ap (map _) (sym touched))
    ∙ ap (λ d. rows_of (laid d self.keys.now c.list-touched.result.now c.args.rows.now.items) self.keys.now c.list-touched.result.now) (sym c.copy.ensures)

pub returns-clause-rows : goal.returns-clause-rows
returns-clause-rows c =
    let self = c.args.self.now in
    let w : Waiting = get_or self.waiting.now c.args.item c.index-self-item.result in
    let lt : c.args.item < length self.touches.now = (let h = self.counted in let i = c.requires.item in omega arith) in
    let touched = c.list-touched.ensures in
    on_ok c.run_on.result _ _ (λ is.
    rows_after (run_of self.catalog.now) self.snapshot self.waiting.now self.keys.now (touches_in self.touches.now) self.laid c.args.item c.requires.item
    c.list-touched.result.now touched c.args.rows.now.items
    (c.requires.rows ∙ ap (map _) (sym touched)) w (at_index self.waiting.now c.args.item c.index-self-item.result c.requires.item c.index-self-item.is
    ∙ ap mathlib.Core.Option.some c.index-self-item.is) c.run_on.new.rows.items
    (is ∙ ap (λ d. rows_of (late_map is_done (touchable w.declared) (run_of self.catalog.now w.request)
    (laid d self.keys.now c.list-touched.result.now c.args.rows.now.items)) self.keys.now c.list-touched.result.now) c.copy.ensures)
    ∙ ap (map _) touched)
    c.run_on.ensures.rows

pub returns-clause-gives : goal.returns-clause-gives
returns-clause-gives c =
    let self = c.args.self.now in
    let w : Waiting = get_or self.waiting.now c.args.item c.index-self-item.result in
    let lt : c.args.item < length self.touches.now = (let h = self.counted in let i = c.requires.item in omega arith) in
    let touched = c.list-touched.ensures in
    IfOk-weaker c.run_on.result _ _ (λ late is.
    fate_is (run_of self.catalog.now) self.snapshot self.waiting.now self.keys.now (touches_in self.touches.now) self.laid c.args.item c.requires.item
    c.list-touched.result.now touched c.args.rows.now.items
    (c.requires.rows ∙ ap (map _) (sym touched)) w (at_index self.waiting.now c.args.item c.index-self-item.result c.requires.item c.index-self-item.is
    ∙ ap mathlib.Core.Option.some c.index-self-item.is) late
    (is ∙ ap (λ d. late_fate (touchable w.declared) (run_of self.catalog.now w.request)
    (laid d self.keys.now c.list-touched.result.now c.args.rows.now.items)) c.copy.ensures))
    c.run_on.ensures.late

pub run_on-requires-clause-once : goal.run_on-requires-clause-once
run_on-requires-clause-once c = λ k. subst (λ l. times k l ≤ 1) (sym c.list-touched.ensures) (c.args.self.now.laid.once c.args.item k c.requires.item)

pub run_on-requires-clause-apart : goal.run_on-requires-clause-apart
run_on-requires-clause-apart c = c.args.self.now.laid.apart
