use Rattle.std.proofs.Common.{◌≡◌, ◌∙◌, ◌+◌, ◌<◌, length, subst}
use Rattle.proc_lang.specs.Catalogs.{run_of}
use Rattle.range_resv.specs.Engines.{Between, batch_from, list_from}
use Rattle.range_rules.specs.Batches.{answer_of}
use Rattle.range_rules.specs.Serials.{IsProgress}
use Rattle.tpcc_sound.specs.Laws.{act}
use Rattle.tpcc_more.proofs.Taking.{still-sound, taken-tpcc}
use Rattle.tpcc_more.proofs.mixes.Mix.run_batch.Goals as goal

pub invariant_of-result : goal.invariant_of-result
invariant_of-result g c =
    let b = c.self.inside.engine in
    let after = c.in_ok-engine.engine in
    let done = c.in_ok-engine.ensures in
    record {
      plan = done.plan ∙ c.self.invariant.plan;
      catalog = c.self.invariant.catalog;
      taken = taken-tpcc b.plan c.self.invariant.plan after.carried done.taken;
      sound = still-sound b after c.args.new.items c.in_ok-engine.answer c.self.invariant c.ready.ensures c.requires.new
          (c.batches_stay_sound.ensures b.rows (list_from b c.args.new.items) c.in_ok-engine.answer after.rows after.carried) done.serial;
    }

pub returns-clause-answer : goal.returns-clause-answer
returns-clause-answer g c = subst (λ (b : Between). c.in_ok-engine.answer ≡ answer_of (b.batches + 1)
    (batch_from act c.args.config.now.rule b c.args.new.items)) c.self.view_is c.in_ok-engine.ensures.answer

pub returns-clause-rows : goal.returns-clause-rows
returns-clause-rows g c = subst (λ (b : Between). c.in_ok-engine.engine.rows ≡ (batch_from act c.args.config.now.rule b c.args.new.items).rows)
    c.self.view_is c.in_ok-engine.ensures.rows

pub returns-clause-waiting : goal.returns-clause-waiting
returns-clause-waiting g c = subst (λ (b : Between). c.in_ok-engine.engine.carried ≡ (batch_from act c.args.config.now.rule b c.args.new.items).carried)
    c.self.view_is c.in_ok-engine.ensures.waiting

pub returns-clause-progress : goal.returns-clause-progress
returns-clause-progress g c = subst (λ (b : Between). 0 < length (list_from b c.args.new.items)
    → IsProgress (run_of b.plan) act b.rows (list_from b c.args.new.items) c.in_ok-engine.answer c.in_ok-engine.engine.carried)
    c.self.view_is c.in_ok-engine.ensures.progress
