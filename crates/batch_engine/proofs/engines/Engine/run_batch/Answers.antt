use Rattle.std.proofs.Common.{rules, ◌≡◌, ap, subst, ◌∙◌, length}
use Rattle.proc_lang.specs.Catalogs.{IsCatalog}
use Rattle.batch_engine.proofs.Batching.{many-verdicts, many-outcomes, few-listed, done, ready-is, state-is, answer-is, serial-is, progress-is}
use Rattle.batch_engine.proofs.engines.Engine.run_batch.Goals as goal

pub judge-requires-clause-list : goal.judge-requires-clause-list
judge-requires-clause-list g c κs within =
    few-listed c.self.view_is c.args.config.now c.args.new.items c.in_ok-list.ensures.list c.into_vec.ensures c.deref.ensures.value c.requires.room

pub settle-requires-clause-verdicts : goal.settle-requires-clause-verdicts
settle-requires-clause-verdicts g c κs within = many-verdicts _ _ _ _ _ c.in_ok-last.ensures.judged ∙ ap length c.deref.ensures.value

pub settle-requires-clause-outcomes : goal.settle-requires-clause-outcomes
settle-requires-clause-outcomes g c κs within = many-outcomes _ _ _ _ _ c.in_ok-last.ensures.judged ∙ ap length c.deref.ensures.value

pub invariant_of-engine : goal.invariant_of-engine
invariant_of-engine g c =
    let config = c.args.config.now in
    let calls = c.args.new.items in
    let s = c.in_ok-settled.settled in
    let count : c.len.result ≡ length calls = search rules in
    let all = done c.self.view_is config calls c.in_ok-last.judgement s c.in_ok-list.ensures.list c.into_vec.ensures c.deref.ensures.value
    c.in_ok-last.ensures.judged c.in_ok-settled.ensures in
    ready-is c.self.view_is config calls s all c.from_vec.ensures count
    (subst IsCatalog c.catalog.view_is c.catalog.invariant) c.self.invariant c.requires.fit c.requires.room c.requires.batches c.requires.requests

pub returns-clause-state : goal.returns-clause-state
returns-clause-state g c =
    let config = c.args.config.now in
    let calls = c.args.new.items in
    let s = c.in_ok-settled.settled in
    let count : c.len.result ≡ length calls = search rules in
    let all = done c.self.view_is config calls c.in_ok-last.judgement s c.in_ok-list.ensures.list c.into_vec.ensures c.deref.ensures.value
    c.in_ok-last.ensures.judged c.in_ok-settled.ensures in
    state-is c.self.view_is config calls s all c.from_vec.ensures count

pub returns-clause-answer : goal.returns-clause-answer
returns-clause-answer g c =
    let config = c.args.config.now in
    let calls = c.args.new.items in
    let s = c.in_ok-settled.settled in
    let all = done c.self.view_is config calls c.in_ok-last.judgement s c.in_ok-list.ensures.list c.into_vec.ensures c.deref.ensures.value
    c.in_ok-last.ensures.judged c.in_ok-settled.ensures in
    answer-is c.self.view_is config calls s all

pub returns-clause-serial : goal.returns-clause-serial
returns-clause-serial g c =
    let config = c.args.config.now in
    let calls = c.args.new.items in
    let s = c.in_ok-settled.settled in
    let count : c.len.result ≡ length calls = search rules in
    let all = done c.self.view_is config calls c.in_ok-last.judgement s c.in_ok-list.ensures.list c.into_vec.ensures c.deref.ensures.value
    c.in_ok-last.ensures.judged c.in_ok-settled.ensures in
    serial-is c.self.view_is config calls s all c.from_vec.ensures count c.self.invariant.numbered

pub returns-clause-progress : goal.returns-clause-progress
returns-clause-progress g c =
    let config = c.args.config.now in
    let calls = c.args.new.items in
    let s = c.in_ok-settled.settled in
    let count : c.len.result ≡ length calls = search rules in
    let all = done c.self.view_is config calls c.in_ok-last.judgement s c.in_ok-list.ensures.list c.into_vec.ensures c.deref.ensures.value
    c.in_ok-last.ensures.judged c.in_ok-settled.ensures in
    progress-is c.self.view_is config calls s all c.from_vec.ensures count
