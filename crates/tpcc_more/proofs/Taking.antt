-- What a mix's catalogue takes is what that of order entry takes.
use Rattle.std.proofs.Common.{◌≡◌, sym, subst, true, ℕ, ◌+◌, List, [], ◌∷◌}
use Rattle.std.specs.List.{All}
use Rattle.std.proofs.lemmas.List.Elements.{All-nil, All-cons, All-head, All-tail, All-append}
use Rattle.aria_base.specs.Schemas.{IsConsistent}
use Rattle.batch_core.specs.declared.answers.Answer.{Answer}
use Rattle.cat_builtin.specs.Tpcc.{tpcc}
use Rattle.proc_lang.specs.Catalogs.{Plan, run_of}
use Rattle.range_resv.specs.Engines.{Between, IsReady, list_from}
use Rattle.range_rules.specs.Batches.{numbered}
use Rattle.range_rules.specs.Serials.{IsSerialAnswer}
use Rattle.range_rules.specs.declared.routines.NumberedWork.{NumberedWork}
use Rattle.range_rules.specs.declared.routines.Work.{Work}
use Rattle.range_suits.specs.Suits.{is_taken}
use Rattle.tpcc_routines.specs.Routines.{is_more}
use Rattle.tpcc_routines.specs.Sound.{IsSound}
use Rattle.tpcc_sound.specs.Laws.{act, StaysSound}
use Rattle.tpcc_more.specs.Mixes.{IsMix}

module _ (plan : Plan) (is : plan ≡ tpcc) where
  -- and back
  pub taken-tpcc : (works : List NumberedWork) → All (λ w. is_taken plan is_more w.work ≡ true) works → All (λ w. is_taken tpcc is_more w.work ≡ true) works
  taken-tpcc works all = subst (λ (p : Plan). All (λ w. is_taken p is_more w.work ≡ true) works) is all

-- ---- the next batch

numbered-taken : (n : ℕ) (works : List Work) → All (λ work. is_taken tpcc is_more work ≡ true) works
    → All (λ w. is_taken tpcc is_more w.work ≡ true) (numbered n works)
numbered-taken n [] all = All-nil (λ w. is_taken tpcc is_more w.work ≡ true)
numbered-taken n (work ∷ works) all =
    All-cons (λ w. is_taken tpcc is_more w.work ≡ true) (record { q = n + 1; work = work }) (numbered (n + 1) works)
    (All-head (λ work. is_taken tpcc is_more work ≡ true) work works all)
    (numbered-taken (n + 1) works (All-tail (λ work. is_taken tpcc is_more work ≡ true) work works all))

-- behind a batch of works that are taken the rows are sound
pub still-sound : (b after : Between) (new : List Work) (answer : Answer) → IsMix b → IsReady b.plan b.rows b.carried b.batches b.requests
    → All (λ work. is_taken tpcc is_more work ≡ true) new → StaysSound b.rows (list_from b new) answer after.rows after.carried
    → IsSerialAnswer (run_of b.plan) act b.rows (list_from b new) answer after.rows after.carried → IsSound after.rows
still-sound b after new answer mix ready taken law serial =
    law mix.catalog
    (All-append (λ w. is_taken tpcc is_more w.work ≡ true) b.carried (numbered b.requests new) mix.taken (numbered-taken b.requests new taken))
    (subst (λ (p : Plan). IsConsistent p.tables b.rows) mix.plan ready.consistent) mix.sound
    (subst (λ (p : Plan). IsSerialAnswer (run_of p) act b.rows (list_from b new) answer after.rows after.carried) mix.plan serial)
