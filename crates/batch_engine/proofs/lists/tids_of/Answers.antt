use Rattle.std.proofs.Common.{◌≡◌, suc, drop, ap, sym, ◌∙◌, ◌+◌, ◌++◌, ◌∷◌, [], false, arith, append_assoc}
use Rattle.std.specs.Prelude.{slice_index_or}
use Rattle.std.proofs.Math.Seq.{drop-cons}
use Rattle.batch_rules.specs.declared.verdicts.Verdict.TheVariants.{Finish}
use Rattle.batch_engine.specs.Lists.{tids_among}
use Rattle.batch_engine.proofs.LateNumbers.{tids_more}
use Rattle.batch_engine.proofs.lists.tids_of.Goals as goal

pub loop-verdict-preserved : goal.loop-verdict-preserved
loop-verdict-preserved c =
    let v = slice_index_or c.args.verdicts.now c.loop-verdict.verdict-index (Finish false) in
    let tid = c.loop-verdict.tid in
    let rest = drop (c.loop-verdict.verdict-index + 1) c.args.verdicts.now in
    let cons : drop c.loop-verdict.verdict-index c.args.verdicts.now ≡ v ∷ rest = let e : suc c.loop-verdict.verdict-index ≡ c.loop-verdict.verdict-index + 1 =
    omega arith in
    drop-cons c.args.verdicts.now c.loop-verdict.verdict-index (Finish false) c.loop-verdict-test.true ∙ ap (λ n. v ∷ drop n c.args.verdicts.now) e in (
      ap (λ n. n + 1) c.loop-verdict.invariant.0,
      ap (λ l. l ++ tids_among (tid + 1) rest) c.in_ok-note_if_it_waits.ensures
          ∙ append_assoc c.loop-verdict.tids.items (tids_among tid (v ∷ [])) (tids_among (tid + 1) rest)
          ∙ ap (λ l. c.loop-verdict.tids.items ++ l) (tids_more tid v rest ∙ ap (tids_among tid) (sym cons))
          ∙ c.loop-verdict.invariant.1,
    )
