use Rattle.std.proofs.Common.{◌≡◌, ◌+◌, drop, ap, sym, ◌∙◌, int_cmp, FitsSigned, to_z, of_z, w64, rules}
use Rattle.std.proofs.lemmas.Int.{to_z-of_z}
use Rattle.std.specs.BTreeSet.{insert_key}
use Rattle.tpcc_routines.specs.Routines.{with_items}
use Rattle.tpcc_routines.proofs.Turning.{front_of}
use Rattle.tpcc_routines.proofs.levels.add_items.Goals as goal

pub loop-line-preserved : goal.loop-line-preserved
loop-line-preserved c =
    let i = c.loop-line.line-index in
    let lines = c.args.lines.now in
    let keys = c.loop-line.items.keys in
    let fits : FitsSigned w64 c.column_at.result = search rules in
    let same : to_z w64 (of_z w64 c.column_at.result) ≡ c.column_at.result = to_z-of_z w64 c.column_at.result fits in
    ap (λ keys. with_items keys (drop (i + 1) lines)) (c.in_ok-add_item.ensures ∙ ap (insert_key int_cmp keys) (same ∙ c.column_at.ensures))
    ∙ ap (with_items keys) (sym (front_of lines i c.loop-line-item.result c.loop-line-test.true c.loop-line-item.is))
    ∙ c.loop-line.invariant
