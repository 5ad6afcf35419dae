use Rattle.std.proofs.Common.{◌≡◌, ap, sym, ◌∙◌, Some, cond, refl, true, rules}
use Rattle.std.specs.Ordering.{is_eq}
use Rattle.std.specs.BTreeMap as tree
use Rattle.aria_base.proofs.Orders.{derived_cmp}
use Rattle.fallback_locks.specs.LastWaves.{last_in, with_writer}
use Rattle.fallback_locks.proofs.KeyTables.{noted_at}
use Rattle.fallback_locks.proofs.tables.ByKeyTable.note_write.Goals as goal

pub returns-clause-noted : goal.returns-clause-noted
returns-clause-noted c = λ q.
    let lasts = c.args.self.now.lasts in
    let copied : c.in_ok-duplicate.field-0 ≡ c.args.key.now = search rules in
    let set = c.in_ok-insert.ensures.updates.0 q
    ∙ (λ i. cond (is_eq (derived_cmp (copied i) q)) (Some c.written_in-next.result) (tree.get derived_cmp lasts q)) in
    noted_at (λ cmp. tree.get cmp lasts q) (λ cmp. tree.get cmp c.insert.new.self q) q c.args.key.now c.written_in-next.result set
    (with_writer c.args.wave) (λ last. refl) (λ e. c.written_in-next.ensures
    ∙ ap (with_writer c.args.wave true) (c.last_of.ensures ∙ ap (last_in lasts) (sym e)))
