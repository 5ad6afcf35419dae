use Rattle.std.proofs.Common.{◌≡◌, ◌∙◌, ℕ, ap, sym, subst, length}
use Rattle.aria_base.specs.Orders.{key_cmp}
use Rattle.proc_exec.specs.Limits.{touchable}
use Rattle.row_batons.specs.Fallbacks.{IsLaidOut, touches_in}
use Rattle.dep_rules.specs.Sheets.{AllBelow}
use Rattle.row_batons.specs.Layouts.{AreTouches, AreSlotsOf}
use Rattle.aria_base.specs.Schemas.{IsConsistent}
use Rattle.fallback_locks.proofs.Fitted.{rows_still_fit}
use Rattle.batch_rules.specs.Touches.{overwritten}
use Rattle.row_batons.specs.Windows.{paired}
use Rattle.row_batons.proofs.Layings.{laid_out, as_many, table_length, are_slots}
use Rattle.row_batons.proofs.reruns.rerun_by.Goals as goal

pub slots_of-requires-clause-many : goal.slots_of-requires-clause-many
slots_of-requires-clause-many g c = as_many c.args.waiting.now c.args.numbers.now.reads c.args.numbers.now.writes c.args.numbers.now.keys c.requires.numbers

pub touches_of-requires-clause-reads : goal.touches_of-requires-clause-reads
touches_of-requires-clause-reads g c =
    let n = c.requires.numbers in
    subst (λ (m : ℕ). AllBelow m c.args.numbers.now.reads) (sym (ap length c.table.ensures
    ∙ table_length c.args.waiting.now c.args.numbers.now.reads c.args.numbers.now.writes c.args.numbers.now.keys n c.in_ok-slots.slots
    c.in_ok-slots.ensures)) n.reads_below

pub touches_of-requires-clause-writes : goal.touches_of-requires-clause-writes
touches_of-requires-clause-writes g c =
    let n = c.requires.numbers in
    subst (λ (m : ℕ). AllBelow m c.args.numbers.now.writes)
    (sym (ap length c.table.ensures ∙ table_length c.args.waiting.now c.args.numbers.now.reads c.args.numbers.now.writes c.args.numbers.now.keys n
    c.in_ok-slots.slots c.in_ok-slots.ensures)) n.writes_below

pub touches_of-requires-clause-slots : goal.touches_of-requires-clause-slots
touches_of-requires-clause-slots g c =
    subst (AreSlotsOf c.len.result) (sym c.table.ensures)
    (subst (λ (m : ℕ). AreSlotsOf m c.in_ok-slots.slots.table) (sym c.len.ensures)
    (are_slots c.args.waiting.now c.args.numbers.now.reads c.args.numbers.now.writes c.args.numbers.now.keys c.requires.numbers c.in_ok-slots.slots
    c.in_ok-slots.ensures))

pub relayed-requires-clause-laid : goal.relayed-requires-clause-laid
relayed-requires-clause-laid g c κs within =
    let slots = c.in_ok-slots.slots in
    let reads = c.args.numbers.now.reads in
    let writes = c.args.numbers.now.writes in
    let touches = c.in_ok-touches.touches in
    let told : AreTouches slots.table (length slots.keys) reads writes touches (length reads) =
    subst (λ t. AreTouches t (length slots.keys) reads writes touches (length reads)) c.table.ensures
    (subst (λ (n : ℕ). AreTouches c.table.result.now n reads writes touches (length reads)) c.len.ensures c.in_ok-touches.ensures) in
    subst (λ ks. IsLaidOut key_cmp (λ w. touchable w.declared) c.args.waiting.now ks (touches_in touches))
    (sym (c.deref.ensures.value ∙ c.into_keys-keys.ensures))
    (laid_out c.args.waiting.now reads writes c.args.numbers.now.keys c.requires.numbers slots c.in_ok-slots.ensures touches told c.requires.waiting)

pub returns-clause-fit : goal.returns-clause-fit
returns-clause-fit g c = λ fits.
    subst (IsConsistent c.args.catalog.now.tables)
    (sym (c.in_ok-install.ensures ∙ ap (λ ks. overwritten c.args.tables (paired ks c.in_ok-rows.rows.items)) (sym c.deref.ensures.value)))
    (rows_still_fit c.args.catalog.now c.args.waiting.now c.args.tables _ _ c.in_ok-rows.ensures.fold fits)
