use Rattle.std.proofs.Common.{◌≡◌, ◌<◌, ℕ, [], sym, subst, ◌∙◌, arith, rules}
use Rattle.std.proofs.lemmas.List.{get_or_default}
use Rattle.std.specs.Prelude.{slice_index_or}
use Rattle.std.specs.Ordering.{nat_cmp}
use Rattle.batch_rules.specs.Touches.{is_among}
use Rattle.fallback_locks.specs.LastWaves.{last_at, IsSoFar, wave_by, with_reader, with_writer}
use Rattle.fallback_locks.specs.Numbers.{numbers_at}
use Rattle.fallback_locks.proofs.LastWaves.{table_below, so_far_none, so_far_more}
use Rattle.fallback_locks.proofs.levels.waves_numbered.Goals as goal

pub loop-tid-init : goal.loop-tid-init
loop-tid-init c =
    let none : c.in_ok-waves.waves.items ≡ [] = search rules in
    let length = c.in_ok-table.ensures.length ∙ c.keys.ensures in
    let declared = numbers_at c.args.numbered.now in
    let last = last_at c.in_ok-table.table.lasts.items in (
      λ q below. omega (arith, length, below),
      subst (λ waves. IsSoFar nat_cmp declared last 0 waves c.args.tids.now) (sym none)
          (so_far_none nat_cmp declared last c.args.tids.now c.in_ok-table.ensures.none),
    )

pub next_wave-requires-clause-low : goal.next_wave-requires-clause-low
next_wave-requires-clause-low c =
    let few : c.loop-tid.tid-index < 10000 = omega (arith, c.loop-tid-test.true, c.requires.few) in
    table_below nat_cmp (numbers_at c.args.numbered.now) (last_at c.loop-tid.table.lasts.items) c.loop-tid.tid-index c.loop-tid.waves.items
    c.args.tids.now 10000 c.loop-tid.invariant.1 few

pub loop-tid-preserved : goal.loop-tid-preserved
loop-tid-preserved c =
    let index = c.loop-tid.tid-index in
    let tid = slice_index_or c.args.tids.now index 0 in
    let wave = c.in_ok-wave.wave in
    let last = last_at c.loop-tid.table.lasts.items in
    let declared = numbers_at c.args.numbered.now in
    let reads = c.reads_of-reads.ensures.list in
    let writes = c.writes_of-writes.ensures.list in
    let by : wave ≡ wave_by last (declared tid) = c.in_ok-wave.ensures.wave ∙ (λ i. wave_by last (record { reads = reads i; writes = writes i })) in
    let noted : (q : ℕ) → last_at c.next_wave.new.table.lasts.items q
    ≡ with_writer wave (is_among nat_cmp (declared tid).writes q) (with_reader wave (is_among nat_cmp (declared tid).reads q) (last q))
    = λ q. c.in_ok-wave.ensures.noted q
    ∙ (λ i. with_writer wave (is_among nat_cmp (writes i) q) (with_reader wave (is_among nat_cmp (reads i) q) (last q))) in (
      λ q below. c.in_ok-wave.ensures.held q (c.loop-tid.invariant.0 q below),
      rw (c.in_ok-push.ensures.items) (so_far_more nat_cmp declared last (last_at c.next_wave.new.table.lasts.items) index wave c.loop-tid.waves.items
          c.args.tids.now tid c.loop-tid.invariant.1 c.loop-tid-test.true (get_or_default c.args.tids.now index 0 tid c.loop-tid-test.true) by noted),
    )

pub next_wave-requires-clause-reads : goal.next_wave-requires-clause-reads
next_wave-requires-clause-reads c = λ k d below. c.loop-tid.invariant.0 _ (c.reads_of-reads.ensures.below k d below)

pub next_wave-requires-clause-writes : goal.next_wave-requires-clause-writes
next_wave-requires-clause-writes c = λ k d below. c.loop-tid.invariant.0 _ (c.writes_of-writes.ensures.below k d below)
