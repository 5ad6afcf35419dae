use Rattle.std.proofs.Common.{◌≡◌, ◌<◌, ◌∙◌, arith}
use Rattle.aria_base.specs.Orders.{key_cmp}
use Rattle.aria_base.specs.declared.keys.Key.{Key as Name}
use Rattle.batch_rules.specs.Touches.{is_among}
use Rattle.proc_exec.specs.Limits.{touchable}
use Rattle.fallback_locks.specs.LastWaves.{last_in, wave_by, with_reader, with_writer}
use Rattle.fallback_locks.proofs.LastWaves.{table_below, so_far_more}
use Rattle.fallback_locks.proofs.levels.waves.Goals as goal

pub next_wave-requires-clause-low : goal.next_wave-requires-clause-low
next_wave-requires-clause-low c =
    let few : c.loop-one.one-index < 10000 = omega (arith, c.loop-one-test.true, c.requires) in
    table_below key_cmp (λ w. touchable w.declared) (last_in c.loop-one.table.lasts) c.loop-one.one-index c.loop-one.waves.items
    c.args.waiting.now 10000 c.loop-one.invariant few

pub loop-one-preserved : goal.loop-one-preserved
loop-one-preserved c =
    let one = c.one-item.result in
    let wave = c.in_ok-wave.wave in
    let last = last_in c.loop-one.table.lasts in
    let by : wave ≡ wave_by last (touchable one.declared) = c.in_ok-wave.ensures.wave
    ∙ (λ i. wave_by last (record { reads = c.as_slice-reads.ensures i; writes = c.as_slice-writes.ensures i })) in
    let noted : (q : Name) → last_in c.next_wave.new.table.lasts q
    ≡ with_writer wave (is_among key_cmp one.declared.writes q) (with_reader wave (is_among key_cmp one.declared.reads q) (last q))
    = λ q. c.in_ok-wave.ensures.noted q
    ∙ (λ i. with_writer wave (is_among key_cmp (c.as_slice-writes.ensures i) q)
    (with_reader wave (is_among key_cmp (c.as_slice-reads.ensures i) q) (last q))) in
    rw (c.in_ok-push.ensures.items)
    (so_far_more key_cmp (λ w. touchable w.declared) last (last_in c.next_wave.new.table.lasts) c.loop-one.one-index wave c.loop-one.waves.items
    c.args.waiting.now one c.loop-one.invariant c.loop-one-test.true c.one-item.is by noted)
