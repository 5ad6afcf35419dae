use Rattle.std.proofs.Common.{◌≡◌, suc, length, ap, sym, ◌∙◌, ◌+◌, ◌<◌, refl, subst, arith}
use Rattle.std.specs.List.{All}
use Rattle.std.proofs.lemmas.List.{length-map}
use Rattle.proc_lang.specs.Catalogs.{run_of}
use Rattle.fallback_locks.specs.Reruns.{in_waves, wave_finds, so_far, places, AreDone}
use Rattle.fallback_locks.proofs.Filling.{none_filled, wave_step, all_waves, all_some, waves_length}
use Rattle.fallback_locks.proofs.Filling.{group_below, group_is, last_is, group_few, dones_within}
use Rattle.fallback_locks.proofs.Fitted.{rows_still_fit}
use Rattle.fallback_locks.proofs.reruns.rerun_in_waves.Goals as goal

pub loop-group-init : goal.loop-group-init
loop-group-init g c =
    let es = in_waves c.args.waiting.now in
    let tree = run_of c.args.catalog.now in (
      refl,
      none_filled tree (wave_finds tree c.args.tables es) es c.in_ok-lates.lates.items
          (c.in_ok-lates.ensures.0 ∙ sym (waves_length c.args.waiting.now)) c.in_ok-lates.ensures.1,
    )

pub groups-requires : goal.groups-requires
groups-requires g c =
    let es = in_waves c.args.waiting.now in
    let len : length c.args.waves.now ≡ length c.args.waiting.now = ap length c.requires.waves
    ∙ length-map es (λ e. e.wave) ∙ waves_length c.args.waiting.now in
    omega (arith, len, c.requires.waiting)

pub run_wave-requires-clause-few : goal.run_wave-requires-clause-few
run_wave-requires-clause-few g c κs lifetimes =
    let n = c.loop-group.group-index in
    let at = c.as_slice.result.now in
    let is : at ≡ places n 0 c.args.waves.now =
    group_is (λ g. g.items) c.in_ok-groups.groups.items c.deref-group-items.result.now c.args.waves.now n c.group-item.result at
    c.in_ok-groups.ensures c.deref-group-items.ensures.value c.loop-group-test.true c.group-item.is c.as_slice.ensures.value in
    group_few c.args.waiting.now c.args.waves.now at n _ c.requires.waves is c.requires.waiting

pub run_wave-requires-clause-within : goal.run_wave-requires-clause-within
run_wave-requires-clause-within g c κs lifetimes =
    let n = c.loop-group.group-index in
    let at = c.as_slice.result.now in
    let is : at ≡ places n 0 c.args.waves.now =
    group_is (λ g. g.items) c.in_ok-groups.groups.items c.deref-group-items.result.now c.args.waves.now n c.group-item.result at
    c.in_ok-groups.ensures c.deref-group-items.ensures.value c.loop-group-test.true c.group-item.is c.as_slice.ensures.value in
    group_below c.args.waiting.now c.args.waves.now at n c.requires.waves is

pub settle-requires : goal.settle-requires
settle-requires g c =
    let n = c.loop-group.group-index in
    let at = c.as_slice.result.now in
    let waiting = c.args.waiting.now in
    let tree = run_of c.args.catalog.now in
    let dones = c.in_ok-dones.dones.items in
    let is : at ≡ places n 0 c.args.waves.now =
    group_is (λ g. g.items) c.in_ok-groups.groups.items c.deref-group-items.result.now c.args.waves.now n c.group-item.result at
    c.in_ok-groups.ensures c.deref-group-items.ensures.value c.loop-group-test.true c.group-item.is c.as_slice.ensures.value in
    dones_within tree c.loop-group.tables waiting c.args.waves.now at n dones c.loop-group.lates.items (wave_finds tree c.args.tables (in_waves waiting))
    c.requires.waves is (subst (λ db. AreDone tree db waiting at dones) c.of.ensures c.in_ok-dones.ensures) c.loop-group.invariant.1

pub loop-group-preserved : goal.loop-group-preserved
loop-group-preserved g c =
    let n = c.loop-group.group-index in
    let at = c.as_slice.result.now in
    let waiting = c.args.waiting.now in
    let es = in_waves waiting in
    let tree = run_of c.args.catalog.now in
    let dones = c.in_ok-dones.dones.items in
    let finds = wave_finds tree c.args.tables es in
    let is : at ≡ places n 0 c.args.waves.now =
    group_is (λ g. g.items) c.in_ok-groups.groups.items c.deref-group-items.result.now c.args.waves.now n c.group-item.result at
    c.in_ok-groups.ensures c.deref-group-items.ensures.value c.loop-group-test.true c.group-item.is c.as_slice.ensures.value in
    let step = wave_step tree c.args.tables waiting c.args.waves.now at n c.loop-group.tables dones c.loop-group.lates.items c.requires.waves is
    c.loop-group.invariant.0 (subst (λ db. AreDone tree db waiting at dones) c.of.ensures c.in_ok-dones.ensures) c.loop-group.invariant.1 in
    let next : suc n ≡ n + 1 = omega arith in (
      c.in_ok-settle.ensures.tables ∙ step.0 ∙ ap finds next,
      c.in_ok-settle.ensures.lates ∙ step.1 ∙ ap (λ n. so_far tree finds n es) next,
    )

pub all_of-requires : goal.all_of-requires
all_of-requires g c =
    let n = c.loop-group.group-index in
    let es = in_waves c.args.waiting.now in
    let tree = run_of c.args.catalog.now in
    let below : All (λ e. e.wave < n) es =
    last_is (λ g. g.items) c.in_ok-groups.groups.items c.deref-group-items.result.now c.args.waves.now n c.args.waiting.now
    c.in_ok-groups.ensures c.deref-group-items.ensures.value c.loop-group-test.false c.requires.waves in
    all_some tree (wave_finds tree c.args.tables es) n es c.loop-group.lates.items below c.loop-group.invariant.1

pub returns-clause-fold : goal.returns-clause-fold
returns-clause-fold g c =
    let n = c.loop-group.group-index in
    let es = in_waves c.args.waiting.now in
    let below : All (λ e. e.wave < n) es =
    last_is (λ g. g.items) c.in_ok-groups.groups.items c.deref-group-items.result.now c.args.waves.now n c.args.waiting.now
    c.in_ok-groups.ensures c.deref-group-items.ensures.value c.loop-group-test.false c.requires.waves in
    all_waves (run_of c.args.catalog.now) c.args.tables c.args.waiting.now n _ c.in_ok-all_of.field-0.items below
    (c.tables-2.view_is ∙ c.loop-group.invariant.0) (c.in_ok-all_of.ensures ∙ c.loop-group.invariant.1)

pub returns-clause-fit : goal.returns-clause-fit
returns-clause-fit g c = rows_still_fit c.args.catalog.now c.args.waiting.now c.args.tables _ _ (returns-clause-fold g c)
