use Rattle.std.proofs.Common.{◌≡◌, ◌∙◌, true, false, sym, ap, arith}
use Rattle.aria_store.specs.Stands.{Kept}
use Rattle.std.specs.Prelude.{Option}
use Rattle.serving.specs.Lives.{plan_of, state_of}
use Rattle.serving.specs.Stored.{is_stale, stale_by}
use Rattle.serving.proofs.Served.{fresh_goes_on, still_leaves, stale_turns, turned_holds, turned_images, turned_is}
use Rattle.serving.proofs.rotations.renew_where_stale.Goals as goal

pub returns-then-not-is_stale-clause-logging : goal.returns-then-not-is_stale-clause-logging
returns-then-not-is_stale-clause-logging g c =
    let off : is_stale c.in-Some.store ≡ false = grind (arith, c.is_stale.ensures, c.if-not-is_stale.true) in
    fresh_goes_on c.args.live.now c.in-Some.store c.in-Some.is (g.D.Disk.history c.args.disk.now) off c.requires.kept

pub returns-then-not-is_stale-clause-images : goal.returns-then-not-is_stale-clause-images
returns-then-not-is_stale-clause-images g c k later h =
    still_leaves (stale_by c.args.live.now.store) (g.D.Disk.history c.args.disk.now) (plan_of c.args.live.now)
    (state_of c.args.live.now) c.args.live.now.store k later h

pub rotate-requires-clause-may : goal.rotate-requires-clause-may
rotate-requires-clause-may g c =
    let on : is_stale c.in-Some.store ≡ true = grind (arith, c.is_stale.ensures, c.if-not-is_stale.false) in
    stale_turns c.args.live.now c.first.result.now c.first.ensures.first c.in-Some.store c.in-Some.is (g.D.Disk.history c.args.disk.now) on c.requires.kept

pub returns-clause-holds : goal.returns-clause-holds
returns-clause-holds g c =
    let on : is_stale c.in-Some.store ≡ true = grind (arith, c.is_stale.ensures, c.if-not-is_stale.false) in
    let due : stale_by c.args.live.now.store ≡ true = ap (λ (s : Option Kept). stale_by s) c.in-Some.is ∙ on in
    turned_holds c.args.live.now c.first.result.now c.first.ensures.first c.in-Some.store c.in-Some.is c.rotate.result
    (g.D.Disk.history c.args.disk.now) (g.D.Disk.history c.rotate.new.disk) c.rotate.new.store (stale_by c.args.live.now.store) due c.rotate.ensures.holds

pub returns-clause-turned : goal.returns-clause-turned
returns-clause-turned g c =
    let on : is_stale c.in-Some.store ≡ true = grind (arith, c.is_stale.ensures, c.if-not-is_stale.false) in
    let due : stale_by c.args.live.now.store ≡ true = ap (λ (s : Option Kept). stale_by s) c.in-Some.is ∙ on in
    turned_is c.args.live.now c.first.result.now c.first.ensures.first c.in-Some.store c.in-Some.is c.rotate.result c.rotate.new.store
    (stale_by c.args.live.now.store) due c.rotate.ensures.turned

pub returns-clause-images : goal.returns-clause-images
returns-clause-images g c k later h =
    let on : is_stale c.in-Some.store ≡ true = grind (arith, c.is_stale.ensures, c.if-not-is_stale.false) in
    let due : stale_by c.args.live.now.store ≡ true = ap (λ (s : Option Kept). stale_by s) c.in-Some.is ∙ on in
    turned_images c.args.live.now c.first.result.now c.first.ensures.first c.in-Some.store c.in-Some.is (stale_by c.args.live.now.store) due
    (g.D.Disk.history c.args.disk.now) (g.D.Disk.history c.rotate.new.disk) k later (c.rotate.ensures.images k later) h

pub returns-clause-untouched : goal.returns-clause-untouched
returns-clause-untouched g c off =
    let on : is_stale c.in-Some.store ≡ true = grind (arith, c.is_stale.ensures, c.if-not-is_stale.false) in
    let due : stale_by c.args.live.now.store ≡ true = ap (λ (s : Option Kept). stale_by s) c.in-Some.is ∙ on in
    absurd (let no : true ≡ false = sym due ∙ off in cc)
