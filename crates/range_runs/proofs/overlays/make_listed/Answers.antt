use Rattle.std.proofs.Common.{◌≡◌, ◌+◌, ◌++◌, [], ◌∷◌, map, take, cond, refl, sym, ap, ◌∙◌}
use Rattle.std.specs.FinMap as fin
use Rattle.std.proofs.lemmas.List.{take_more, map-append, take_all}
use Rattle.aria_base.specs.Orders.{key_cmp}
use Rattle.batch_rules.specs.Trees.{set_at}
use Rattle.batch_rules.specs.Touches.{is_among, overwritten}
use Rattle.range_runs.proofs.RowsUnder.{laid-more, listed-is}
use Rattle.range_runs.proofs.overlays.make_listed.Goals as goal

pub loop-key-init : goal.loop-key-init
loop-key-init c q = refl

pub loop-key-preserved : goal.loop-key-preserved
loop-key-preserved c q =
    let layer = c.args.overlay.now in
    let map_now = overwritten layer.base layer.noted.writes in
    let old = fin.get c.args.found.now in
    let xs = c.deref-key-items.result.now in
    let i = c.loop-key.key-index in
    let k = c.key-item.result.now in
    let more : map (λ k. k.now) (take (i + 1) xs) ≡ map (λ k. k.now) (take i xs) ++ k ∷ [] =
    ap (map (λ k. k.now)) (take_more xs i c.key-item.result c.loop-key-test.true)
    ∙ map-append (λ k. k.now) (take i xs) _ ∙ ap (λ x. map (λ k. k.now) (take i xs) ++ x.now ∷ []) (sym c.key-item.is) in
    ap (λ m. fin.get m q) (c.in_ok-set.ensures ∙ ap (set_at c.loop-key.found k) c.look.ensures)
    ∙ laid-more map_now c.loop-key.found old (map (λ k. k.now) (take i xs)) k c.loop-key.invariant q
    ∙ ap (λ ks. cond (is_among key_cmp ks q) (fin.get map_now q) (old q)) (sym more)

pub returns : goal.returns
returns c =
    let layer = c.args.overlay.now in
    let map_now = overwritten layer.base layer.noted.writes in
    let xs = c.deref-key-items.result.now in
    let all = ap (map (λ k. k.now)) (take_all c.loop-key.key-index xs c.loop-key-test.false ∙ c.deref-key-items.ensures.value) ∙ c.in_ok-keys.ensures in
    listed-is c.args.written.now c.args.prefix.now layer.base c.args.found.now c.loop-key.found layer.noted.writes c.requires
    (λ q. c.loop-key.invariant q ∙ ap (λ ks. cond (is_among key_cmp ks q) (fin.get map_now q) (fin.get c.args.found.now q)) all)
