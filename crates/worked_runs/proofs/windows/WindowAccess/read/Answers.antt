-- The rows of the window, visit by visit.
use Rattle.std.proofs.Common.{◌≡◌, ◌∙◌, sym, ap, refl, ℕ, ◌+◌, ◌<◌, List, [], ◌∷◌, length, take, fold, get_or, Some, None, Option, arith}
use Rattle.std.specs.Prelude.{if◌then◌else◌}
use Rattle.std.specs.Option.{option_map_or}
use Rattle.std.specs.Ordering.{eq_by_cmp}
use Rattle.std.specs.FinMap as fin
use Rattle.std.specs.FinMap.{empty}
use Rattle.std.proofs.lemmas.List.{take_more}
use Rattle.std.proofs.lemmas.List.Sums.{fold-append}
use Rattle.aria_base.specs.Orders.{key_cmp, Cells}
use Rattle.aria_base.specs.declared.keys.Key.{Key}
use Rattle.aria_base.proofs.Orders.{key_cmp_total}
use Rattle.batch_rules.specs.Plays.{after_read, after_write}
use Rattle.batch_rules.specs.Touches.{nothing}
use Rattle.batch_rules.proofs.Maps.{get-set_at}
use Rattle.proc_exec.specs.Steppings.{Window}
use Rattle.worked_runs.proofs.windows.WindowAccess.read.Goals as goal

abbrev Visit : Type 0
Visit = Key × Option (Option Cells)

abbrev start : Window
start = record { map = empty; noted = nothing }

abbrev after : Window → Visit → Window
after s v = option_map_or (after_write s v.0) v.1 (after_read s v.0)

row-after : (s : Window) (k q : Key) (written : Option (Option Cells))
    → option_map_or (λ w. if eq_by_cmp key_cmp q k then w else fin.get s.map q) written (fin.get s.map q) ≡ fin.get (after s (k, written)).map q
row-after s k q None = refl
row-after s k q (Some row) = sym (get-set_at key_cmp_total s.map k row q)

one_more : (visits : List Visit) (i : ℕ) (v : Visit) → i < length visits → v ≡ get_or visits i v
    → after (fold after start (take i visits)) v ≡ fold after start (take (i + 1) visits)
one_more visits i v below is = ap (after (fold after start (take i visits))) is
    ∙ sym (ap (fold after start) (take_more visits i v below) ∙ fold-append after start (take i visits) (get_or visits i v ∷ []))

pub loop-visit-init : goal.loop-visit-init
loop-visit-init c = sym (fin.get-empty key_cmp c.args.key.now)

pub loop-visit-preserved : goal.loop-visit-preserved
loop-visit-preserved c =
    let key = c.args.key.now in
    let visits = c.deref-visit-items.result.now in
    let before = fold after start (take c.loop-visit.visit-index visits) in
    let visit = c.visit-item.result in
    let found = ap (λ (row : Option Cells). option_map_or (λ w. if eq_by_cmp key_cmp key visit.0 then w else row) visit.1 row) c.loop-visit.invariant in
    c.in_ok-found.ensures ∙ found ∙ row-after before visit.0 key visit.1
    ∙ ap (λ (s : Window). fin.get s.map key) (one_more visits c.loop-visit.visit-index visit (omega arith) c.visit-item.is)
