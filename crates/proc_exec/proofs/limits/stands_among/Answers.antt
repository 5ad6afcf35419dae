use Rattle.std.proofs.Common.{◌≡◌, List, Bool, ap, sym, ◌∙◌}
use Rattle.std.specs.List.{list_any, position}
use Rattle.std.specs.Option.{is_some}
use Rattle.std.specs.Ordering.{eq_by_cmp}
use Rattle.std.proofs.lemmas.Iterator.Adapters.{position_from-zero}
use Rattle.aria_base.specs.Orders.{key_cmp}
use Rattle.batch_rules.proofs.Judges.{is_some-position_from}
use Rattle.proc_exec.proofs.limits.stands_among.Goals as goal

-- an item that passes has a place, and only such a one
has_place : {A : Type 0} (test : A → Bool) (xs : List A) → is_some (position test xs) ≡ list_any test xs
has_place test xs = ap is_some (position_from-zero test xs) ∙ is_some-position_from test 0 xs

pub returns-in-Some : goal.returns-in-Some
returns-in-Some c =
    ap is_some (sym c.in-Some.is ∙ c.place_of.ensures.place) ∙ has_place (eq_by_cmp key_cmp c.args.key.now) c.args.keys.now

pub returns-in-None : goal.returns-in-None
returns-in-None c =
    ap is_some (sym c.in-None.is ∙ c.place_of.ensures.place) ∙ has_place (eq_by_cmp key_cmp c.args.key.now) c.args.keys.now
