-- The equality of keys that a hash table goes by is that of their order.
use Rattle.std.proofs.Common.{◌≡◌, ap, ◌∙◌}
use Rattle.std.specs.Ordering.{eq_by_cmp, is_eq}
use Rattle.aria_base.specs.Orders.{key_cmp}
use Rattle.aria_base.specs.declared.keys.Key.{Key}
use Rattle.aria_base.specs.contracts.keys.KeyPartialEq.TheImpl as key_eq
use Rattle.aria_base.specs.contracts.keys.KeyOrd.TheImpl.Laws as key_order_laws
use Rattle.aria_base.proofs.Orders.{derived-is}

pub same_eq : (x y : Key) → key_eq.eq-value.it x y ≡ eq_by_cmp key_cmp x y
same_eq x y = key_order_laws.matches_eq-law x y ∙ ap is_eq (derived-is x y)
