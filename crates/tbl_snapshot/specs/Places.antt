-- Where the keys of a list stand, kept beside the list.
use Rattle.std.specs.Prelude.{◌≡◌, ℕ, List, Option}
use Rattle.std.specs.List.{position_from}
use Rattle.std.specs.Ordering.{eq_by_cmp}
use Rattle.std.specs.BTreeMap.{get}
use Rattle.aria_base.specs.Orders.{key_cmp}
use Rattle.aria_base.specs.declared.keys.Key.{Key}
use Rattle.aria_base.specs.contracts.keys.KeyOrd.TheImpl as key_order
use Rattle.tbl_snapshot.specs.declared.places.Places.{Places}

-- the place that was noted of a key
abbrev pub place_in : Places → Key → Option ℕ
place_in places key = get key_order.cmp-value.it places.map key

-- the first place of a key in a list
abbrev pub first_place : List Key → Key → Option ℕ
first_place keys key = position_from (eq_by_cmp key_cmp key) 0 keys

-- of each key its first place in the list was noted, and of no other key any
abbrev pub HasPlaces : List Key → Places → Type 0
HasPlaces keys places = (key : Key) → place_in places key ≡ first_place keys key
