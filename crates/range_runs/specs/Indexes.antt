-- The keys of a database in order.
use Rattle.std.specs.Prelude.{◌≡◌, List, [], ◌∷◌, Option, is_some, true, if◌then◌else◌}
use Rattle.std.specs.Coded.{Coded}
use base.Stored.{coded_unit}
use Rattle.std.specs.FinMap as fin
use Rattle.aria_base.specs.contracts.keys.Key as key
use Rattle.aria_base.specs.Orders.{key_cmp, Database}
use Rattle.aria_base.specs.declared.keys.Key.{Key}
use Rattle.batch_rules.specs.Touches.{is_among}
use Rattle.range_runs.specs.Leasts.{can_be}

-- keys, each with nothing but that it is there
abbrev pub Listed : Type 0
Listed = fin.FinMap key_cmp (Unit {0})

abbrev pub listed_code : Coded Listed
listed_code = fin.code (key.the_row).coded coded_unit

abbrev pub with_keys : Listed → List Key → Listed
with_keys index [] = index
with_keys index (k ∷ ks) = with_keys (fin.insert index k tt) ks

-- after a write at the key, and after all of these. Of a key that stands twice the first one counts
abbrev pub followed_one : {X : Type 0} → Listed → Key → Option X → Listed
followed_one index k row = if is_some row then fin.insert index k tt else fin.remove index k

abbrev pub followed : {X : Type 0} → Listed → List (Key × Option X) → Listed
followed index [] = index
followed index (w ∷ ws) = followed_one (followed index ws) w.0 w.1

-- the writes of lists one after the other
abbrev pub followed_all : {X : Type 0} → Listed → List (List (Key × Option X)) → Listed
followed_all index [] = index
followed_all index (ws ∷ more) = followed_all (followed index ws) more

-- an index has the keys of a database
abbrev pub IsIndexOf : Listed → Database → Type 0
IsIndexOf index db = (k : Key) → fin.contains_key index k ≡ fin.contains_key db k

-- it has the keys of a list, and no others
abbrev pub HasExactly : List Key → Listed → Type 0
HasExactly keys index = (k : Key) → fin.contains_key index k ≡ is_among key_cmp keys k

-- all that it has can be keys
abbrev pub HasKeys : Listed → Type 0
HasKeys index = (k : Key) → fin.contains_key index k ≡ true → can_be k.parts ≡ true
