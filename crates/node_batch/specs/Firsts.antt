-- Least holders by the first TID at each key.
use Rattle.std.specs.Prelude.{◌≡◌, ℕ, List, [], ◌∷◌, ◌++◌, Option, Some, None, Bool, if◌then◌else◌}
use Rattle.std.specs.BTreeMap.{get}
use Rattle.aria_base.specs.Orders.{key_cmp, Cells}
use Rattle.aria_base.specs.declared.keys.Key.{Key}
use Rattle.aria_base.specs.contracts.keys.KeyOrd.TheImpl as key_order
use Rattle.batch_rules.specs.Touches.{is_among, keys_of}
use Rattle.batch_rules.specs.Verdicts.{least}
use Rattle.node_rules.specs.Messages.{Sets, Holders}
use Rattle.node_rules.specs.Dues.{lesser, by_sets, holders_on}
use Rattle.node_batch.specs.declared.firsts.Firsts.{Firsts}

-- the first TID noted at a key
abbrev pub first_in : Firsts → Key → Option ℕ
first_in firsts key = get key_order.cmp-value.it firsts.map key

-- one that is there stays
abbrev pub or_first : Option ℕ → Bool → ℕ → Option ℕ
or_first (Some t) here tid = Some t
or_first None here tid = if here then Some tid else None

-- the least of what is told of these keys, and of this one
abbrev pub least_told : (Key → Option ℕ) → Option ℕ → List Key → Option ℕ
least_told f best [] = best
least_told f best (k ∷ ks) = least_told f (lesser best (f k)) ks

abbrev pub reads_in : Sets Key Cells → List Key
reads_in s = s.reads

abbrev pub writes_in : Sets Key Cells → List Key
writes_in s = keys_of s.rows

-- at each key the first of these that has it on this side
abbrev pub Knows : (Sets Key Cells → List Key) → List (Sets Key Cells) → Firsts → Type 0
Knows side sets firsts = (k : Key) → first_in firsts k ≡ least (λ s. is_among key_cmp (side s) k) sets

-- the least earlier holders of each of a list
abbrev pub holders_behind : List (Sets Key Cells) → List (Sets Key Cells) → List Holders
holders_behind earlier [] = []
holders_behind earlier (s ∷ ss) = holders_on (by_sets key_cmp) earlier s ∷ holders_behind (earlier ++ s ∷ []) ss
