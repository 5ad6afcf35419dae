-- The workload of the cloud benchmark: its rows before the first request, and its requests.
use Rattle.std.specs.Prelude.{◌≤◌, ℕ, ◌+◌, ◌-◌, ◌/◌, max, nat_lt, ℤ, pos, List, [], ◌∷◌, map, replicate}
use Rattle.std.specs.Prelude.{if◌then◌else◌}
use Rattle.std.specs.List.{range_with_len}
use Rattle.aria_base.specs.Orders.{Cells}
use Rattle.aria_base.specs.declared.calls.Arg.TheVariants as arg
use Rattle.aria_base.specs.declared.calls.Call.{Call}
use Rattle.aria_base.specs.declared.keys.Key.{Key}
use Rattle.aria_base.specs.declared.keys.Part.TheVariants as part
use Rattle.aria_base.specs.declared.values.Value.TheVariants as value
use Rattle.load_gen.specs.declared.settings.Ycsb.{Ycsb}
use Rattle.load_gen.specs.Draws.{Drawn, known, ◌>>=◌, random, percent, times}

-- the settings are within their ranges
pub record IsWithin (s : Ycsb) : Type 0 where
  pub keys : (1 ≤ s.keys) × (s.keys ≤ 1000000)
  pub ops : (1 ≤ s.ops) × (s.ops ≤ 16)
  pub shares : s.reads + s.updates ≤ 100
  pub hot : s.hot ≤ 100

-- ---- the rows

-- one table, and whole numbers from 0 for its keys
abbrev pub key_of : ℕ → Key
key_of n = record { table = 0; parts = part.Int (pos n) ∷ [] }

-- ten columns
abbrev pub zeros : Cells
zeros = replicate 10 (value.Int (pos 0))

abbrev pub rows_from : ℕ → ℕ → List (Key × Cells)
rows_from first count = map (λ n. (key_of n, zeros)) (range_with_len first count)

-- ---- the requests

-- the keys that some accesses prefer: one of a hundred, the first ones
abbrev pub hot_keys : Ycsb → ℕ
hot_keys s = max (s.keys / 100) 1

-- what an access does, by its share of a hundred: it reads, it writes anew, or it changes what it has read
abbrev pub op_of : Ycsb → ℕ → ℕ
op_of s x = if nat_lt x s.reads then 0 else if nat_lt x (s.reads + s.updates) then 1 else 2

-- where an access goes
abbrev pub place : Ycsb → Drawn ℕ
place s = percent s.hot >>= (λ prefers. random 0 ((if prefers then hot_keys s else s.keys) - 1))

-- the key of an access, and what it does there
abbrev pub access : Ycsb → Drawn (List ℤ)
access s = do
  key ← place s
  x ← random 0 99
  known (pos key ∷ pos (op_of s x) ∷ [])

-- the one procedure, with its accesses and a number that they write or add
abbrev pub request : Ycsb → Drawn Call
request s = do
  v ← random 1 100
  accesses ← times s.ops (access s)
  known (record { proc = 0; args = arg.List accesses ∷ arg.Int (pos v) ∷ [] })
