-- Waiting requests by the numbers of the keys that they declare.
use Rattle.std.specs.Prelude.{◌≡◌, ℕ, List, [], map}
use Rattle.std.specs.Ordering.{nat_cmp}
use Rattle.aria_base.specs.Orders.{key_cmp}
use Rattle.aria_base.specs.declared.keys.Key.{Key}
use Rattle.batch_rules.specs.Numberings.{IsOneToOneOn, HasKeysOf}
use Rattle.batch_rules.specs.Touches.{Declared}
use Rattle.batch_rules.specs.Waves.{waved}
use Rattle.dep_rules.specs.Sheets.{Sheet, reads_at, writes_at}
use Rattle.proc_exec.specs.declared.outcomes.Waiting.{Waiting}

-- what the request with this TID declares, by numbers
abbrev pub numbers_at : Sheet → ℕ → Declared ℕ
numbers_at sheet tid = record { reads = reads_at sheet tid; writes = writes_at sheet tid }

-- the waves of the requests with these TIDs, in their order
abbrev pub waves_by : Sheet → List ℕ → List ℕ
waves_by sheet tids = map (λ e. e.wave) (waved nat_cmp (numbers_at sheet) [] tids)

-- what a request declares, by numbers
abbrev pub numbers_in : (Key → ℕ) → Waiting → Declared ℕ
numbers_in number w = record { reads = map number w.declared.reads; writes = map number w.declared.writes }

-- the sheet has at these TIDs the numbers of the keys that the requests declare, of which two have one number exactly
-- where they are equal
pub record StandFor (sheet : Sheet) (tids : List ℕ) (waiting : List Waiting) : Type 0 where
  pub keys : List Key
  pub number : Key → ℕ
  pub one_to_one : IsOneToOneOn key_cmp keys number
  pub reads_among : HasKeysOf key_cmp keys (λ w. w.declared.reads) waiting
  pub writes_among : HasKeysOf key_cmp keys (λ w. w.declared.writes) waiting
  pub lists : map (numbers_at sheet) tids ≡ map (numbers_in number) waiting
