-- What the source and the sink in memory answer.
use Rattle.std.specs.Prelude.{ℕ, Bool, List, ◌++◌, length, drop, min, ◌-◌, ◌||◌, ◌==◌, if◌then◌else◌, nat_lt, Result, Ok, Err}
use Rattle.std.specs.List.{list_any}
use Rattle.aria_base.specs.Faults.{one_more}
use Rattle.aria_base.specs.declared.streams.Failed.{Failed}

-- a source in memory
pub record Stock : Type 0 where
  pub left : List ℕ
  pub piece : ℕ
  pub fails : List ℕ
  pub calls : ℕ
  pub faults : ℕ

-- whether the call after these many is one of those that fail
abbrev pub is_due : List ℕ → ℕ → Bool
is_due fails calls = list_any (λ n. n == one_more calls) fails

-- how many bytes go into a buffer with this room
abbrev pub portion : Stock → ℕ → ℕ
portion s room = min (min s.piece room) (length s.left)

abbrev pub taken : Stock → ℕ → Result ℕ Failed
taken s room = if is_due s.fails s.calls then Err (record {}) else Ok (portion s room)

abbrev pub after_take : Stock → ℕ → Stock
after_take s room = if is_due s.fails s.calls
    then record s { calls = one_more s.calls; faults = one_more s.faults }
    else record s { calls = one_more s.calls; left = drop (portion s room) s.left }

-- a sink in memory
pub record Shelf : Type 0 where
  pub given : List ℕ
  pub room : ℕ
  pub fails : List ℕ
  pub calls : ℕ
  pub faults : ℕ

-- whether the next call fails: it is due, or the bytes pass the room
abbrev pub is_full : Shelf → List ℕ → Bool
is_full s bytes = is_due s.fails s.calls || nat_lt (s.room - length s.given) (length bytes)

abbrev pub given : Shelf → List ℕ → Result (Unit {0}) Failed
given s bytes = if is_full s bytes then Err (record {}) else Ok tt

abbrev pub after_give : Shelf → List ℕ → Shelf
after_give s bytes = if is_full s bytes
    then record s { calls = one_more s.calls; faults = one_more s.faults }
    else record s { calls = one_more s.calls; given = s.given ++ bytes }
