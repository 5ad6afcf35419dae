-- The routine of the tests: its numbers are steps of three, each of which asks for one action.
use Rattle.std.specs.Prelude.{ℕ, ℤ, pos, min, nat_lt, List, [], ◌∷◌, ◌++◌, drop, length, replicate, Option, Some, None, Bool, true, if◌then◌else◌}
use Rattle.std.specs.Ordering.{int_eq}
use Rattle.aria_base.specs.Orders.{Cells}
use Rattle.aria_base.specs.declared.keys.Key.{Key}
use Rattle.aria_base.specs.declared.keys.Part.TheVariants as part
use Rattle.aria_base.specs.declared.limits.TheConstants.{LONGEST_TEXT}
use Rattle.aria_base.specs.declared.values.Value.TheVariants as value
use Rattle.proc_lang.specs.declared.ends.End.{End}
use Rattle.proc_lang.specs.declared.ends.End.TheVariants as end
use Rattle.proc_lang.specs.declared.ends.Trap.TheVariants.{Absent, Many as TooMany}
use Rattle.proc_lang.specs.declared.limits.TheConstants.{MOST_GIVEN}
use Rattle.range_rules.specs.declared.routines.Action.{Action}
use Rattle.range_rules.specs.declared.routines.Action.TheVariants as action
use Rattle.range_rules.specs.declared.routines.RoutineCall.{RoutineCall}
use Rattle.range_rules.specs.declared.routines.Seen.{Seen}
use Rattle.range_rules.specs.declared.routines.Seen.TheVariants.{One, Wrote, Many}

-- a key of two numbers in table 0, and one of a text and a number in table 1
abbrev pub pair : ℤ → ℤ → Key
pair a b = record { table = 0; parts = part.Int a ∷ part.Int b ∷ [] }

abbrev pub under_text : List ℕ → ℤ → Key
under_text text b = record { table = 1; parts = part.Text text ∷ part.Int b ∷ [] }

abbrev pub number_row : ℤ → Cells
number_row n = value.Int n ∷ []

-- as many letters z as a text has
unfoldable pub longest : List ℕ
longest = replicate LONGEST_TEXT 122

-- ---- what was found

-- all that rows hold, one after the other
abbrev pub told : List (Key × Cells) → Cells
told [] = []
told (e ∷ es) = e.1 ++ told es

-- what a read found
abbrev pub held : Option Cells → Cells
held None = []
held (Some row) = row

-- what was found so far, and what an answer adds to it
abbrev pub noted : Cells → Seen → Cells
noted found (One row) = found ++ held row
noted found Wrote = found
noted found (Many rows) = found ++ told rows

-- how many values that is
abbrev pub count_of : Cells → ℤ
count_of found = pos (min (length found) 1000)

-- ---- what is asked for

-- a run gives so many values at most
abbrev pub done : Cells → End
done found = if nat_lt MOST_GIVEN (length found) then end.Trap TooMany else end.Done found

-- at the end it gives what it found, and how much that is
abbrev pub stop : Cells → Action
stop found = action.Stop (done (found ++ number_row (count_of found)))

abbrev pub scanned : ℤ → ℤ → Action
scanned op a =
    if int_eq op (pos 6) then action.Scan (record { table = 0; parts = part.Int a ∷ [] }) else (
    if int_eq op (pos 7) then action.Scan (record { table = 0; parts = [] }) else (
    if int_eq op (pos 8) then action.Scan (record { table = 1; parts = part.Text longest ∷ [] }) else (
    if int_eq op (pos 9) then action.Scan (record { table = 1; parts = [] }) else action.Stop (end.Trap Absent))))

abbrev pub asked : ℤ → ℤ → ℤ → Cells → Action
asked op a b found =
    if int_eq op (pos 1) then action.Read (pair a b) else (
    if int_eq op (pos 2) then action.Write (pair a b) (Some (number_row (count_of found))) else (
    if int_eq op (pos 3) then action.Write (pair a (count_of found)) (Some (number_row b)) else (
    if int_eq op (pos 4) then action.Write (pair a b) None else scanned op a)))

-- the first of these steps, where so much was found
abbrev pub at_step : List ℤ → Cells → Action
at_step [] found = stop found
at_step (op ∷ []) found = stop found
at_step (op ∷ a ∷ []) found = stop found
at_step (op ∷ a ∷ b ∷ rest) found = asked op a b found

-- the steps behind it
abbrev pub behind : List ℤ → List ℤ
behind steps = drop (min (length steps) 3) steps

-- the action after these answers, each of which belongs to one step
abbrev pub after : List ℤ → Cells → List Seen → Action
after steps found [] = at_step steps found
after steps found (one ∷ seen) = after (behind steps) (noted found one) seen

abbrev pub act_of : RoutineCall → List Seen → Action
act_of call seen = after call.nums [] seen

-- every call is taken
abbrev pub takes_any : RoutineCall → Bool
takes_any call = true
