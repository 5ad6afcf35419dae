-- What the steps of the interpreter say of the run that the meaning gives. Out of memory says nothing, here and below.
use Rattle.std.specs.Prelude.{◌≡◌, ℕ, ◌+◌, Bool, true, false, nat_lt, List, Option, Some, None, Result}
use Rattle.std.specs.Bool.{MatchBool}
use Rattle.std.specs.declared.result.Result.TheVariants.{Ok, Err}
use Rattle.std.specs.FinMap as fin
use Rattle.aria_base.specs.Orders.{key_cmp, Cells}
use Rattle.aria_base.specs.declared.keys.Key.{Key}
use Rattle.batch_rules.specs.Touches.{Declared as Touchable}
use Rattle.batch_rules.specs.Trees.{Ends}
use Rattle.batch_rules.specs.Plays.{Seen, PlayEnd, Finishes, Strays, Played, after_read, allows_read, play}
use Rattle.proc_lang.specs.declared.ends.End.{End}
use Rattle.proc_lang.specs.declared.ends.End.TheVariants as end
use Rattle.proc_lang.specs.declared.ends.Trap.TheVariants.{Many}
use Rattle.proc_lang.specs.declared.limits.TheConstants.{MOST_ACCESSES}
use Rattle.proc_lang.specs.Meaning.{Frame, Next, Run, set_to, set_all}
use Rattle.proc_exec.specs.declared.outcomes.Ran.{Ran}
use Rattle.proc_exec.specs.declared.outcomes.Ran.TheVariants as ran
use Rattle.proc_exec.specs.declared.early_ends.EvalFault.{EvalFault}
use Rattle.proc_exec.specs.declared.early_ends.EvalFault.TheVariants as fault
use Rattle.proc_exec.specs.declared.early_ends.RunStop.{RunStop}
use Rattle.proc_exec.specs.declared.early_ends.RunStop.TheVariants as stop

abbrev pub Window : Type 0
Window = Seen key_cmp Cells

-- one access more, or the trap where it would be one too many
abbrev pub Counts : {A : Type 0} → Result A EvalFault → Frame → Frame → Type 0
Counts (Ok x) old new = (nat_lt old.made MOST_ACCESSES ≡ true) × (new ≡ record { regs = old.regs; gives = old.gives; made = old.made + 1 })
Counts (Err fault.Memory) old new = ⊥
Counts (Err (fault.Trap trap)) old new = (trap ≡ Many) × (nat_lt old.made MOST_ACCESSES ≡ false)

-- a step without access: what is next goes on from the new frame, or the run ends by the trap
abbrev pub Goes : {A : Type 0} → Result A EvalFault → Next → Frame → Run → Type 0
Goes (Ok x) next frame run = run ≡ next frame
Goes (Err fault.Memory) next frame run = Unit {0}
Goes (Err (fault.Trap trap)) next frame run = run ≡ Ends (end.Trap trap)

-- how the run that is stopped plays
abbrev pub stopped : End → Window → Played key_cmp Cells End
stopped end seen = record { end = Finishes end; seen = seen }

-- The run played from here on is what is next, played from the new frame on the new window; or it has come to its end, or to its
-- first access that is not allowed.
abbrev pub Follows : {A : Type 0} → Result A RunStop → Option (Touchable Key) → Next → Frame → Window → Played key_cmp Cells End → Type 0
Follows (Ok x) limits next frame seen played = played ≡ play limits (next frame) seen
Follows (Err stop.Memory) limits next frame seen played = Unit {0}
Follows (Err (stop.Back code)) limits next frame seen played = played ≡ stopped (end.Back code) seen
Follows (Err (stop.Trap trap)) limits next frame seen played = played ≡ stopped (end.Trap trap) seen
Follows (Err (stop.Moved key)) limits next frame seen played = played ≡ record { end = Strays key.value; seen = seen }

-- A part of a run, as what comes before what is next: played from the old frame on the old window, it is followed so.
abbrev pub Performs : {A : Type 0} → Result A RunStop → Option (Touchable Key) → (Next → Next) → Frame → Frame → Window → Window → Type 0
Performs result limits part old new seen seen' = (next : Next) → Follows result limits next new seen' (play limits (part next old) seen)

-- what was found in registers, where it is a row; else the frame stays
abbrev pub Filled : Bool → Option Cells → List ℕ → Frame → Frame → Type 0
Filled there found ns old new = MatchBool there
    ((row : Cells) × (found ≡ Some row) × (new ≡ set_to old (set_all ns row old.regs)))
    ((found ≡ None) × (new ≡ old))

-- one read of the key into registers: the frame and the window after it
abbrev pub Taken : Bool → Key → List ℕ → Frame → Frame → Window → Window → Type 0
Taken there key ns old new seen seen' = (seen' ≡ after_read seen key) × Filled there (fin.get seen.map key) ns old new

-- the same of a read that is counted, or why it is not made
abbrev pub Fetched : Result Bool RunStop → Option (Touchable Key) → Key → List ℕ → Frame → Frame → Window → Window → Type 0
Fetched (Ok found) limits key ns old new seen seen' = (nat_lt old.made MOST_ACCESSES ≡ true) × (allows_read key_cmp limits key ≡ true)
    × Taken found key ns (record { regs = old.regs; gives = old.gives; made = old.made + 1 }) new seen seen'
Fetched (Err stop.Memory) limits key ns old new seen seen' = Unit {0}
Fetched (Err (stop.Back code)) limits key ns old new seen seen' = ⊥
Fetched (Err (stop.Trap trap)) limits key ns old new seen seen' = (trap ≡ Many) × (nat_lt old.made MOST_ACCESSES ≡ false) × (seen' ≡ seen)
Fetched (Err (stop.Moved other)) limits key ns old new seen seen' = (other.value ≡ key) × (nat_lt old.made MOST_ACCESSES ≡ true)
    × (allows_read key_cmp limits key ≡ false) × (seen' ≡ seen)

-- the end that a run comes to, or the key at which it stops
abbrev pub end_of_ran : Ran → PlayEnd Key End
end_of_ran (ran.Ended end) = Finishes end
end_of_ran (ran.Moved key) = Strays key

-- the whole run, played within the limits, comes to this
abbrev pub ComesTo : Option (Touchable Key) → Run → Window → Window → Ran → Type 0
ComesTo limits run old new ran = play limits run old ≡ record { end = end_of_ran ran; seen = new }
