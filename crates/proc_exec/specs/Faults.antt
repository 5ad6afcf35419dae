-- What the result of an evaluation says of the value that the meaning gives.
use Rattle.std.specs.Prelude.{◌≡◌, Result}
use Rattle.std.specs.declared.result.Result.TheVariants.{Ok, Err}
use Rattle.proc_lang.specs.Values.{Got}
use Rattle.proc_exec.specs.declared.early_ends.EvalFault.{EvalFault}
use Rattle.proc_exec.specs.declared.early_ends.EvalFault.TheVariants as fault
use Rattle.proc_exec.specs.declared.early_ends.RunStop.{RunStop}
use Rattle.proc_exec.specs.declared.early_ends.RunStop.TheVariants as stop

-- the value or the trap is the meaning's; out of memory says nothing
abbrev pub Computes : {A : Type 0} → Result A EvalFault → Got A → Type 0
Computes (Ok x) meant = meant ≡ Ok x
Computes (Err fault.Memory) meant = Unit {0}
Computes (Err (fault.Trap trap)) meant = meant ≡ Err trap

abbrev pub stop_of : EvalFault → RunStop
stop_of fault.Memory = stop.Memory
stop_of (fault.Trap trap) = stop.Trap trap
