-- What a reader answers, beside what the walk reads.
use Rattle.std.specs.Prelude.{◌≡◌, List, Result}
use Rattle.std.specs.declared.result.Result.TheVariants.{Ok, Err}
use Rattle.proc_lang.specs.declared.procs.PathPart.{PathPart}
use Rattle.cat_forms.specs.Shapes.{Shaped}
use Rattle.cat_read.specs.declared.faults.Fault.{Fault}
use Rattle.cat_read.specs.declared.faults.Fault.TheVariants as fault

-- the fault of a path, unless memory ran out
abbrev pub IsFaultAt : List PathPart → Fault → Type 0
IsFaultAt path fault.Memory = Unit {0}
IsFaultAt path (fault.Shape p) = p ≡ path

-- what a reader answered, seen by says, is what the walk reads, unless memory ran out
abbrev pub Reads : {A B : Type 0} → (A → B) → Result A Fault → Shaped B → Type 0
Reads says (Ok x) read = read ≡ Ok (says x)
Reads says (Err fault.Memory) read = Unit {0}
Reads says (Err (fault.Shape p)) read = read ≡ Err p
