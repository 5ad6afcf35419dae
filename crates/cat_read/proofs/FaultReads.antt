-- A reader that answers the fault of a path.
use Rattle.std.proofs.Common.{◌≡◌, List, ◌∙◌, ap, sym}
use Rattle.std.specs.declared.result.Result.TheVariants.{Err}
use Rattle.proc_lang.specs.declared.procs.PathPart.{PathPart}
use Rattle.cat_forms.specs.Shapes.{Shaped}
use Rattle.cat_read.specs.declared.faults.Fault.{Fault}
use Rattle.cat_read.specs.declared.faults.Fault.TheVariants as fault
use Rattle.cat_read.specs.Faults.{Reads, IsFaultAt}

-- it reads what the walk reads, where that is this fault
pub reads_fault : {A B : Type 0} (says : A → B) (path : List PathPart) (f : Fault) (s : Shaped B) → IsFaultAt path f → s ≡ Err path → Reads says (Err f) s
reads_fault says path fault.Memory s h e = tt
reads_fault says path (fault.Shape p) s h e = e ∙ ap Err (sym h)
