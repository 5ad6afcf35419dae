-- The line that says which line of a script is refused, and why.
use Rattle.std.specs.Prelude.{ℕ, List, [], ◌∷◌, ◌++◌, codes, decimal}
use Rattle.proc_lang.specs.declared.flaws.Wrong.{Wrong}
use Rattle.proc_lang.specs.declared.procs.PathPart.{PathPart}
use Rattle.proc_lang.specs.declared.procs.PathPart.TheVariants as step
use Rattle.script_text.specs.Tokens.{behind}
use Rattle.script_text.specs.declared.refusals.Refusal.{Refusal}
use Rattle.script_text.specs.declared.refusals.RefusalKind.{RefusalKind}
use Rattle.script_text.specs.declared.refusals.RefusalKind.TheVariants as kind
use Rattle.script_text.specs.declared.refusals.CatFault.{CatFault}
use Rattle.script_text.specs.declared.refusals.CatFault.TheVariants as fault

-- a step into a catalogue's text: a member's name, or a place in an array
abbrev pub step_text : PathPart → List ℕ
step_text (step.Member name) = name
step_text (step.Place place) = decimal place

-- each step behind a `/` (47), which stands alone for the whole text
abbrev pub path_text : List PathPart → List ℕ
path_text [] = codes "/"
path_text (step ∷ steps) = behind 47 step_text (step ∷ steps)

abbrev pub untyped_text : Wrong → List ℕ
untyped_text w = codes "wrong " ++ decimal w.proc ++ codes " " ++ decimal w.place ++ codes " " ++ decimal w.cause

abbrev pub fault_text : CatFault → List ℕ
fault_text fault.Long = codes "long"
fault_text fault.NotJson = codes "json"
fault_text (fault.Shape path) = codes "shape " ++ path_text path
fault_text (fault.Wrong wrong) = untyped_text wrong

abbrev pub kind_text : RefusalKind → List ℕ
kind_text kind.Long = codes "long"
kind_text kind.Byte = codes "byte"
kind_text kind.Word = codes "word"
kind_text kind.Name = codes "name"
kind_text kind.Argument = codes "argument"
kind_text kind.Site = codes "place"
kind_text kind.Unfinished = codes "unfinished"
kind_text kind.Size = codes "size"
kind_text kind.Batch = codes "batch"
kind_text (kind.Gap got wanted) = codes "gap " ++ decimal got ++ codes " " ++ decimal wanted
kind_text kind.Numbers = codes "numbers"
kind_text (kind.Catalog fault) = codes "catalog " ++ fault_text fault

abbrev pub refusal_text : Refusal → List ℕ
refusal_text refusal = codes "refused " ++ decimal refusal.line ++ codes " " ++ kind_text refusal.kind ++ codes "\n"
