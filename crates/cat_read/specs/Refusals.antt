-- Which refusal follows on which finding, and what is printed of it.
use Rattle.std.specs.Prelude.{ℕ, List, codes}
use Rattle.proc_lang.specs.Flaws.{wrong_text}
use Rattle.proc_verify.specs.declared.refusals.VerifyRefused.{VerifyRefused}
use Rattle.proc_verify.specs.declared.refusals.VerifyRefused.TheVariants as verify
use Rattle.cat_read.specs.declared.faults.Fault.{Fault}
use Rattle.cat_read.specs.declared.faults.Fault.TheVariants as fault
use Rattle.cat_read.specs.declared.refusals.CatRefused.{CatRefused}
use Rattle.cat_read.specs.declared.refusals.CatRefused.TheVariants.{Memory, NotJson, Shape, Wrong}

abbrev pub of_fault : Fault → CatRefused
of_fault fault.Memory = Memory
of_fault (fault.Shape path) = Shape path

abbrev pub of_typing : VerifyRefused → CatRefused
of_typing verify.Memory = Memory
of_typing (verify.Wrong w) = Wrong w

-- what `{}` prints of a refusal
abbrev pub refusal_text : CatRefused → List ℕ
refusal_text Memory = codes "no memory"
refusal_text NotJson = codes "the text is no JSON"
refusal_text (Shape path) = codes "the text has not the form of a catalogue"
refusal_text (Wrong w) = wrong_text w
