-- What the sealing of procedures finds.
use Rattle.std.specs.Prelude.{◌≡◌, List, Some}
use Rattle.aria_base.specs.declared.schemas.Table.{Table}
use Rattle.proc_lang.specs.declared.procs.Proc.{Proc}
use Rattle.cat_read.specs.declared.refusals.CatRefused.{CatRefused}
use Rattle.cat_read.specs.declared.refusals.CatRefused.TheVariants as refused
use Rattle.cat_read.specs.Texts.{wrong_from}

-- it names the first that is not well typed; out of memory says nothing, and nothing else is found
abbrev pub NamesFirstWrong : List Table → List Proc → CatRefused → Type 0
NamesFirstWrong tables procs refused.Memory = Unit {0}
NamesFirstWrong tables procs refused.NotJson = ⊥
NamesFirstWrong tables procs (refused.Shape path) = ⊥
NamesFirstWrong tables procs (refused.Wrong w) = wrong_from tables 0 procs ≡ Some w
