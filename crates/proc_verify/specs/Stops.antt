-- What the check of statements says of what typing gives.
use Rattle.std.specs.Prelude.{◌≡◌, Result}
use Rattle.std.specs.declared.result.Result.TheVariants.{Ok, Err}
use Rattle.proc_lang.specs.Typing.{Flaw, Reached}
use Rattle.proc_verify.specs.declared.progress.Reached.{Reached as Point}
use Rattle.proc_verify.specs.declared.progress.CheckStop.{CheckStop}
use Rattle.proc_verify.specs.declared.progress.CheckStop.TheVariants as stop

abbrev pub standing : Point → Reached
standing p = record { next = p.next; set = p.set }

-- it comes as far, or stops at the same flaw; out of memory says nothing
abbrev pub Reaches : Result Point CheckStop → Result Reached Flaw → Type 0
Reaches (Ok p) typed = typed ≡ Ok (standing p)
Reaches (Err stop.Memory) typed = Unit {0}
Reaches (Err (stop.Flaw place cause)) typed = typed ≡ Err (record { place = place; cause = cause })
