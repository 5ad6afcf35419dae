-- Declared keys, as the rules of a batch speak of them.
use Rattle.aria_base.specs.declared.keys.Key.{Key}
use Rattle.batch_rules.specs.Touches.{Declared as Touchable}
use Rattle.proc_exec.specs.declared.outcomes.Declared.{Declared}

abbrev pub touchable : Declared → Touchable Key
touchable d = record { reads = d.reads; writes = d.writes }
