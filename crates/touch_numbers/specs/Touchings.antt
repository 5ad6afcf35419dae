-- The sets of keys that references show.
use Rattle.std.specs.Prelude.{List}
use Rattle.aria_base.specs.declared.keys.Key.{Key}
use Rattle.batch_rules.specs.Touches.{keys_of}
use Rattle.dep_rules.specs.declared.sets.Sets.{Sets}
use Rattle.touch_numbers.specs.declared.touchings.Touching.{Touching}
use Rattle.touch_numbers.specs.declared.touchings.Written.{Written}
use Rattle.touch_numbers.specs.declared.touchings.Written.TheVariants.{Keys, Rows}

-- the keys that were written
abbrev pub written_in : Written → List Key
written_in (Keys keys) = keys.now
written_in (Rows rows) = keys_of rows.now

-- the keys that were read and written
abbrev pub sets_of : Touching → Sets
sets_of t = record { reads = t.reads.now; writes = written_in t.writes }
