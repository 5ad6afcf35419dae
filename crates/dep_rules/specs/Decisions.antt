-- The sets of a request as the definitions of dependencies read them.
use Rattle.std.specs.Prelude.{List}
use Rattle.aria_base.specs.declared.keys.Key.{Key}
use Rattle.dep_rules.specs.declared.sets.Sets.{Sets}
use Rattle.dep_rules.specs.declared.decisions.Side.{Side}
use Rattle.dep_rules.specs.declared.decisions.Side.TheVariants as side

abbrev pub reads_of : Sets → List Key
reads_of sets = sets.reads

abbrev pub writes_of : Sets → List Key
writes_of sets = sets.writes

abbrev pub side_of : Side → Sets → List Key
side_of side.Reads sets = sets.reads
side_of side.Writes sets = sets.writes
