-- The writes that a list of references shows.
use Rattle.std.specs.Prelude.{List, map}
use Rattle.install_phase.specs.declared.dues.Due.{Due}
use Rattle.install_phase.specs.Writes.{Written}

abbrev pub shown : List Due → Written
shown dues = map (λ due. due.write.now) dues
