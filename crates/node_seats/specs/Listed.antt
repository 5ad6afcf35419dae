-- The numbers of the messages that a node keeps, as a list.
use Rattle.std.specs.Prelude.{ℕ, List, [], ◌∷◌, ◌++◌}
use Rattle.node_seats.specs.declared.numbers.Numbers.{Numbers}
use Rattle.node_seats.specs.declared.numbers.Numbers.TheVariants.{None, Behind'}

abbrev pub listed : Numbers → List ℕ
listed None = []
listed (Behind' mark earlier number) = listed earlier ++ number ∷ []
