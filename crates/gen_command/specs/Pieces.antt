-- What a sink was given of a text that is given piece by piece.
use Rattle.std.specs.Prelude.{ℕ, List, Option, Result}
use Rattle.aria_base.specs.Streams.{Gives}
use Rattle.gen_command.specs.declared.cuts.Cut.{Cut}
use Rattle.gen_command.specs.declared.cuts.Cut.TheVariants as cut

-- a text that is cut off by the sink says that its count of faults rose
abbrev pub IsCutBy : Cut → Type 0 → Type 0
IsCutBy cut.NoMemory sink = Unit {0}
IsCutBy cut.NoWrite sink = sink

-- to give the rest from here is to give the whole from there
abbrev pub LeadsTo : List ℕ → Option (List ℕ) → List ℕ → Option (List ℕ) → Type 0
LeadsTo rest now whole old = (new : Option (List ℕ)) (result : Result (Unit {0}) Cut)
    → Gives now new result rest → Gives old new result whole
