-- Places in a catalogue's JSON.
use Rattle.std.specs.Prelude.{ℕ, ◌^◌, ◌-◌, List, [], ◌∷◌, ◌++◌, min}
use Rattle.proc_lang.specs.declared.procs.PathPart.{PathPart}
use Rattle.proc_lang.specs.declared.procs.PathPart.TheVariants as part
use Rattle.cat_forms.specs.declared.members.Member.{Member}
use Rattle.cat_forms.specs.Members.{member_name}

-- a member of the object at the path
abbrev pub in_member : List PathPart → Member → List PathPart
in_member path member = path ++ part.Member (member_name member) ∷ []

-- an item of the array at the path, from 0; a path counts no further than its numbers go
abbrev pub in_item : List PathPart → ℕ → List PathPart
in_item path at = path ++ part.Place (min at (2 ^ 32 - 1)) ∷ []
