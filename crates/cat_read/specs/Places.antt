-- The paths of the places that the reader comes to.
use Rattle.std.specs.Prelude.{List, []}
use Rattle.proc_lang.specs.declared.procs.PathPart.{PathPart}
use Rattle.cat_forms.specs.Places.{in_member, in_item}
use Rattle.cat_read.specs.declared.places.JsonPlace.{JsonPlace}
use Rattle.cat_read.specs.declared.places.JsonPlace.TheVariants.{Root, Member', Item'}

abbrev pub path_of : JsonPlace → List PathPart
path_of Root = []
path_of (Member' p before member) = in_member (path_of before) member
path_of (Item' p before at) = in_item (path_of before) at
