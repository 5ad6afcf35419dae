-- What a window sees of the database below it, and of what was written through it.
use Rattle.std.specs.Prelude.{List, [], ◌∷◌, Option, if◌then◌else◌, refl}
use Rattle.std.specs.Coded.{Coded, code_by, coded×, coded_list}
use Rattle.aria_base.specs.Orders.{Cells, Database}
use Rattle.aria_base.specs.declared.keys.Key.{Key}
use Rattle.batch_rules.specs.Trees.{set_at}
use Rattle.batch_rules.specs.Touches.{nothing, overwritten}
use Rattle.tbl_snapshot.specs.Layers.{Layer, layer_code}
use Rattle.range_rules.specs.contracts.routines.Prefix as prefix
use Rattle.range_rules.specs.declared.routines.Prefix.{Prefix}
use Rattle.range_rules.specs.declared.routines.Seen.{Seen}
use Rattle.range_rules.specs.Courses.{Course}
use Rattle.range_rules.specs.Scans.{is_under, with_scan}

-- with a write that is under the prefix, and with all of these that are. Of a key that stands twice the first one counts
abbrev pub write_under : Prefix → Database → Key → Option Cells → Database
write_under p db k row = if is_under p k then set_at db k row else db

abbrev pub written_under : Prefix → Database → List (Key × Option Cells) → Database
written_under p db [] = db
written_under p db (w ∷ ws) = write_under p (written_under p db ws) w.0 w.1

-- what stands behind a window: the database, what was read and written, and what was scanned
pub record Glass : Type 0 where
  pub layer : Layer
  pub scans : List Prefix

abbrev pub glass_code : Coded Glass
glass_code = code_by (Layer × List Prefix) (coded× layer_code (coded_list (prefix.the_row).coded)) (λ g. (g.layer, g.scans))
    (λ p. record { layer = p.0; scans = p.1 }) (λ _. refl)

abbrev pub opened : Database → Glass
opened db = record { layer = record { base = db; noted = nothing }; scans = [] }

-- the map that it stands for
abbrev pub map_of : Glass → Database
map_of glass = overwritten glass.layer.base glass.layer.noted.writes

abbrev pub with_scanned : Glass → Prefix → Glass
with_scanned glass p = record { layer = glass.layer; scans = with_scan glass.scans p }

abbrev pub course_of : Glass → List Seen → Course
course_of glass seen = record { map = map_of glass; noted = glass.layer.noted; scans = glass.scans; seen = seen }
