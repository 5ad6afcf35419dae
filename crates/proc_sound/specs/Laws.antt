-- What is proved of well-typed procedures, as sentences over the definitions.
use Rattle.std.specs.Prelude.{◌≡◌, ◌≤◌, ◌+◌, ◌&&◌, true, Bool, nat_le, length, List, Some}
use Rattle.std.specs.List.{list_all}
use Rattle.aria_base.specs.Orders.{Database}
use Rattle.aria_base.specs.Schemas.{IsConsistent}
use Rattle.aria_base.specs.declared.schemas.Table.{Table}
use Rattle.aria_base.specs.declared.calls.Request.{Request}
use Rattle.batch_rules.specs.Trees.{trace_of, end_of, left_by}
use Rattle.batch_rules.specs.Touches.{reads_of, writes_of, map_after}
use Rattle.proc_lang.specs.declared.procs.Proc.{Proc}
use Rattle.aria_base.specs.declared.limits.TheConstants.{FEWEST_PARTS, MOST_PARTS, MOST_COLUMNS}
use Rattle.proc_lang.specs.declared.limits.TheConstants.{MOST_ACCESSES}
use Rattle.proc_lang.specs.Meaning.{Run, is_done}
use Rattle.proc_lang.specs.Typing.{IsWellTyped}
use Rattle.proc_lang.specs.Catalogs.{is_between, args_fit}
use Rattle.proc_sound.specs.Careful.{Careful}

-- keys and rows of the table are within the limits of keys and of rows
abbrev pub shape_fits : Table → Bool
shape_fits t = is_between FEWEST_PARTS MOST_PARTS (length t.key) && nat_le (length t.cols) MOST_COLUMNS

-- the procedure is well typed under the tables, and the request's arguments fit it
pub record Suits (tables : List Table) (p : Proc) (request : Request) : Type 0 where
  pub shapes : list_all shape_fits tables ≡ true
  pub typed : IsWellTyped tables p
  pub args : args_fit p.args request.call.args ≡ true

-- on the database the careful run makes the accesses of the plain run and comes to its end: so it is not stuck
pub record IsNeverStuck (careful : Careful) (plain : Run) (db : Database) : Type 0 where
  pub trace : trace_of careful db ≡ trace_of plain db
  pub end : end_of careful db ≡ Some (end_of plain db)

-- the run leaves only rows that the tables take, with all that it wrote and as its end has it
pub record StaysConsistent (tables : List Table) (run : Run) (db : Database) : Type 0 where
  pub left : IsConsistent tables (left_by run db)
  pub after : IsConsistent tables (map_after is_done run db)

-- the run's read set and write set have together no more keys than a run may make accesses
abbrev pub TouchesFew : Run → Database → Type 0
TouchesFew run db = length (reads_of run db) + length (writes_of is_done run db) ≤ MOST_ACCESSES
