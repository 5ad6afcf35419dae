-- What a run leaves is the rows before it with its writes over them.
use Rattle.std.proofs.Common.{◌≡◌}
use Rattle.aria_base.specs.Orders.{Cells, Database}
use Rattle.aria_base.specs.declared.keys.Key.{Key}
use Rattle.aria_base.proofs.Orders.{key_cmp_total, key_cmp-IsAntisymmetric}
use Rattle.batch_rules.specs.Touches.{map_after, overwritten}
use Rattle.batch_rules.specs.Batches.{rows_at}
use Rattle.batch_rules.specs.Trees.{Tree}
use Rattle.batch_rules.proofs.Maps.{map_after-is}
use Rattle.proc_lang.specs.declared.ends.End.{End}
use Rattle.proc_lang.specs.Meaning.{is_done}
use Rattle.aria_base.specs.declared.calls.Request.{Request}

pub framed : (tree : Request → Tree Key Cells End) (request : Request) (db : Database)
    → map_after is_done (tree request) db ≡ overwritten db (rows_at is_done tree db request)
framed tree request db = map_after-is key_cmp_total key_cmp-IsAntisymmetric is_done (tree request) db
