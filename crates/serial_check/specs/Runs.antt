-- How the requests of an order end where they are run one after the other.
use Rattle.std.specs.Prelude.{ℕ, ◌==◌, if◌then◌else◌, List, [], ◌∷◌, Option, Some, None}
use Rattle.std.specs.Option.{option_or}
use Rattle.aria_base.specs.Orders.{Cells, Database}
use Rattle.aria_base.specs.declared.keys.Key.{Key}
use Rattle.aria_base.specs.declared.calls.Request.{Request}
use Rattle.proc_lang.specs.declared.ends.End.{End}
use Rattle.proc_lang.specs.Meaning.{is_done}
use Rattle.batch_rules.specs.Trees.{Tree, end_of}
use Rattle.batch_rules.specs.Touches.{map_after}

module _ (tree : Request → Tree Key Cells End) where
  -- how the request with this number ends in the serial run of these requests from these rows; None where none of them has it. (In an
  -- order no number stands twice.)
  abbrev pub end_in : Database → List Request → ℕ → Option End
  end_in rows [] q = None
  end_in rows (r ∷ rs) q =
      option_or (end_in (map_after is_done (tree r) rows) rs q) (if r.q == q then Some (end_of (tree r) rows) else None)
