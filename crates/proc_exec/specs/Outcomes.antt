-- What a run on a snapshot comes to, whatever the requests do: `tree` says it of each.
use Rattle.std.specs.Prelude.{Option, Some, None}
use Rattle.aria_base.specs.Orders.{key_cmp, Cells, Database}
use Rattle.aria_base.specs.declared.keys.Key.{Key}
use Rattle.aria_base.specs.declared.calls.Request.{Request}
use Rattle.proc_lang.specs.declared.ends.End.{End}
use Rattle.proc_lang.specs.Meaning.{is_done}
use Rattle.batch_rules.specs.Trees.{Tree, end_of, trace_of}
use Rattle.batch_rules.specs.Touches.{Declared as Touchable, outside}
use Rattle.batch_rules.specs.Batches.{reads_at, rows_at}
use Rattle.proc_exec.specs.declared.outcomes.Outcome.{Outcome}
use Rattle.proc_exec.specs.declared.outcomes.Within.{Within}
use Rattle.proc_exec.specs.declared.outcomes.Within.TheVariants as within

-- the outcome where no access lies outside, and else the key of the first one that does
abbrev pub within_by : Option Key → Outcome → Within
within_by None outcome = within.Ended outcome
within_by (Some key) outcome = within.Moved key

module _ (tree : Request → Tree Key Cells End) where
  -- the keys that it reads before it writes them, the rows that it leaves where it is done, and its end
  abbrev pub outcome_at : Database → Request → Outcome
  outcome_at start q = record { reads = reads_at is_done tree start q; writes = rows_at is_done tree start q; end = end_of (tree q) start }

  -- the same of a run that stops before its first access outside the declared keys
  abbrev pub within_at : Touchable Key → Database → Request → Within
  within_at declared start q = within_by (outside key_cmp declared (trace_of (tree q) start)) (outcome_at start q)
