use Rattle.std.proofs.Common.{◌≡◌, ◌≤◌, ◌++◌, length, true}
use Rattle.std.specs.List.{All, list_all}
use Rattle.std.specs.Vec.Iter.{into_iter_items}
use Rattle.proc_lang.specs.declared.limits.TheConstants.{MOST_PROCS}
use Rattle.proc_lang.specs.Catalogs.{proc_fits}
use Rattle.proc_lang.specs.Typing.{IsWellTyped}
use Rattle.cat_read.specs.Texts.{wrong_from}
use Rattle.cat_read.proofs.readers.sealed.Given as goal

-- those that are done and those that are left are all
abbrev pub invariant-loop-proc : goal.invariant-loop-proc
invariant-loop-proc l =
    (goal.iterator-loop-proc).can_next l.proc-iterator ×
    (goal.iterator-loop-proc).is_finite l.proc-iterator ×
    (l.done.items ++ into_iter_items l.proc-iterator ≡ l.fn.procs.items) ×
    (l.number ≡ length l.done.items) ×
    (list_all proc_fits (into_iter_items l.proc-iterator) ≡ true) ×
    All (IsWellTyped l.schema) l.done.items ×
    (wrong_from l.schema l.number (into_iter_items l.proc-iterator) ≡ wrong_from l.schema 0 l.fn.procs.items) ×
    (length l.fn.procs.items ≤ MOST_PROCS)
