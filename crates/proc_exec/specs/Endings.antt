-- What a whole run through a window comes to.
use Rattle.std.specs.Prelude.{◌≡◌, Some, None}
use Rattle.aria_base.specs.Orders.{key_cmp}
use Rattle.aria_base.specs.declared.keys.Key.{Key}
use Rattle.batch_rules.specs.Trees.{end_of, left_by, trace_of}
use Rattle.batch_rules.specs.Touches.{Declared as Touchable, all_noted, outside}
use Rattle.proc_lang.specs.declared.ends.End.{End}
use Rattle.proc_lang.specs.Meaning.{Run}
use Rattle.proc_exec.specs.declared.outcomes.Ran.{Ran}
use Rattle.proc_exec.specs.declared.outcomes.Ran.TheVariants as ran
use Rattle.proc_exec.specs.Steppings.{Window}

-- The run ends as it does on the window's map. The window then stands for the map that the run leaves, writes of an early end
-- included, and has noted what the run touches.
abbrev pub EndsAs : Run → Window → Window → End → Type 0
EndsAs run old new end = (end ≡ end_of run old.map)
    × (new ≡ record { map = left_by run old.map; noted = all_noted key_cmp old.noted (trace_of run old.map) })

-- the same where no access lies outside the declared keys; else the key of the first one that does
abbrev pub EndsWithin : Touchable Key → Run → Window → Window → Ran → Type 0
EndsWithin declared run old new (ran.Ended end) = (outside key_cmp declared (trace_of run old.map) ≡ None) × EndsAs run old new end
EndsWithin declared run old new (ran.Moved key) = outside key_cmp declared (trace_of run old.map) ≡ Some key
