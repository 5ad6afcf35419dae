use Rattle.std.proofs.Common.{◌≡◌, drop, map}
use Rattle.serde_json.specs.View.{view, items_view}
use Rattle.proc_lang.specs.TermOf.{term_of}
use Rattle.cat_forms.specs.Places.{in_item}
use Rattle.cat_forms.specs.TermWalks.{terms_after}
use Rattle.cat_forms.specs.StepWalks.{terms_at}
use Rattle.cat_read.specs.Places.{path_of}
use Rattle.cat_read.proofs.statements.read_exprs.Given as goal

abbrev pub invariant-loop-count : goal.invariant-loop-count
invariant-loop-count l = terms_after (in_item (path_of l.fn.place) l.fn.at) l.count (map term_of l.exprs.items)
    (items_view (drop l.count l.item-items)) ≡ terms_at (path_of l.fn.place) l.fn.at (view l.fn.value)
