use Rattle.std.proofs.Common.{◌≡◌, true, map, take}
use Rattle.std.specs.List.{list_all}
use Rattle.serde_json.specs.View.{view}
use Rattle.proc_lang.specs.TermOf.{term_of}
use Rattle.cat_forms.specs.Written.{term_data}
use Rattle.cat_write.specs.Held.{term_held}
use Rattle.cat_write.proofs.step_writers.write_exprs.Given as goal

abbrev pub invariant-loop-expr : goal.invariant-loop-expr
invariant-loop-expr l = record {
  data_of : map view l.values.items ≡ map term_data (map term_of (take l.expr-index l.expr-items));
  held : list_all term_held (map term_of (take l.expr-index l.expr-items)) ≡ true;
}
