use Rattle.std.proofs.Common.{◌≡◌, map, take}
use Rattle.serde_json.specs.View.{view}
use Rattle.serde_json.specs.Data.{string}
use Rattle.cat_forms.specs.Names.{kind_name}
use Rattle.cat_write.proofs.writers.write_kinds.Given as goal

abbrev pub invariant-loop-kind : goal.invariant-loop-kind
invariant-loop-kind l = map view l.values.items ≡ map (λ k. string (kind_name k)) (take l.kind-index l.kind-items)
