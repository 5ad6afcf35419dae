use Rattle.std.proofs.Common.{◌≡◌, map, take}
use Rattle.serde_json.specs.View.{view}
use Rattle.serde_json.specs.Data.{string}
use Rattle.cat_forms.specs.Names.{arg_kind_name}
use Rattle.cat_write.proofs.writers.write_arg_kinds.Given as goal

abbrev pub invariant-loop-kind : goal.invariant-loop-kind
invariant-loop-kind l = map view l.values.items ≡ map (λ k. string (arg_kind_name k)) (take l.kind-index l.kind-items)
