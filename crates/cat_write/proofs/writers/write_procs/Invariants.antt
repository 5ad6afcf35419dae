use Rattle.std.proofs.Common.{◌≡◌, true, map, take}
use Rattle.std.specs.List.{list_all}
use Rattle.serde_json.specs.View.{view}
use Rattle.cat_forms.specs.Written.{proc_data}
use Rattle.cat_write.specs.Held.{steps_held}
use Rattle.cat_write.proofs.writers.write_procs.Given as goal

abbrev pub invariant-loop-checked : goal.invariant-loop-checked
invariant-loop-checked l = record {
  data_of : map view l.values.items ≡ map (proc_data l.tables) (take l.checked-index l.procs);
  held : list_all (λ p. steps_held p.body) (take l.checked-index l.procs) ≡ true;
}
