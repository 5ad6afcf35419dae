use Rattle.std.proofs.Common.{◌≡◌, true, map, take}
use Rattle.std.specs.List.{list_all}
use Rattle.serde_json.specs.View.{view}
use Rattle.cat_forms.specs.Written.{index_data}
use Rattle.cat_write.specs.Held.{is_u32}
use Rattle.cat_write.proofs.step_writers.write_regs.Given as goal

abbrev pub invariant-loop-register : goal.invariant-loop-register
invariant-loop-register l = record {
  data_of : map view l.values.items ≡ map index_data (take l.register-index l.register-items);
  held : list_all is_u32 (take l.register-index l.register-items) ≡ true;
}
