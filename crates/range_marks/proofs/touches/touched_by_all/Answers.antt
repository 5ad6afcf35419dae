use Rattle.std.proofs.Common.{◌≡◌, slice_index_or}
use Rattle.range_rules.specs.declared.routines.Ran.{Ran}
use Rattle.work_crew.proofs.Lists.{all_as_map}
use Rattle.range_marks.specs.Marks.{sets_with}
use Rattle.range_marks.proofs.touches.touched_by_all.Goals as goal

pub returns : goal.returns
returns g c = all_as_map (λ place sets. (d : Ran) → sets ≡ sets_with c.args.scanned.now (slice_index_or c.args.rans.now place d))
    (sets_with c.args.scanned.now) c.args.rans.now (λ v. v.items) c.gather.result (λ place output d gives. gives d) c.gather.ensures
