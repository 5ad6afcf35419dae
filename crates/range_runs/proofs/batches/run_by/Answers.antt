use Rattle.std.proofs.Common.{◌≡◌, slice_index_or}
use Rattle.range_rules.specs.declared.routines.NumberedWork.{NumberedWork}
use Rattle.range_rules.specs.Courses.{ran_on}
use Rattle.work_crew.proofs.Lists.{all_as_map}
use Rattle.range_runs.proofs.batches.run_by.Goals as goal

pub returns : goal.returns
returns g c =
    let ran = ran_on (g.C.Procs.tree c.args.procs.now) (g.R.Routine.act c.args.routines.now) c.args.snapshot in
    all_as_map (λ place output. (d : NumberedWork) → output ≡ ran (slice_index_or c.args.list.now place d)) ran c.args.list.now (λ v. v.items) c.gather.result
    (λ place output d gives. gives d) c.gather.ensures
