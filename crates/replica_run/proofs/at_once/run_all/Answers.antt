use Rattle.replica_run.proofs.Running.{all_doable, have_run}
use Rattle.replica_run.proofs.at_once.run_all.Goals as goal

pub do_all-requires-clause-doable : goal.do_all-requires-clause-doable
do_all-requires-clause-doable g c κs within = all_doable c.args.config.now c.args.calls c.args.engines.items c.in_ok-jobs.jobs.items c.in_ok-jobs.ensures
    c.requires.may

pub returns : goal.returns
returns g c =
    have_run c.args.config.now c.args.calls c.args.engines.items c.in_ok-jobs.jobs.items c.in_ok-results.results.items c.in_ok-rans.rans.items
    c.in_ok-jobs.ensures c.in_ok-rans.ensures c.in_ok-results.ensures.len c.in_ok-results.ensures.each
