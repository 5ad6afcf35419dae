use Rattle.std.proofs.Common.{rules, ◌≡◌, ap, subst, length, arith}
use Rattle.proc_lang.specs.Catalogs.{IsCatalog}
use Rattle.range_resv.proofs.Batching.{May, many-verdicts, few-asked, well-asked, finished, ready-again}
use Rattle.range_resv.proofs.engines.ScanEngine.run_batch.Goals as goal

pub commit-requires-clause-catalog : goal.commit-requires-clause-catalog
commit-requires-clause-catalog g c κs within = subst IsCatalog c.catalog.view_is c.catalog.invariant

pub commit-requires-clause-list : goal.commit-requires-clause-list
commit-requires-clause-list g c κs within =
    let taken = g.R.Routine.taken c.args.routines.now in
    let act = g.R.Routine.act c.args.routines.now in
    let may : May taken act c.args.new.items c.args.self = record {
      suits = c.requires.suits;
      old = c.requires.carried;
      new = c.requires.new;
      room = c.requires.room;
      batches = c.requires.batches;
      requests = c.requires.requests;
    } in
    let whole = subst IsCatalog c.catalog.view_is c.catalog.invariant in
    few-asked c.self.view_is taken act c.args.config.now.rule c.args.new.items (λ w db. c.taken_behave.ensures _ taken act w db) whole c.self.invariant.0 may
    _ _ _ c.in_ok-list.ensures c.into_vec.ensures c.deref.ensures.value

pub commit-requires-clause-well : goal.commit-requires-clause-well
commit-requires-clause-well g c κs within =
    let taken = g.R.Routine.taken c.args.routines.now in
    let act = g.R.Routine.act c.args.routines.now in
    let may : May taken act c.args.new.items c.args.self = record {
      suits = c.requires.suits;
      old = c.requires.carried;
      new = c.requires.new;
      room = c.requires.room;
      batches = c.requires.batches;
      requests = c.requires.requests;
    } in
    let whole = subst IsCatalog c.catalog.view_is c.catalog.invariant in
    well-asked c.self.view_is taken act c.args.config.now.rule c.args.new.items (λ w db. c.taken_behave.ensures _ taken act w db) whole c.self.invariant.0 may
    _ _ _ c.in_ok-list.ensures c.into_vec.ensures c.deref.ensures.value

pub settle-requires : goal.settle-requires
settle-requires g c =
    let taken = g.R.Routine.taken c.args.routines.now in
    let act = g.R.Routine.act c.args.routines.now in
    let may : May taken act c.args.new.items c.args.self = record {
      suits = c.requires.suits;
      old = c.requires.carried;
      new = c.requires.new;
      room = c.requires.room;
      batches = c.requires.batches;
      requests = c.requires.requests;
    } in
    let whole = subst IsCatalog c.catalog.view_is c.catalog.invariant in
    let few = few-asked c.self.view_is taken act c.args.config.now.rule c.args.new.items (λ w db. c.taken_behave.ensures _ taken act w db) whole
    c.self.invariant.0 may _ _ _ c.in_ok-list.ensures c.into_vec.ensures c.deref.ensures.value in
    omega (arith, few, many-verdicts _ act _ _ _ _ c.in_ok-committed.ensures, ap length c.deref-2.ensures.value)

pub invariant_of-engine : goal.invariant_of-engine
invariant_of-engine g c =
    let taken = g.R.Routine.taken c.args.routines.now in
    let act = g.R.Routine.act c.args.routines.now in
    let may : May taken act c.args.new.items c.args.self = record {
      suits = c.requires.suits;
      old = c.requires.carried;
      new = c.requires.new;
      room = c.requires.room;
      batches = c.requires.batches;
      requests = c.requires.requests;
    } in
    let whole = subst IsCatalog c.catalog.view_is c.catalog.invariant in
    let count : c.len.result ≡ length c.args.new.items = search rules in (
      ready-again c.self.view_is taken act c.args.config.now.rule c.args.new.items (λ w db. c.taken_behave.ensures _ taken act w db) whole c.self.invariant.0
          may c.in_ok-committed.committed c.in_ok-settled.settled _ _ _ _ c.in_ok-list.ensures c.into_vec.ensures c.deref.ensures.value
          c.in_ok-committed.ensures c.deref-2.ensures.value c.in_ok-settled.ensures.lines c.in_ok-settled.ensures.order c.in_ok-settled.ensures.carried
          _ _ c.from_vec.ensures count,
      c.in_ok-committed.ensures.index,
    )

pub returns : goal.returns
returns g c =
    let taken = g.R.Routine.taken c.args.routines.now in
    let act = g.R.Routine.act c.args.routines.now in
    let may : May taken act c.args.new.items c.args.self = record {
      suits = c.requires.suits;
      old = c.requires.carried;
      new = c.requires.new;
      room = c.requires.room;
      batches = c.requires.batches;
      requests = c.requires.requests;
    } in
    let whole = subst IsCatalog c.catalog.view_is c.catalog.invariant in
    let count : c.len.result ≡ length c.args.new.items = search rules in
    let all = finished c.self.view_is taken act c.args.config.now.rule c.args.new.items (λ w db. c.taken_behave.ensures _ taken act w db) whole
    c.self.invariant.0 may c.in_ok-committed.committed c.in_ok-settled.settled _ _ _ _ c.in_ok-list.ensures c.into_vec.ensures c.deref.ensures.value
    c.in_ok-committed.ensures c.deref-2.ensures.value c.in_ok-settled.ensures.lines c.in_ok-settled.ensures.order c.in_ok-settled.ensures.carried
    _ _ c.from_vec.ensures count in
    record {
      plan = all.plan;
      counts = all.counts;
      answer = all.answer;
      rows = all.rows;
      waiting = all.waiting;
      taken = all.taken;
      serial = all.serial;
      progress = all.progress;
    }
