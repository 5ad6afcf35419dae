use Rattle.std.proofs.Common.{ap}
use Rattle.serving.specs.Lives.{state_of}
use Rattle.serving.specs.declared.lives.Live.{Live}
use Rattle.store_openings.proofs.Keeping.{kept, may_renew, not_kept, rotating_of}
use Rattle.store_openings.proofs.openings.keep_store.Goals as goal

pub returns-in-Ok-clause-kept : goal.returns-in-Ok-clause-kept
returns-in-Ok-clause-kept g c =
    kept c.args.live c.args.store c.args.checkpoint (g.D.Disk.history c.args.disk.now) (g.D.Disk.history c.renew_where_stale.new.disk) c.requires.runnable
    c.requires.store
    c.renew_where_stale.new.live c.in-Ok.ensures.turned c.in-Ok.ensures.logging

pub returns-in-Ok-clause-store : goal.returns-in-Ok-clause-store
returns-in-Ok-clause-store g c = ap (λ (l : Live). l.store) c.in-Ok.ensures.turned

pub returns-in-Ok-clause-holds : goal.returns-in-Ok-clause-holds
returns-in-Ok-clause-holds g c = c.in-Ok.ensures.holds

pub returns-in-Err-clause-refused : goal.returns-in-Err-clause-refused
returns-in-Err-clause-refused g c =
    not_kept (g.D.Disk.history c.args.disk.now) (g.D.Disk.history c.renew_where_stale.new.disk) c.args.store c.in-Err.why c.not_rotated.result
    c.in-Err.ensures.cause c.not_rotated.ensures

pub not_rotated-requires : goal.not_rotated-requires
not_rotated-requires g c = rotating_of c.in-Err.why _ c.in-Err.ensures.cause

pub renew_where_stale-requires-clause-kept : goal.renew_where_stale-requires-clause-kept
renew_where_stale-requires-clause-kept g c = may_renew (g.D.Disk.history c.args.disk.now) c.args.store (state_of c.args.live) c.requires.store
