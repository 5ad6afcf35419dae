use Rattle.proc_lang.specs.Catalogs.{run_of}
use Rattle.proc_exec.proofs.Ended.{ends_as, never_strays}
use Rattle.proc_exec.proofs.interpretations.interpret_lent.Goals as goal

pub unreachable-requires : goal.unreachable-requires
unreachable-requires g c =
    never_strays (run_of c.args.catalog.now c.args.request.now) (g.A.Access.seen c.args.access.now)
    (g.A.Access.seen c.run_request.new.access) c.in-Moved.field-0 (rw c.in-Moved.is at c.in_ok-end.ensures)

pub returns : goal.returns
returns g c =
    ends_as (run_of c.args.catalog.now c.args.request.now) (g.A.Access.seen c.args.access.now) (g.A.Access.seen c.run_request.new.access) c.in-Ended.end
    (rw c.in-Ended.is at c.in_ok-end.ensures)
