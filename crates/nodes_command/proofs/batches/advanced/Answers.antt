use Rattle.nodes_command.proofs.States.{is_next}
use Rattle.nodes_command.proofs.batches.advanced.Goals as goal

pub returns-in_ok-settled-in-Ok : goal.returns-in_ok-settled-in-Ok
returns-in_ok-settled-in-Ok c =
    let s = c.in-Ok.ensures in
    let t = c.in_ok-settled-in-Ok.ensures in
    is_next c.args.nodes c.requires.done c.args.calls.items c.in-Ok.started c.in_ok-settled-in-Ok.settled s.fixed s.start s.requests s.stepped t.fixed t.start
    t.requests t.settled t.ready t.done
