use Rattle.std.proofs.Common.{rules, ◌≡◌, subst, map}
use Rattle.std.specs.Result.{IfOk}
use Rattle.install_phase.proofs.Sharing.{done_cut}
use Rattle.install_phase.proofs.shares.+fn-spread-join+arg3+spread.Goals as goal

pub returns : goal.returns
returns g t c =
    let after = g.T.ShardWork.after c.args.work.now in
    let front = c.split_off.new.self.items in
    let back = c.in_ok-part.part.items in
    let first : IfOk c.join-theirs.result.0 (λ done. done.items ≡ map after back) = search rules in
    let theirs = subst (λ r. IfOk r (λ done. done.items ≡ map after back)) c.in_ok-last.was first in
    let second : IfOk c.join-theirs.result.1 (λ done. done.items ≡ map after front) = search rules in
    let ours = subst (λ r. IfOk r (λ done. done.items ≡ map after front)) c.in_ok-all.was second in
    done_cut after _ c.args.shards.items front back c.in_ok-all.all.items c.in_ok-last.last.items c.append.new.self.items c.in_ok-part.ensures.items
    c.in_ok-part.ensures.tail ours theirs c.in_ok-append.ensures.items
