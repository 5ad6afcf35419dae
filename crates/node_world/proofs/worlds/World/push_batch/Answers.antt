use Rattle.std.proofs.Common.{◌≡◌, ℕ, ◌+◌, ◌++◌, ◌∷◌, [], length, map, refl, ap, ◌∙◌, subst, List, arith}
use Rattle.aria_base.specs.declared.calls.Request.{Request}
use Rattle.batch_core.specs.Steps.{numbered}
use Rattle.node_world.specs.Worlds.{started_in}
use Rattle.node_world.specs.declared.worlds.World.{World}
use Rattle.node_seats.specs.Seats.{IsLengthened}
use Rattle.node_seats.proofs.Lengthening.{map-push}
use Rattle.node_world.proofs.Parts.{same_parts}
use Rattle.node_world.proofs.Turning.{pushed_on}
use Rattle.node_world.proofs.worlds.World.push_batch.Goals as goal

pub returns-clause-started : goal.returns-clause-started
returns-clause-started c = λ start ready.
    let w = c.args.self.now in
    let new : c.in_ok-new.new.items ≡ numbered w.requests c.args.calls.items
    = c.in_ok-new.ensures.list ∙ ap (λ l. l ++ numbered w.requests c.args.calls.items) c.new.ensures.items in
    let begun : map (λ (b : _). b.items) c.push.new.self.items ≡ started_in w ++ numbered w.requests c.args.calls.items ∷ []
    = ap (map (λ b. b.items)) c.in_ok-push.ensures.items ∙ map-push (λ b. b.items) w.started.items c.in_ok-new.new
    ∙ ap (λ q. started_in w ++ q ∷ []) new in
    let a = c.len-old.ensures in
    let b = w.started.ok.0 in
    let count : c.len-old.result ≡ length w.started.items = omega arith in
    let many = c.len.ensures in
    let all = c.args.calls.ok.0 in
    let total : w.requests + c.len.result ≡ w.requests + length c.args.calls.items = omega arith in
    let after : World = record w { started = c.push.new.self; requests = w.requests + c.len.result; seats = c.lengthen_all.new.seats } in
    pushed_on start w ready c.args.calls.items c.lengthen_all.new.seats.items c.in_ok-lengthen_all.ensures.many
    (λ n s t a b. subst (λ (p : ℕ × List Request). IsLengthened p.0 p.1 s t) (λ i. (count i, (c.deref.ensures.value ∙ new) i))
    (c.in_ok-lengthen_all.ensures.each n s t a b))
    c.requires.room after (same_parts after _ refl refl refl begun total refl refl refl)
