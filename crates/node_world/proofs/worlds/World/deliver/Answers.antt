use Rattle.std.proofs.Common.{refl, sym, ap, ◌∙◌}
use Rattle.std.proofs.lemmas.Option.{same_Some}
use Rattle.node_batch.specs.declared.letters.Letter.{Letter}
use Rattle.node_rules.specs.Worlds.{step, Deliver}
use Rattle.node_world.specs.Worlds.{net_in, world_in}
use Rattle.node_seats.proofs.Keeping.{stands}
use Rattle.node_world.proofs.Delivered.{old_same}
use Rattle.node_world.proofs.Parts.{fixed_both, fixed_self}
use Rattle.node_world.proofs.worlds.World.deliver.Goals as goal

pub returns-then-not-is_new-clause-stepped : goal.returns-then-not-is_new-clause-stepped
returns-then-not-is_new-clause-stepped c = λ start ready.
    (ready.keeps, old_same start c.args.self.now ready c.args.k c.requires.sent (c.if-not-is_new.ensures.old refl))

pub returns-then-not-is_new-clause-fixed : goal.returns-then-not-is_new-clause-fixed
returns-then-not-is_new-clause-fixed c = fixed_self c.args.self.now

pub give-requires-clause-new : goal.give-requires-clause-new
give-requires-clause-new c = c.if-not-is_new.ensures.new refl

pub give-requires-clause-to : goal.give-requires-clause-to
give-requires-clause-to c = λ l e.
    let m = c.index.result.now in
    ap (λ (l : Letter). l.addressee) (same_Some l m (sym e ∙ stands c.args.self.now.sent.items c.args.k m c.requires.sent c.index.ensures))

pub go_on-requires : goal.go_on-requires
go_on-requires c =
    let ready = c.requires.ready in
    record { on = (ready.0, step (net_in c.args.self.now) (world_in ready.0 c.args.self.now) (Deliver c.args.k), c.in_ok-give.ensures.on ready.0 ready.1) }

pub returns-clause-fixed : goal.returns-clause-fixed
returns-clause-fixed c = fixed_both _ _ _ c.in_ok-give.ensures.fixed c.in_ok-go_on.ensures.fixed

pub returns-clause-stepped : goal.returns-clause-stepped
returns-clause-stepped c = λ start ready. c.in_ok-go_on.ensures.kept start (step (net_in c.args.self.now) (world_in start c.args.self.now) (Deliver c.args.k))
    (c.in_ok-give.ensures.on start ready)
