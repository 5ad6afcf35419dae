use Rattle.std.proofs.Common.{◌≡◌, None, sym, subst}
use Rattle.std.specs.FinMap as fin
use Rattle.key_numbering.proofs.Beside.{in_neither, apart-near, apart-far, beside-near, beside-far}
use Rattle.key_numbering.proofs.places.Places.put.Goals as goal

pub invariant_of-self-then-branch : goal.invariant_of-self-then-branch
invariant_of-self-then-branch c =
    let none = in_neither _ _ c.args.key (subst (λ m. fin.get m c.args.key ≡ None) (sym c.self.view_is) c.requires) in
    rw (c.in_ok-insert.ensures.inserted, c.admits.ensures) (apart-near _ _ _ _ c.self.invariant none.1)

pub returns-then-branch-clause-put : goal.returns-then-branch-clause-put
returns-then-branch-clause-put c = rw (← c.self.view_is, c.in_ok-insert.ensures.inserted, c.admits.ensures) (beside-near _ _ _ _)

pub invariant_of-self-2 : goal.invariant_of-self-2
invariant_of-self-2 c =
    let none = in_neither _ _ c.args.key (subst (λ m. fin.get m c.args.key ≡ None) (sym c.self.view_is) c.requires) in
    rw (c.in_ok-insert-2.ensures.inserted, c.admits.ensures) (apart-far _ _ _ _ c.self.invariant none.0)

pub returns-clause-put : goal.returns-clause-put
returns-clause-put c =
    let none = in_neither _ _ c.args.key (subst (λ m. fin.get m c.args.key ≡ None) (sym c.self.view_is) c.requires) in
    rw (← c.self.view_is, c.in_ok-insert-2.ensures.inserted, c.admits.ensures) (beside-far _ _ _ _ none.0)
