use Rattle.std.proofs.Common.{◌≤◌, ◌≡◌, None, sym, ap, subst, ◌∙◌, arith}
use Rattle.std.specs.FinMap as fin
use Rattle.std.specs.Result.{IfOk}
use Rattle.key_numbering.proofs.Growing.{known, new, len-new, number-is, number-new}
use Rattle.key_numbering.specs.Numbers.{number_in, with_key}
use Rattle.key_numbering.proofs.kept.Kept.number_of.Goals as goal

pub returns-in-Some-clause-kept : goal.returns-in-Some-clause-kept
returns-in-Some-clause-kept c = sym (known _ _ _ (sym c.get.ensures ∙ c.in-Some.is))

pub returns-in-Some-clause-number : goal.returns-in-Some-clause-number
returns-in-Some-clause-number c = let at = sym c.get.ensures ∙ c.in-Some.is in sym (ap (λ m. number_in m c.args.key.now) (known _ _ _ at) ∙ number-is _ _ _ at)

pub add-requires-clause-count : goal.add-requires-clause-count
add-requires-clause-count c =
    let none = sym c.get.ensures ∙ c.in-None.is in
    let more = ap fin.len (new c.args.self.now c.args.key.now none) in
    let one = len-new c.args.self.now c.args.key.now none in
    let most = c.requires in
    omega arith

pub returns-in-None-clause-number : goal.returns-in-None-clause-number
returns-in-None-clause-number c =
    let m = c.args.self.now in
    let k = c.args.key.now in
    let last : fin.len m ≡ number_in (with_key m k) k = sym (ap (λ o. number_in o k) (new m k (sym c.get.ensures ∙ c.in-None.is)) ∙ number-new m k) in
    subst (λ x. IfOk c.add.result (λ n. n ≡ x)) last c.add.ensures.number
