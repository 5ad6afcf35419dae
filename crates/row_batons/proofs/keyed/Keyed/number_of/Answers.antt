use Rattle.std.proofs.Common.{◌≡◌, sym, ap, subst, ◌∙◌}
use Rattle.std.specs.FinMap as fin
use Rattle.std.specs.Result.{IfOk}
use Rattle.key_numbering.proofs.Growing.{known, new, number-is, number-new}
use Rattle.key_numbering.specs.Numbers.{number_in, with_key}
use Rattle.row_batons.proofs.keyed.Keyed.number_of.Goals as goal

pub returns-in-Some-clause-keys : goal.returns-in-Some-clause-keys
returns-in-Some-clause-keys c = sym (known _ _ _ (sym c.get.ensures ∙ c.in-Some.is))

pub returns-in-Some-clause-number : goal.returns-in-Some-clause-number
returns-in-Some-clause-number c = let at = sym c.get.ensures ∙ c.in-Some.is in sym (ap (λ m. number_in m c.args.key.now) (known _ _ _ at) ∙ number-is _ _ _ at)

pub returns-in-None-clause-number : goal.returns-in-None-clause-number
returns-in-None-clause-number c =
    let m = c.args.self.now in
    let k = c.args.key.now in
    let last : fin.len m ≡ number_in (with_key m k) k = sym (ap (λ o. number_in o k) (new m k (sym c.get.ensures ∙ c.in-None.is)) ∙ number-new m k) in
    subst (λ x. IfOk c.add_key.result (λ n. n ≡ x)) last c.add_key.ensures.number
