use Rattle.std.proofs.Common.{rules, ◌≡◌, ◌+◌, ◌∙◌, refl, get_or}
use Rattle.std.proofs.lemmas.Grind.{get_or_default_zero}
use lib.ListN.{set}
use Rattle.touch_numbers.proofs.FirstTouches.{one_new}
use Rattle.touch_numbers.proofs.firsts.Firsts.number_of.Goals as goal

pub returns-clause-number : goal.returns-clause-number
returns-clause-number c keys place m k at stands has =
    let given = c.args.self.now.given.items in
    let count = c.args.self.now.count in
    let number = c.index-number.result.now in
    let number_is : number ≡ get_or given c.args.touch 0 = c.index-number.ensures ∙ get_or_default_zero given c.args.touch number c.requires in
    let none : number ≡ 0 = search rules in
    one_new given count c.args.touch number count keys place m k at stands number_is has (set given c.args.touch (count + 1)) (count + 1) none c.requires
    refl refl refl
