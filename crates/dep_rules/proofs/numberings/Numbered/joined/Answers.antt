use Rattle.dep_rules.proofs.Joined.{joined_sheet}
use Rattle.dep_rules.proofs.numberings.Numbered.joined.Goals as goal

pub invariant_of-result : goal.invariant_of-result
invariant_of-result c = record {
  sheet = joined_sheet c.args.numbers.items c.args.stretches.items c.args.keys c.requires.count c.requires.below;
  stretches = c.requires.within;
}
