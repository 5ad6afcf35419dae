use Rattle.std.proofs.Common.{◌≡◌, map, take, pos}
use Rattle.aria_base.specs.declared.keys.Part.TheVariants as part
use Rattle.tpcc_load.proofs.rows.key.Given as goal

abbrev pub invariant-loop-part : goal.invariant-loop-part
invariant-loop-part l = l.numbers.items ≡ map (λ n. part.Int (pos n)) (take l.part-index l.parts)
