use Rattle.std.proofs.Common.{◌≡◌, ◌∷◌, ◌-◌, [], List, take, drop, length, true, arith, rules}
use Rattle.std.proofs.lemmas.Grind.{common_steps}
use Rattle.cat_builtin.specs.Warehouses as table
use Rattle.range_rules.specs.declared.routines.Seen.{Seen}
use Rattle.range_rules.specs.declared.routines.Seen.TheVariants.{Many}
use Rattle.tpcc_routines.specs.Answers.{prefix_at, are_rows}
use Rattle.tpcc_routines.proofs.Turning.{found_on}
use Rattle.tpcc_routines.proofs.levels.lines_at.Goals as goal

pub returns-else-not-are_lines : goal.returns-else-not-are_lines
returns-else-not-are_lines c go =
    let p = prefix_at table.order_lines (c.args.at.w ∷ c.args.at.d ∷ c.args.order.now ∷ []) in
    let rest : List Seen = take (length c.args.seen.now - 1) (drop 1 c.args.seen.now) in
    let front : c.args.seen.now ≡ Many c.as_slice-lines.result.now ∷ take (length c.args.seen.now - 1) (drop 1 c.args.seen.now) = grind (arith, common_steps) in
    let right : are_rows (prefix_at table.order_lines (c.args.at.w ∷ c.args.at.d ∷ c.args.order.now ∷ [])) 5 c.as_slice-lines.result.now ≡ true =
    search rules in
    found_on p 5 go c.as_slice-lines.result.now rest c.args.seen.now front right
