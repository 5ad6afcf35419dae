use Rattle.std.proofs.Common.{rules, ◌≡◌, true, sym, ap, ◌∙◌}
use Rattle.std.specs.Prelude.{if◌then◌else◌}
use Rattle.std.specs.FinMap as fin
use Rattle.range_runs.proofs.Following.{insert-there}
use Rattle.range_runs.proofs.indexes.Index.follow_one.Goals as goal

pub returns-then-contains : goal.returns-then-contains
returns-then-contains c =
    let index = c.args.self.now in
    let key = c.args.key.now in
    let there : fin.contains_key index key ≡ true = sym c.contains.ensures ∙ c.if-contains.true in
    let put : c.args.put ≡ true = search rules in
    insert-there index key there ∙ ap (λ b. if b then fin.insert index key tt else fin.remove index key) (sym put)
