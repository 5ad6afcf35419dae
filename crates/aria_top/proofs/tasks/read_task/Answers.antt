use Rattle.std.proofs.Common.{rules, ◌≡◌, map}
use Rattle.std.specs.Prelude.{IfOk, string_bytes}
use Rattle.aria_top.specs.Tasks.{task_in}
use Rattle.aria_top.proofs.Ranges.{in_bounds}
use Rattle.aria_top.proofs.tasks.read_task.Goals as goal

pub returns-clause-range : goal.returns-clause-range
returns-clause-range c =
    let asked : IfOk c.read_settings.result (λ found. found ≡ task_in (map string_bytes c.args.words.now)) = search rules in
    in_bounds c.words_are_within.ensures (map string_bytes c.args.words.now) c.read_settings.result asked
