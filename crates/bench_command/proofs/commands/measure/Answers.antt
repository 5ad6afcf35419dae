use Rattle.std.proofs.Common.{◌≡◌, List, ℕ, ap, ◌∙◌}
use Rattle.batch_core.specs.Steps.{State}
use Rattle.serving.specs.Lives.{state_of}
use Rattle.workloads.specs.Generators.{generator_of, name_of}
use Rattle.bench_command.specs.Benches.{ran_of}
use Rattle.bench_command.specs.Summaries.{summary_text}
use Rattle.bench_command.specs.declared.tallies.Tally.{Tally}
use Rattle.bench_command.proofs.commands.measure.Goals as goal

pub returns-clause-text : goal.returns-clause-text
returns-clause-text g c =
    let b = c.args.settings.now in
    let turn = c.in_ok-turn.turn in
    let name : c.name.result.now ≡ name_of (generator_of b.workload) = c.name.ensures ∙ ap name_of c.of-generator.ensures in
    c.in_ok-text.ensures
    ∙ ap (λ (n : List ℕ). summary_text n (state_of turn.live) turn.tally) name
    ∙ ap (λ (s : State). summary_text (name_of (generator_of b.workload)) s turn.tally) c.in_ok-turn.ensures.state
    ∙ ap (λ (t : Tally). summary_text (name_of (generator_of b.workload)) (ran_of b).state t) c.in_ok-turn.ensures.tally
