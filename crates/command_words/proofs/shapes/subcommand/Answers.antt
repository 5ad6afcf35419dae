use Rattle.std.proofs.Common.{rules, ◌∙◌, ap, ap₂, sym, []}
use Rattle.clap.specs.Words.{with_rule}
use Rattle.clap.specs.Simple.{new_shape}
use Rattle.command_words.specs.Shapes.{rule_for}
use Rattle.command_words.specs.Rows.{opt_of}
use Rattle.command_words.proofs.TableLemmas.{map_more}
use Rattle.command_words.proofs.shapes.subcommand.Goals as goal

pub loop-option-preserved : goal.loop-option-preserved
loop-option-preserved c =
    let added = c.in_ok-command.ensures in
    let more = map_more rule_for opt_of c.args.row.now.options.now c.loop-option.option-index _ (search rules) in (
      added.shape c.argument.ensures.local ∙ ap₂ with_rule c.loop-option.invariant.0 c.argument.ensures.rule
          ∙ ap (λ rs. record { top = record (new_shape c.args.row.now.name.now) { rules = rs }; subs = [] }) (sym more),
      search rules,
    )
