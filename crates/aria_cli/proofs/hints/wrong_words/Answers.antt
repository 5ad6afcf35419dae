use Rattle.std.proofs.Common.{◌≡◌, ◌∙◌, sym, ap, ap₂, map, length, arith, string_bytes, get_or, take, drop, ◌-◌, min, ◌<◌}
use Rattle.std.proofs.lemmas.List.{length-drop, take_all}
use Rattle.command_words.specs.Rows.{opt_of}
use Rattle.command_words.specs.Tables.{commands}
use Rattle.aria_cli.specs.Told.{first_option, longest_below, options_of}
use Rattle.aria_cli.specs.declared.hints.TheConstants.{MOST_WORDS}
use Rattle.aria_cli.proofs.Beginnings.{behind, longer, no_longer}
use Rattle.aria_cli.proofs.hints.wrong_words.Goals.{then-branch, else-branch}
use Rattle.aria_cli.proofs.hints.wrong_words.Goals as goal

pub loop-count-preserved : goal.loop-count-preserved
loop-count-preserved c = record {
  within = elim c.if-branch.branch [
    | then-branch w ↦ omega (arith, w.longest-is, c.loop-count-test.true, c.min-count-end.ensures)
    | else-branch w ↦ omega (arith, w.longest-is, c.loop-count.invariant.within)
  ];
  longest = elim c.if-branch.branch [
    | then-branch w ↦ w.longest-is
        ∙ longer string_bytes _ c.args.words.now c.loop-count.count (sym c.in_ok-is_command.ensures ∙ w.if-branch.true)
    | else-branch w ↦ w.longest-is ∙ c.loop-count.invariant.longest
        ∙ no_longer string_bytes _ c.args.words.now c.loop-count.count (sym c.in_ok-is_command.ensures ∙ w.if-branch.false)
  ];
}

pub returns : goal.returns
returns c =
    let end : c.loop-count.count ≡ min (length c.args.words.now) MOST_WORDS
    = omega (arith, c.loop-count.auto.count-end, c.loop-count-test.false, c.min-count-end.ensures, c.in-Some.ensures) in
    let some : 0 < length c.args.words.now = omega (arith, c.in-Some.ensures) in
    let name : c.deref.result.now ≡ string_bytes (get_or c.args.words.now 0 c.in-Some.name.now)
    = c.deref.ensures ∙ ap string_bytes c.in-Some.ensures.item.1 in
    let longest : c.loop-count.longest ≡ longest_below commands (map string_bytes c.args.words.now) c.loop-count.count
    = c.loop-count.invariant.longest
    ∙ ap (λ rows. longest_below rows (map string_bytes c.args.words.now) c.loop-count.count) c.commands-rows.ensures in
    let options : map opt_of c.options_of-options.result.now ≡ options_of commands c.deref.result.now
    = c.options_of-options.ensures ∙ ap (λ rows. options_of rows c.deref.result.now) c.commands-rows.ensures in
    let whole : take (length c.args.words.now - c.loop-count.longest) (drop c.loop-count.longest c.args.words.now)
    ≡ drop c.loop-count.longest c.args.words.now
    = take_all _ _ (omega (arith, length-drop c.loop-count.longest c.args.words.now)) in
    c.first_option.ensures
    ∙ ap₂ (λ of rest. first_option of (map string_bytes rest)) options whole
    ∙ behind string_bytes commands c.args.words.now c.in-Some.name.now c.deref.result.now c.loop-count.longest c.loop-count.count some name longest end
