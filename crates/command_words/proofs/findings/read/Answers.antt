use Rattle.std.proofs.Common.{◌≡◌, ◌∙◌, map, string_bytes, ap, Some, option_map, codes}
use Rattle.std.proofs.lemmas.Result.{IfErr-weaker, IfOk-weaker}
use Rattle.clap.specs.Words.{App, first_of, is_simple, subcommand_of, subcommand_rows_of, takes}
use Rattle.command_words.specs.Rows.{cmd_of}
use Rattle.command_words.proofs.Walks.{app_is_simple, line_is_taken, texts_are}
use Rattle.command_words.proofs.findings.read.Goals as goal

pub returns-clause-line : goal.returns-clause-line
returns-clause-line c =
    let name = codes "aria" in
    let cmds = map cmd_of c.args.rows.now in
    let words = map string_bytes c.args.words.now in
    let app_is = c.in_ok-command.ensures.app in
    IfOk-weaker c.try_get_matches_from.result _ _ (λ m h l e.
    let found : subcommand_rows_of m ≡ _ = (h (ap is_simple app_is ∙ app_is_simple name cmds)).1 ∙ ap (λ (a : App). subcommand_of a words) app_is
    ∙ (line_is_taken name cmds words l e).1 in
    (ap (option_map (λ p. p.0)) found, λ name. ap (option_map (λ p. first_of name p.1)) found ∙ ap Some (texts_are l.cmd l.given name)))
    c.try_get_matches_from.ensures.matches

pub returns-clause-memory : goal.returns-clause-memory
returns-clause-memory c =
    let name = codes "aria" in
    let cmds = map cmd_of c.args.rows.now in
    let words = map string_bytes c.args.words.now in
    let app_is = c.in_ok-command.ensures.app in
    IfErr-weaker c.try_get_matches_from.result _ _ (λ e h l is. h (ap (λ (a : App). takes a words) app_is ∙ (line_is_taken name cmds words l is).0))
    c.try_get_matches_from.ensures.passes
