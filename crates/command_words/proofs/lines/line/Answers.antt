use Rattle.std.proofs.Common.{rules, IfOk, string_bytes, subst, sym, Option}
use Rattle.command_words.specs.Lines.{Line}
use Rattle.command_words.specs.Rows.{IsLineOf, cmd_of}
use Rattle.command_words.proofs.TableLemmas.{first_rest, line_is}
use Rattle.command_words.proofs.lines.line.Goals as goal

pub returns : goal.returns
returns c =
    let first = first_rest string_bytes c.args.words.now c.first-item.result c.as_str.result.now c.as_str.ensures.value
    (search rules) c.in-len1-up.len_at_least in
    subst (λ (l : Option Line). IfOk c.line_after.result (λ r. IsLineOf l r)) (line_is _ _ _ _ (cmd_of c.in-Some.command) first (sym c.in-Some.ensures))
    c.line_after.ensures
