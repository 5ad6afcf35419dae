use Rattle.std.proofs.Common.{ap, ◌∙◌, ◌++◌}
use Rattle.script_text.proofs.TokensRead.{joined_with}
use Rattle.script_text.proofs.writers.append_joined.Goals as goal

pub returns-clause-text : goal.returns-clause-text
returns-clause-text g c = joined_with c.append_behind.result c.args.byte g.T.Token.text c.args.out.now.items c.append.new.out.items
    c.append_behind.new.out.items c.first-item.result c.args.items.now c.in-len1-up.len_at_least
    (c.in_ok-append.ensures.text ∙ ap (λ x. c.args.out.now.items ++ g.T.Token.text x) c.first-item.is) c.append_behind.ensures.text
