use Rattle.std.proofs.Common.{◌≡◌, ◌++◌, take}
use Rattle.std.specs.List.{All}
use Rattle.script_text.specs.Tokens.{behind}
use Rattle.script_text.proofs.writers.append_behind.Given as goal

abbrev pub invariant-loop-item : goal.invariant-loop-item
invariant-loop-item g l = record {
  text : l.out.items ≡ l.initial.out.items ++ behind l.byte g.T.Token.text (take l.item-index l.items);
  all : All g.T.Token.IsOne (take l.item-index l.items);
}
