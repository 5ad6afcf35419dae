use Rattle.std.proofs.Common.{◌≡◌, ◌++◌, take}
use Rattle.script_text.specs.Tokens.{behind}
use Rattle.answer_text.specs.Refusals.{step_text}
use Rattle.answer_text.proofs.refusals.append_path.Given as goal

abbrev pub invariant-loop-step : goal.invariant-loop-step
invariant-loop-step l = l.out.items ≡ l.initial.out.items ++ behind 47 step_text (take l.step-index l.path)
