use Rattle.std.proofs.Common.{◌≤◌, length, take}
use Rattle.std.specs.List.{All}
use Rattle.aria_base.specs.declared.limits.TheConstants.{LONGEST_LINE}
use Rattle.image_text.specs.Exactly.{line_of_call}
use Rattle.example_ledger.proofs.batches.have_lines.Given as goal

-- the lines of the calls so far are no longer than a line may be
abbrev pub invariant-loop-call : goal.invariant-loop-call
invariant-loop-call l = All (λ call. length (line_of_call l.catalog call) ≤ LONGEST_LINE) (take l.call-index l.calls)
