-- The answer of a batch from what its phases hand on: request numbers by TID, ends of the runs on the batch's start, and verdicts.
use Rattle.std.specs.Prelude.{ℕ, List, [], ◌∷◌}
use Rattle.aria_base.specs.declared.keys.Key.{Key}
use Rattle.batch_core.specs.declared.answers.Line.{Line}
use Rattle.batch_core.specs.Steps.{reply_by}
use Rattle.batch_rules.specs.Batches.{Fate, Ended, Waits}
use Rattle.batch_rules.specs.declared.verdicts.Verdict.{Verdict}
use Rattle.batch_rules.specs.declared.verdicts.Verdict.TheVariants.{Finish, Wait}
use Rattle.proc_lang.specs.declared.ends.End.{End}

-- a work that finishes has this end, and one that waits its cause
abbrev pub fate_by : End → Verdict → Fate Key End
fate_by end (Finish raw) = Ended end
fate_by end (Wait cause) = Waits cause

abbrev pub lines_in : (ℕ → ℕ) → List End → List ℕ → List Verdict → List Line
lines_in number (end ∷ ends) (q ∷ qs) (verdict ∷ verdicts) =
    record { q = q; reply = reply_by number (fate_by end verdict) } ∷ lines_in number ends qs verdicts
lines_in number ends qs verdicts = []
