-- What becomes of a node's own requests, in code.
use Rattle.std.specs.Prelude.{ℕ, ◌+◌, ◌%◌, ◌==◌, List, [], ◌∷◌, ◌++◌, Option, false, if◌then◌else◌, unwrap_or}
use Rattle.aria_base.specs.Orders.{Cells}
use Rattle.aria_base.specs.declared.keys.Key.{Key}
use Rattle.aria_base.specs.declared.calls.Request.{Request}
use Rattle.batch_rules.specs.declared.verdicts.Verdict.{Verdict}
use Rattle.batch_rules.specs.declared.verdicts.Verdict.TheVariants.{Finish, Wait}
use Rattle.batch_rules.specs.Trees.{end_of}
use Rattle.batch_rules.specs.Batches.{Fate, Ended, Waits}
use Rattle.batch_rules.specs.Batches.{Entry as Settled}
use Rattle.proc_lang.specs.Catalogs.{Plan, run_of}
use Rattle.proc_lang.specs.declared.ends.End.{End}
use Rattle.node_rules.specs.Worlds.{fate_by_verdict}
use Rattle.node_batch.specs.OwnRuns.{rows_of}
use Rattle.node_batch.specs.declared.entries.Entry.{Entry}
use Rattle.node_batch.specs.declared.entries.Outcome.{Outcome}
use Rattle.node_batch.specs.declared.entries.Outcome.TheVariants as outcome
use Rattle.node_batch.specs.declared.mails.Site.{Site}

abbrev pub fate_of : Outcome → Fate Key End
fate_of (outcome.Ended raw end) = Ended end
fate_of (outcome.Waits cause) = Waits cause

abbrev pub verdict_of : Outcome → Verdict
verdict_of (outcome.Ended raw end) = Finish raw
verdict_of (outcome.Waits cause) = Wait cause

-- as the definitions speak of it
abbrev pub entry_of : Entry → Settled Key Request End
entry_of e = record {
  judged = record { tid = e.tid; request = e.request; verdict = verdict_of e.outcome };
  fate = fate_of e.outcome;
}

-- what becomes of the request at a place of the list, from 0, by its verdict and the rows that it was told
abbrev pub entry_by : Plan → ℕ → Request → Option Verdict → List (Key × Option Cells) → Settled Key Request End
entry_by plan i q fate told = record {
  judged = record { tid = i + 1; request = q; verdict = unwrap_or fate (Finish false) };
  fate = fate_by_verdict (end_of (run_of plan q) (rows_of told)) (unwrap_or fate (Finish false));
}

-- and of those that are the node's own, from this place on
abbrev pub own_entries : Plan → Site → ℕ → List Request → List (Option Verdict) → List (List (Key × Option Cells))
    → List (Settled Key Request End)
own_entries plan site i [] fates told = []
own_entries plan site i (q ∷ qs) [] told = []
own_entries plan site i (q ∷ qs) (f ∷ fs) [] = []
own_entries plan site i (q ∷ qs) (f ∷ fs) (t ∷ ts) =
    (if i % site.nodes == site.node then entry_by plan i q f t ∷ [] else []) ++ own_entries plan site (i + 1) qs fs ts
