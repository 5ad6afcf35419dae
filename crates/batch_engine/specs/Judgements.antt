-- A batch after its verdicts, and after its late run.
use Rattle.std.specs.Prelude.{◌≡◌, ℕ, List, [], map}
use Rattle.aria_base.specs.Orders.{key_cmp, Cells, Database}
use Rattle.aria_base.specs.declared.calls.Request.{Request}
use Rattle.aria_base.specs.declared.keys.Key.{Key}
use Rattle.proc_lang.specs.declared.ends.End.{End}
use Rattle.proc_lang.specs.Meaning.{is_done}
use Rattle.proc_exec.specs.Outcomes.{outcome_at}
use Rattle.batch_rules.specs.declared.verdicts.Rule.{Rule}
use Rattle.batch_rules.specs.Trees.{Tree}
use Rattle.batch_rules.specs.Batches.{Judged, judged, touching, on_start, batch, ordered, carried}
use Rattle.batch_core.specs.Steps.{line_of}
use Rattle.batch_engine.specs.declared.judgements.Judgement.{Judgement}
use Rattle.batch_engine.specs.declared.settlements.Settled.{Settled}

module _ (tree : Request → Tree Key Cells End) (rule : Rule) where
  -- the requests with their verdicts, from this start
  abbrev pub judged_from : Database → List Request → List (Judged Request)
  judged_from start list = judged (touching (on_start is_done tree start) key_cmp) rule [] list

  -- what is known of the list before a write is installed
  pub record IsJudged (start : Database) (list : List Request) (c : Judgement) : Type 0 where
    pub outcomes : c.outcomes.items ≡ map (outcome_at tree start) list
    pub verdicts : c.verdicts.items ≡ map (λ d. d.verdict) (judged_from start list)

  -- what the batch comes to: its rows, the requests that it carries over, and its answer by request numbers
  pub record IsSettled (percent : ℕ) (start : Database) (list : List Request) (s : Settled) : Type 0 where
    pub rows : s.tables ≡ (batch is_done tree rule percent start list).map
    pub carried : s.carried.items ≡ map (λ e. e.judged.request) (carried (batch is_done tree rule percent start list).entries)
    pub lines : s.lines ≡ map (line_of (λ q. q) list) (batch is_done tree rule percent start list).entries
    pub order : s.order ≡ map (λ e. e.judged.request.q) (ordered (batch is_done tree rule percent start list).entries)
