-- What a node sends of a request's run.
use Rattle.std.specs.Prelude.{ℕ, ◌+◌, ◌%◌, ◌==◌, List, [], ◌∷◌, ◌++◌, map, filter, Option, if◌then◌else◌}
use Rattle.std.specs.List.{range_with_len}
use Rattle.aria_base.specs.Orders.{Cells}
use Rattle.aria_base.specs.declared.keys.Key.{Key}
use Rattle.aria_base.specs.declared.calls.Request.{Request}
use Rattle.batch_rules.specs.Touches.{keys_of}
use Rattle.tbl_rows.specs.Shards.{home}
use Rattle.proc_exec.specs.Outcomes.{within_at}
use Rattle.proc_exec.specs.declared.outcomes.Outcome.{Outcome}
use Rattle.proc_exec.specs.declared.outcomes.Within.{Within}
use Rattle.proc_exec.specs.declared.outcomes.Within.TheVariants as within
use Rattle.proc_lang.specs.Catalogs.{Plan, run_of}
use Rattle.node_rules.specs.Dues.{both}
use Rattle.node_rules.specs.Messages.{Sets, Holders, Content, Ask, Marks, Least, Message}
use Rattle.node_batch.specs.OwnRuns.{rows_of}
use Rattle.node_batch.specs.declared.mails.Site.{Site}

-- the node of a key
abbrev pub node_of : ℕ → Key → ℕ
node_of nodes k = home k % nodes

-- from a site
abbrev pub mail : Site → ℕ → ℕ → Content Key Cells → Message Key Cells
mail site tid addressee content = record { batch = site.batch; tid = tid; sender = site.node; addressee = addressee; content = content }

-- the part of an outcome's sets at a node
abbrev pub part_at : ℕ → ℕ → Outcome → Sets Key Cells
part_at nodes node o = record {
  reads = filter (λ k. node_of nodes k == node) o.reads;
  rows = filter (λ row. node_of nodes row.0 == node) o.writes;
}

abbrev pub marks_mails : Site → ℕ → Outcome → List (Message Key Cells)
marks_mails site tid o = map (λ node. mail site tid node (Marks (part_at site.nodes node o))) (range_with_len 0 site.nodes)

abbrev pub run_mails : Site → ℕ → Within → List (Message Key Cells)
run_mails site tid (within.Moved k) = mail site tid (node_of site.nodes k) (Ask k) ∷ []
run_mails site tid (within.Ended o) = marks_mails site tid o

-- what a run on the rows that it was told makes due, of the request at a place of the list, from 0, where it is the node's own
abbrev pub own_mail : Plan → Site → ℕ → Request → List (Key × Option Cells) → List (Message Key Cells)
own_mail plan site i q told =
    if i % site.nodes == site.node then run_mails site (i + 1) (within_at (run_of plan) (both (keys_of told)) (rows_of told) q) else []

-- and of all from this place on
abbrev pub own_mails : Plan → Site → ℕ → List Request → List (List (Key × Option Cells)) → List (Message Key Cells)
own_mails plan site i [] told = []
own_mails plan site i (q ∷ qs) [] = []
own_mails plan site i (q ∷ qs) (t ∷ ts) = own_mail plan site i q t ++ own_mails plan site (i + 1) qs ts

-- the least holders of each request, from this place on
abbrev pub leasts_mails : Site → ℕ → List Holders → List (Message Key Cells)
leasts_mails site i [] = []
leasts_mails site i (h ∷ hs) = mail site (i + 1) (i % site.nodes) (Least h) ∷ leasts_mails site (i + 1) hs
