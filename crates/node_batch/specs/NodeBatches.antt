-- A node at its batch in code: what it keeps of the messages that were given to it.
use Rattle.std.specs.Prelude.{◌≡◌, ℕ, ◌+◌, ◌<◌, ◌≤◌, List, [], map, length, slice_index_or, Option, None}
use Rattle.aria_base.specs.Orders.{key_cmp, Cells, Database}
use Rattle.aria_base.specs.declared.calls.Request.{Request}
use Rattle.batch_rules.specs.declared.verdicts.Rule.{Rule}
use Rattle.aria_base.specs.declared.keys.Key.{Key}
use Rattle.proc_lang.specs.Catalogs.{Plan}
use Rattle.proc_lang.specs.declared.ends.End.{End}
use Rattle.node_rules.specs.Messages.{Sets, Holders, Marks, Least, Fate, Message}
use Rattle.node_rules.specs.Nets.{Net, tids}
use Rattle.node_rules.specs.Dues.{Desk, told, marks_of, sets_of, holders_from, fate_of}
use Rattle.node_batch.specs.Letters.{Same, net_of}
use Rattle.node_batch.specs.Letters.{sets_of as part_of}
use Rattle.node_batch.specs.declared.letters.Part.{Part}
use Rattle.node_batch.specs.OwnRuns.{told_of}
use Rattle.node_batch.specs.Counts.{given_count}
use Rattle.node_batch.specs.Holds.{HasHeard}
use Rattle.node_batch.specs.declared.holds.Hold.{Hold}
use Rattle.node_batch.specs.declared.own_runs.OwnRun.{OwnRun}
use Rattle.node_batch.specs.declared.node_batches.NodeBatch.{NodeBatch}
use Rattle.node_batch.specs.declared.mails.Site.{Site}
use Rattle.batch_rules.specs.declared.verdicts.Verdict.{Verdict}

-- These show the node at its batch: its rows, its list, the rows that each request was told, the parts of the sets that were given, and
-- the fates, with their counts, and the least holders that were told.
pub record ShowsBy (plan : Plan) (rule : Rule) (same : Same) (desk : Desk key_cmp Cells Request) (site : Site) (rows : Database)
    (list : List Request) (runs : List OwnRun) (parts : List Part) (marked : ℕ) (holds : List Hold) (fates : List (Option Verdict))
    (fated : ℕ) : Type 0 where
  pub node_is : desk.node ≡ site.node
  pub batch_is : desk.batch ≡ site.batch
  pub rows_are : desk.rows ≡ rows
  pub list_is : desk.list ≡ list
  pub runs_are : map told_of runs ≡ map (told (net_of plan rule site.nodes same) desk) (tids desk.list)
  pub parts_are : map part_of parts ≡ map (sets_of (net_of plan rule site.nodes same) desk) (tids desk.list)
  pub marked_is : marked ≡ given_count (map (marks_of (net_of plan rule site.nodes same) desk) (tids desk.list))
  pub many_holds : length holds ≡ length list
  pub holds_are : (i : ℕ) (d : Hold) → i < length holds
      → HasHeard (net_of plan rule site.nodes same) desk (i + 1) (slice_index_or holds i d)
  pub fates_are : fates ≡ map (fate_of (net_of plan rule site.nodes same) desk) (tids desk.list)
  pub fated_is : fated ≡ given_count fates

abbrev pub Shows : Plan → Rule → Same → Desk key_cmp Cells Request → NodeBatch → Type 0
Shows plan rule same desk b = ShowsBy plan rule same desk b.site b.rows b.list.items b.runs.items b.parts.items b.marked b.holds.items
    b.fates.items b.fated

-- nothing was given of a batch with these rows and this list
pub record IsBare (desk : Desk key_cmp Cells Request) (site : Site) (rows : Database) (list : List Request) : Type 0 where
  pub node_is : desk.node ≡ site.node
  pub batch_is : desk.batch ≡ site.batch
  pub rows_are : desk.rows ≡ rows
  pub list_is : desk.list ≡ list
  pub given_is : desk.given ≡ []

-- A message of a request of the list, of which nothing was told before.
pub record IsFresh (net : Net key_cmp Cells Request End) (desk : Desk key_cmp Cells Request) (m : Message Key Cells) : Type 0 where
  pub sender : m.sender < net.nodes
  pub low : 1 ≤ m.tid
  pub high : m.tid ≤ length desk.list
  pub marks : (sets : Sets Key Cells) → m.content ≡ Marks sets → marks_of net desk m.tid ≡ None
  pub holders : (least : Holders) → m.content ≡ Least least → holders_from net desk m.tid m.sender ≡ None
  pub fate : (verdict : Verdict) → m.content ≡ Fate verdict → fate_of net desk m.tid ≡ None
