-- Messages of the code as the definitions speak of them, and what is fixed for nodes in code.
use Rattle.std.specs.Prelude.{ℕ, ◌%◌, Bool}
use Rattle.aria_base.specs.Orders.{key_cmp, Cells}
use Rattle.aria_base.specs.declared.keys.Key.{Key}
use Rattle.aria_base.specs.declared.calls.Request.{Request}
use Rattle.batch_rules.specs.declared.verdicts.Rule.{Rule}
use Rattle.proc_lang.specs.Catalogs.{Plan, run_of}
use Rattle.proc_lang.specs.Meaning.{is_done}
use Rattle.proc_lang.specs.declared.ends.End.{End}
use Rattle.tbl_rows.specs.Shards.{home}
use Rattle.node_rules.specs.Messages.{Sets, Holders, Content, Message}
use Rattle.node_rules.specs.Messages as content
use Rattle.node_rules.specs.Nets.{Net}
use Rattle.node_batch.specs.declared.letters.Part.{Part}
use Rattle.node_batch.specs.declared.letters.Least.{Least}
use Rattle.node_batch.specs.declared.letters.Said.{Said}
use Rattle.node_batch.specs.declared.letters.Said.TheVariants as said
use Rattle.node_batch.specs.declared.letters.Letter.{Letter}

abbrev pub sets_of : Part → Sets Key Cells
sets_of p = record { reads = p.reads; rows = p.rows }

abbrev pub holders_of : Least → Holders
holders_of l = record { waw = l.waw; raw = l.raw; war = l.war }

abbrev pub content_of : Said → Content Key Cells
content_of (said.Ask k) = content.Ask k
content_of (said.Told k row) = content.Told k row
content_of (said.Marks part) = content.Marks (sets_of part)
content_of (said.Least least) = content.Least (holders_of least)
content_of (said.Fate verdict) = content.Fate verdict

abbrev pub message_of : Letter → Message Key Cells
message_of l = record { batch = l.batch; tid = l.tid; sender = l.sender; addressee = l.addressee; content = content_of l.said }

-- which messages are one: no code asks, since none is sent twice
abbrev pub Same : Type 0
Same = Message Key Cells → Message Key Cells → Bool

-- the node of a key is its shard's number, divided among the nodes
abbrev pub net_of : Plan → Rule → ℕ → Same → Net key_cmp Cells Request End
net_of plan rule nodes same = record {
  is_done = is_done;
  tree = run_of plan;
  rule = rule;
  nodes = nodes;
  home = λ k. home k % nodes;
  is_same = same;
}
