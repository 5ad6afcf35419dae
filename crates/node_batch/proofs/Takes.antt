-- What the conditions of a message's arrival come to, in code.
use Rattle.std.proofs.Common.{◌≡◌, ℕ, ◌-◌, ◌<◌, ◌≤◌, length, refl, ap, ◌∙◌, arith}
use Rattle.std.specs.Prelude.{slice_index_or}
use Rattle.aria_base.specs.Orders.{key_cmp, Cells}
use Rattle.aria_base.specs.declared.calls.Request.{Request}
use Rattle.aria_base.specs.declared.keys.Key.{Key}
use Rattle.batch_rules.specs.declared.verdicts.Rule.{Rule}
use Rattle.batch_rules.specs.declared.verdicts.Verdict.{Verdict}
use Rattle.proc_lang.specs.Catalogs.{Plan}
use Rattle.node_rules.specs.Messages.{Sets, Holders, Message, Marks, Least, Fate}
use Rattle.node_rules.specs.Dues.{Desk}
use Rattle.node_batch.specs.Letters.{Same, net_of}
use Rattle.node_batch.specs.NodeBatches.{Shows, IsFresh}
use Rattle.node_batch.specs.declared.node_batches.NodeBatch.{NodeBatch}
use Rattle.node_batch.specs.declared.holds.Hold.{Hold}
use Rattle.node_batch.proofs.Kept.{many_parts, many_runs, many_fates, marks_left, holders_left, fates_left}

module _ (plan : Plan) (rule : Rule) (same : Same) (desk : Desk key_cmp Cells Request) (b : NodeBatch) (shows : Shows plan rule same desk b)
    (m : Message Key Cells) (f : IsFresh (net_of plan rule b.site.nodes same) desk m) where
  pub listed : m.tid ≤ length b.list.items
  listed =
      let long = ap length shows.list_is in
      let high = f.high in
      omega arith

  pub runs_long : length b.runs.items ≡ length b.list.items
  runs_long = many_runs plan rule same desk _ _ _ _ _ _ _ _ _ shows

  pub parts_long : length b.parts.items ≡ length b.list.items
  parts_long = many_parts plan rule same desk _ _ _ _ _ _ _ _ _ shows

  pub fates_long : length b.fates.items ≡ length b.list.items
  fates_long = many_fates plan rule same desk _ _ _ _ _ _ _ _ _ shows

  pub parts_left : (sets : Sets Key Cells) → m.content ≡ Marks sets → b.marked < length b.parts.items
  parts_left sets e = marks_left plan rule same desk _ _ _ _ _ _ _ _ _ shows m m.tid f.low listed refl (f.marks sets e)

  pub verdicts_left : (verdict : Verdict) → m.content ≡ Fate verdict → b.fated < length b.fates.items
  verdicts_left verdict e = fates_left plan rule same desk _ _ _ _ _ _ _ _ _ shows m m.tid f.low listed refl (f.fate verdict e)

  pub nodes_left : (least : Holders) → m.content ≡ Least least → (d : Hold) → (slice_index_or b.holds.items (m.tid - 1) d).heard < b.site.nodes
  nodes_left least e d = holders_left plan rule same desk _ _ _ _ _ _ _ _ _ shows m m.tid f.low listed refl m.sender f.sender (f.holders least e) d
