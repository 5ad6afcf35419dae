-- The least holders that nodes told of one request, in code.
use Rattle.std.specs.Prelude.{◌≡◌, ℕ, List, map, None}
use Rattle.std.specs.List.{range_with_len}
use Rattle.aria_base.specs.Orders.{key_cmp, Cells}
use Rattle.aria_base.specs.declared.keys.Key.{Key}
use Rattle.aria_base.specs.declared.calls.Request.{Request}
use Rattle.batch_rules.specs.declared.verdicts.Verdict.{Verdict}
use Rattle.proc_lang.specs.declared.ends.End.{End}
use Rattle.node_rules.specs.Messages.{Fate, Message}
use Rattle.node_rules.specs.Nets.{Net, all_nodes}
use Rattle.node_rules.specs.Dues.{Desk, holders_from, least_of}
use Rattle.node_batch.specs.Counts.{given_count}
use Rattle.node_batch.specs.Mails.{mail}
use Rattle.node_batch.specs.declared.holds.Hold.{Hold}
use Rattle.node_batch.specs.declared.mails.Site.{Site}

-- the verdict to all nodes
abbrev pub fates_mails : Site → ℕ → Verdict → List (Message Key Cells)
fates_mails site tid v = map (λ node. mail site tid node (Fate v)) (range_with_len 0 site.nodes)

-- it has the least of what all nodes told of the request, and their count
pub record HasHeard (net : Net key_cmp Cells Request End) (desk : Desk key_cmp Cells Request) (tid : ℕ) (hold : Hold) : Type 0 where
  pub waw : hold.waw ≡ least_of net desk (λ h. h.waw) tid (all_nodes net)
  pub raw : hold.raw ≡ least_of net desk (λ h. h.raw) tid (all_nodes net)
  pub war : hold.war ≡ least_of net desk (λ h. h.war) tid (all_nodes net)
  pub heard : hold.heard ≡ given_count (map (holders_from net desk tid) (all_nodes net))

-- none was told
abbrev pub no_hold : Hold
no_hold = record { waw = None; raw = None; war = None; heard = 0 }
