-- The end of a batch: what code leaves is what the definition leaves.
use Rattle.std.proofs.Common.{◌≡◌, ℕ, ◌+◌, List, [], ◌∷◌, map, length, true, false, cond, Option, refl, sym, ap, ◌∙◌}
use Rattle.std.specs.Prelude.{not, if◌then◌else◌}
use Rattle.std.specs.List.{filter, range_with_len, enumerate_from}
use Rattle.aria_base.specs.Orders.{key_cmp, Cells, Database}
use Rattle.aria_base.specs.declared.keys.Key.{Key}
use Rattle.aria_base.specs.declared.calls.Request.{Request}
use Rattle.batch_rules.specs.declared.verdicts.Rule.{Rule}
use Rattle.batch_rules.specs.declared.verdicts.Verdict.{Verdict}
use Rattle.batch_rules.specs.Touches.{overwritten, installed}
use Rattle.proc_lang.specs.Catalogs.{Plan}
use Rattle.node_rules.specs.Messages.{Sets}
use Rattle.node_rules.specs.Nets.{tids}
use Rattle.node_rules.specs.Dues.{Desk, sets_of, fate_of}
use Rattle.node_rules.specs.Worlds.{finishes_by, rows_left, waiting_left}
use Rattle.node_batch.specs.Letters.{Same, net_of}
use Rattle.node_batch.specs.Letters.{sets_of as part_of}
use Rattle.node_batch.specs.NodeBatches.{Shows}
use Rattle.node_batch.specs.Endings.{all_installed, all_waiting}
use Rattle.node_batch.specs.declared.node_batches.NodeBatch.{NodeBatch}

installs : (f : ℕ → Sets Key Cells) (g : ℕ → Option Verdict) (db : Database) (ts : List ℕ)
    → installed (λ t. (f t).rows) db (filter (λ t. finishes_by (g t)) ts) ≡ all_installed db (map f ts) (map g ts)
installs f g db [] = refl
installs f g db (t ∷ ts) = elim (finishes_by (g t)) as
    (λ b. installed (λ t. (f t).rows) db (cond b (t ∷ filter (λ t. finishes_by (g t)) ts) (filter (λ t. finishes_by (g t)) ts)) ≡ all_installed
    (if b then overwritten db (f t).rows else db) (map f ts) (map g ts)) [
      | true ↦ installs f g (overwritten db (f t).rows) ts
      | false ↦ installs f g db ts
    ]

waits : (g : ℕ → Option Verdict) (i : ℕ) (qs : List Request)
    → map (λ e. e.1) (filter (λ e. not (finishes_by (g e.0))) (enumerate_from i qs)) ≡ all_waiting qs (map g (range_with_len i (length qs)))
waits g i [] = refl
waits g i (q ∷ qs) = elim (finishes_by (g i)) as
    (λ b. map (λ e. e.1) (cond (not b) ((i, q) ∷ filter (λ e. not (finishes_by (g e.0))) (enumerate_from (i + 1) qs))
    (filter (λ e. not (finishes_by (g e.0))) (enumerate_from (i + 1) qs)))
    ≡ (if b then all_waiting qs (map g (range_with_len (i + 1) (length qs))) else q ∷ all_waiting qs
    (map g (range_with_len (i + 1) (length qs))))) [
      | true ↦ waits g (i + 1) qs
      | false ↦ ap (λ l. q ∷ l) (waits g (i + 1) qs)
    ]

module _ (plan : Plan) (rule : Rule) (same : Same) (desk : Desk key_cmp Cells Request) (b : NodeBatch) (shows : Shows plan rule same desk b) where
  pub rows_end : all_installed b.rows (map part_of b.parts.items) b.fates.items ≡ rows_left (net_of plan rule b.site.nodes same) desk
  rows_end = (λ i. all_installed (sym shows.rows_are i) (shows.parts_are i) (shows.fates_are i))
      ∙ sym (installs (sets_of (net_of plan rule b.site.nodes same) desk) (fate_of (net_of plan rule b.site.nodes same) desk) desk.rows (tids desk.list))

  pub waiting_end : all_waiting b.list.items b.fates.items ≡ waiting_left (net_of plan rule b.site.nodes same) desk
  waiting_end = (λ i. all_waiting (sym shows.list_is i) (shows.fates_are i)) ∙ sym (waits (fate_of (net_of plan rule b.site.nodes same) desk) 1 desk.list)
