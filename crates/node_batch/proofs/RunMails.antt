-- What runs on the rows that were told make due.
use Rattle.std.proofs.Common.{◌≡◌, ℕ, ◌+◌, ◌-◌, List, [], ◌∷◌, ◌++◌, map, length, Bool, true, false, cond, Some, None, Option, refl, sym, ap, ◌∙◌, arith}
use Rattle.std.specs.Prelude.{◌%◌, ◌==◌, filter, flat_map, if◌then◌else◌}
use Rattle.std.specs.List.{range_with_len, enumerate_from}
use Rattle.aria_base.specs.Orders.{key_cmp, Cells, Database}
use Rattle.aria_base.specs.declared.keys.Key.{Key}
use Rattle.aria_base.specs.declared.calls.Request.{Request}
use Rattle.batch_rules.specs.declared.verdicts.Rule.{Rule}
use Rattle.batch_rules.specs.Touches.{keys_of, outside}
use Rattle.batch_rules.specs.Trees.{trace_of}
use Rattle.proc_lang.specs.declared.ends.End.{End}
use Rattle.proc_lang.specs.Catalogs.{Plan, run_of}
use Rattle.proc_exec.specs.Outcomes.{within_at, within_by, outcome_at}
use Rattle.node_rules.specs.Messages.{Ask, Marks, Message}
use Rattle.node_rules.specs.Nets.{Net, owner, all_nodes}
use Rattle.node_rules.specs.Dues.{Desk, both, part_at, sets_on, told, run_due, fate_of}
use Rattle.node_rules.specs.Worlds.{entry_of, entries_left}
use Rattle.node_rules.specs.Newses.{first_news}
use Rattle.node_batch.specs.Letters.{Same, net_of}
use Rattle.node_batch.specs.OwnRuns.{told_of, rows_of}
use Rattle.node_batch.specs.Mails.{run_mails, own_mails}
use Rattle.node_batch.specs.Entries.{entry_by, own_entries}
use Rattle.node_batch.specs.NodeBatches.{Shows}
use Rattle.node_batch.specs.declared.node_batches.NodeBatch.{NodeBatch}
use Rattle.node_batch.specs.declared.mails.Site.{Site}

module _ (plan : Plan) (rule : Rule) (same : Same) (site : Site) where
  abbrev net : Net key_cmp Cells Request End
  net = net_of plan rule site.nodes same

  abbrev due_by : ℕ → Request → Option Key → Database → ℕ → ℕ → List (Message Key Cells)
  due_by tid q wanted db node batch = elim wanted [
    | None ↦ map (λ n. record { batch = batch; tid = tid; sender = node; addressee = n; content = Marks (part_at net n (sets_on net db q)) })
        (all_nodes net)
    | Some k ↦ record { batch = batch; tid = tid; sender = node; addressee = net.home k; content = Ask k } ∷ []
  ]

  abbrev wanted_by : Request → List (Key × Option Cells) → Option Key
  wanted_by q ts = outside key_cmp (both (keys_of ts)) (trace_of (run_of plan q) (rows_of ts))

  mails_by : (tid : ℕ) (q : Request) (db : Database) (r : Option Key)
      → run_mails site tid (within_by r (outcome_at (run_of plan) db q)) ≡ due_by tid q r db site.node site.batch
  mails_by tid q db None = refl
  mails_by tid q db (Some k) = refl

  module _ (desk : Desk key_cmp Cells Request) (node_is : desk.node ≡ site.node) (batch_is : desk.batch ≡ site.batch) where
    pub mails_are : (tid : ℕ) (q : Request) (ts : List (Key × Option Cells)) → ts ≡ told net desk tid
        → run_mails site tid (within_at (run_of plan) (both (keys_of ts)) (rows_of ts) q) ≡ run_due net desk (tid, q)
    mails_are tid q ts e = mails_by tid q (rows_of ts) (wanted_by q ts)
        ∙ (λ i. due_by tid q (wanted_by q (e i)) (rows_of (e i)) (sym node_is i) (sym batch_is i))

    abbrev own : ℕ × Request → Bool
    own e = owner net e.0 == desk.node

    is_own : (i : ℕ) → (i % site.nodes == site.node) ≡ (owner net (i + 1) == desk.node)
    is_own i = let back : i ≡ i + 1 - 1 = omega arith in λ j. back j % site.nodes == sym node_is j

    mails_from : (i : ℕ) (qs : List Request) → own_mails plan site i qs (map (told net desk) (range_with_len (i + 1) (length qs)))
        ≡ flat_map (run_due net desk) (filter own (enumerate_from (i + 1) qs))
    mails_from i [] = refl
    mails_from i (q ∷ qs) =
        let ts = told net desk (i + 1) in
        let mails = run_mails site (i + 1) (within_at (run_of plan) (both (keys_of ts)) (rows_of ts) q) in
        let rest = filter own (enumerate_from (i + 1 + 1) qs) in
        (λ j. (if is_own i j then mails else []) ++ mails_from (i + 1) qs j)
        ∙ elim (owner net (i + 1) == desk.node) as (λ b. (if b then mails else []) ++ flat_map (run_due net desk) rest
        ≡ flat_map (run_due net desk) (cond b ((i + 1, q) ∷ rest) rest)) [
          | true ↦ ap (λ l. l ++ flat_map (run_due net desk) rest) (mails_are (i + 1) q ts refl)
          | false ↦ refl
        ]

    entries_from : (i : ℕ) (qs : List Request) → own_entries plan site i qs (map (fate_of net desk) (range_with_len (i + 1) (length qs)))
        (map (told net desk) (range_with_len (i + 1) (length qs))) ≡ map (entry_of net desk) (filter own (enumerate_from (i + 1) qs))
    entries_from i [] = refl
    entries_from i (q ∷ qs) =
        let entry = entry_by plan i q (fate_of net desk (i + 1)) (told net desk (i + 1)) in
        let rest = filter own (enumerate_from (i + 1 + 1) qs) in
        (λ j. (if is_own i j then entry ∷ [] else []) ++ entries_from (i + 1) qs j)
        ∙ elim (owner net (i + 1) == desk.node) as (λ b. (if b then entry ∷ [] else []) ++ map (entry_of net desk) rest
        ≡ map (entry_of net desk) (cond b ((i + 1, q) ∷ rest) rest)) [
          | true ↦ refl
          | false ↦ refl
        ]

module _ (plan : Plan) (rule : Rule) (same : Same) (desk : Desk key_cmp Cells Request) (b : NodeBatch) (shows : Shows plan rule same desk b) where
  one : 0 + 1 ≡ 1
  one = omega arith

  pub first_mails : own_mails plan b.site 0 b.list.items (map told_of b.runs.items) ≡ first_news (net_of plan rule b.site.nodes same) desk
  first_mails = (λ i. own_mails plan b.site 0 (sym shows.list_is i) (shows.runs_are i))
      ∙ mails_from plan rule same b.site desk shows.node_is shows.batch_is 0 desk.list

  pub entries_end : own_entries plan b.site 0 b.list.items b.fates.items (map told_of b.runs.items) ≡ entries_left (net_of plan rule b.site.nodes same) desk
  entries_end = (λ i. own_entries plan b.site 0 (sym shows.list_is i) (shows.fates_are i) (shows.runs_are i))
      ∙ entries_from plan rule same b.site desk shows.node_is shows.batch_is 0 desk.list
