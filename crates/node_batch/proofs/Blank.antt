-- A batch of which nothing was given yet.
use Rattle.std.proofs.Common.{◌≡◌, ℕ, zero, suc, ◌+◌, ◌<◌, List, [], ◌∷◌, ◌++◌, map, length, None, Option, refl, sym, ap, ◌∙◌, subst, arith}
use Rattle.std.specs.Prelude.{replicate, slice_index_or, unwrap_or}
use Rattle.std.specs.List.{range_with_len}
use Rattle.std.proofs.lemmas.List.{map-append, length-replicate, replicate-append-replicate}
use Rattle.aria_base.specs.Orders.{key_cmp, Cells, Database}
use Rattle.aria_base.specs.declared.calls.Request.{Request}
use Rattle.batch_rules.specs.declared.verdicts.Rule.{Rule}
use Rattle.batch_rules.specs.declared.verdicts.Verdict.{Verdict}
use Rattle.proc_lang.specs.declared.ends.End.{End}
use Rattle.proc_lang.specs.Catalogs.{Plan}
use Rattle.aria_base.specs.declared.keys.Key.{Key}
use Rattle.node_rules.specs.Messages.{Sets, Holders}
use Rattle.node_rules.specs.Nets.{Net, all_nodes}
use Rattle.node_rules.specs.Dues.{Desk, lesser, no_sets, no_holders, told, marks_of, sets_of, holders_from, least_of, fate_of}
use Rattle.node_batch.specs.Letters.{Same, net_of}
use Rattle.node_batch.specs.Letters.{sets_of as part_of}
use Rattle.node_batch.specs.declared.letters.Part.{Part}
use Rattle.node_batch.specs.OwnRuns.{told_of}
use Rattle.node_batch.specs.NodeBatches.{ShowsBy, IsBare}
use Rattle.node_batch.specs.Counts.{given_count}
use Rattle.node_batch.specs.Holds.{HasHeard, no_hold}
use Rattle.node_batch.specs.declared.holds.Hold.{Hold}
use Rattle.node_batch.specs.declared.own_runs.OwnRun.{OwnRun}
use Rattle.node_batch.specs.declared.mails.Site.{Site}

pub one_more : {X Y : Type 0} (f : X → Y) (y : Y) (out next : List X) (x : X) (n : ℕ) → map f out ≡ replicate n y → next ≡ out ++ x ∷ [] → f x ≡ y
    → map f next ≡ replicate (n + 1) y
one_more f y out next x n so push same = ap (map f) push ∙ map-append f out (x ∷ []) ∙ (λ i. so i ++ same i ∷ []) ∙ replicate-append-replicate n 1 y

all_alike : {Y : Type 0} (f : ℕ → Y) (y : Y) → ((t : ℕ) → f t ≡ y) → (a n : ℕ) → map f (range_with_len a n) ≡ replicate n y
all_alike f y same a zero = refl
all_alike f y same a (suc n) = λ i. same a i ∷ all_alike f y same (a + 1) n i

get_alike : {X : Type 0} (n i : ℕ) (x d : X) → i < n → slice_index_or (replicate n x) i d ≡ x
get_alike zero i x d lt = absurd (omega arith)
get_alike (suc n) zero x d lt = refl
get_alike (suc n) (suc i) x d lt = get_alike n i x d (omega arith)

count_none : (X : Type 0) (n : ℕ) → given_count {X = X} (replicate n None) ≡ 0
count_none X zero = refl
count_none X (suc n) = count_none X n

no_least : (net : Net key_cmp Cells Request End) (desk : Desk key_cmp Cells Request) (side : Holders → Option ℕ) → side no_holders ≡ None
    → ((t n : ℕ) → holders_from net desk t n ≡ None) → (tid : ℕ) (nodes : List ℕ) → least_of net desk side tid nodes ≡ None
no_least net desk side bare none tid [] = refl
no_least net desk side bare none tid (n ∷ ns) =
    (λ i. lesser (side (unwrap_or (none tid n i) no_holders)) (no_least net desk side bare none tid ns i)) ∙ ap (λ r. lesser r None) bare

module _ (plan : Plan) (rule : Rule) (same : Same) (site : Site) (rows : Database) (list : List Request) where
  abbrev net : Net key_cmp Cells Request End
  net = net_of plan rule site.nodes same

  abbrev bare : Desk key_cmp Cells Request
  bare = record { node = site.node; rows = rows; batch = site.batch; list = list; given = [] }

  heard_none : (tid : ℕ) → HasHeard net bare tid no_hold
  heard_none tid = record {
    waw = sym (no_least net bare (λ h. h.waw) refl (λ t n. refl) tid (all_nodes net));
    raw = sym (no_least net bare (λ h. h.raw) refl (λ t n. refl) tid (all_nodes net));
    war = sym (no_least net bare (λ h. h.war) refl (λ t n. refl) tid (all_nodes net));
    heard = sym (ap given_count (all_alike (holders_from net bare tid) None (λ n. refl) 0 site.nodes) ∙ count_none Holders site.nodes);
  }

  module _ (runs : List OwnRun) (parts : List Part) (holds : List Hold) (fates : List (Option Verdict))
      (no_runs : map told_of runs ≡ replicate (length list) []) (no_parts : map part_of parts ≡ replicate (length list) no_sets)
      (no_holds : holds ≡ replicate (length list) no_hold) (no_fates : fates ≡ replicate (length list) None) where
    shows : ShowsBy plan rule same bare site rows list runs parts 0 holds fates 0
    shows = record {
      node_is = refl;
      batch_is = refl;
      rows_are = refl;
      list_is = refl;
      runs_are = no_runs ∙ sym (all_alike (told net bare) [] (λ t. refl) 1 (length list));
      parts_are = no_parts ∙ sym (all_alike (sets_of net bare) no_sets (λ t. refl) 1 (length list));
      marked_is = sym (ap given_count (all_alike (marks_of net bare) None (λ t. refl) 1 (length list)) ∙ count_none (Sets Key Cells) (length list));
      many_holds = ap length no_holds ∙ length-replicate (length list) no_hold;
      holds_are = λ i d lt.
          let many = ap length no_holds ∙ length-replicate (length list) no_hold in
          subst (HasHeard net bare (i + 1)) (sym (ap (λ l. slice_index_or l i d) no_holds ∙ get_alike (length list) i no_hold d (omega arith)))
          (heard_none (i + 1));
      fates_are = no_fates ∙ sym (all_alike (fate_of net bare) None (λ t. refl) 1 (length list));
      fated_is = sym (ap given_count no_fates ∙ count_none Verdict (length list));
    }

    pub bare_shows : (desk : Desk key_cmp Cells Request) → IsBare desk site rows list
        → ShowsBy plan rule same desk site rows list runs parts 0 holds fates 0
    bare_shows desk b =
        let is : bare ≡ desk
        = λ i. record {
          node = sym b.node_is i;
          rows = sym b.rows_are i;
          batch = sym b.batch_is i;
          list = sym b.list_is i;
          given = sym b.given_is i;
        } in
        subst (λ desk. ShowsBy plan rule same desk site rows list runs parts 0 holds fates 0) is shows
