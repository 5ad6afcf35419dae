-- How what is due changes where a node is given one more message: in one part, and there by what the message tells.
use Rattle.std.proofs.Common.{◌≡◌, ℕ, ◌-◌, List, [], ◌∷◌, ◌++◌, map, take, true, false, Some, None, Option, refl, sym, ap, ◌∙◌, Ordering}
use Rattle.std.specs.Prelude.{is_some, ◌==◌, if◌then◌else◌, filter_map, unwrap_or}
use Rattle.std.specs.List.{list_all, cons_option}
use Rattle.std.specs.FinMap as fin
use Rattle.std.specs.FinMap.{FinMap}
use Rattle.std.proofs.lemmas.Bool.{ne_eqb}
use Rattle.std.proofs.lemmas.List.{append-nil}
use Rattle.std.proofs.lemmas.List.Elements.{filter_map-append}
use Rattle.batch_rules.specs.Touches.{keys_of, outside, overwritten}
use Rattle.batch_rules.specs.Trees.{trace_of}
use Rattle.batch_rules.specs.Verdicts.{verdict_by}
use Rattle.node_rules.specs.Messages.{Sets, Holders, Content, Ask, Marks, Least, Fate, Message, pick, told_in, marks_in, least_in, of_tid, of_node}
use Rattle.node_rules.specs.Nets.{Net, tids, owner, all_nodes}
use Rattle.node_rules.specs.Dues.{Desk, no_sets, no_holders, lesser, both, by_sets, holders_on, part_at, sets_on, message, told, run_due, told_due}
use Rattle.node_rules.specs.Dues.{marks_of, has_marks, least_due, holders_from, has_holders, least_of, fate_due}
use Rattle.node_rules.specs.Newses.{desk_with}

pub pick_push : {X Y : Type 0} (f : X → Option Y) (xs : List X) (x : X) → f x ≡ None → pick f (xs ++ x ∷ []) ≡ pick f xs
pick_push f [] x e = ap (λ r. elim r [ None ↦ pick f [] | Some y ↦ Some y ]) e
pick_push f (z ∷ zs) x e = elim (f z) as
    (λ r. (elim r [ None ↦ pick f (zs ++ x ∷ []) | Some y ↦ Some y ]) ≡ (elim r [ None ↦ pick f zs | Some y ↦ Some y ])) [
      | None ↦
          pick_push f zs x e
      | Some y ↦ refl
    ]

module _ {K V : Type 0} {X : Type 0} where
  pub other_tid : (what : Content K V → Option X) (tid : ℕ) (m : Message K V) → (m.tid ≡ tid → ⊥) → of_tid what tid m ≡ None
  other_tid what tid m off = ap (λ b. if b then what m.content else None) (ne_eqb m.tid tid off)

  pub other_kind : (what : Content K V → Option X) (tid : ℕ) (m : Message K V) → what m.content ≡ None → of_tid what tid m ≡ None
  other_kind what tid m e = elim (m.tid == tid) as (λ b. (if b then what m.content else None) ≡ None) [ true ↦ e | false ↦ refl ]

  pub none_from : (what : Content K V → Option X) (tid node : ℕ) (m : Message K V) → of_tid what tid m ≡ None → of_node what tid node m ≡ None
  none_from what tid node m e = elim (m.sender == node) as (λ b. (if b then of_tid what tid m else None) ≡ None) [ true ↦ e | false ↦ refl ]

module _ {K V Q A : Type 0} {R : K → K → Ordering} (net : Net R V Q A) (desk : Desk R V Q) where
  abbrev rows_of : List (K × Option V) → FinMap R V
  rows_of rows = overwritten fin.empty rows

  -- the parts, as functions of what the messages tell
  abbrev run_by : ℕ × Q → List (K × Option V) → List (Message K V)
  run_by e rows = elim (outside R (both (keys_of rows)) (trace_of (net.tree e.1) (rows_of rows))) [
    | None ↦ map (λ node. message net desk e.0 node (Marks (part_at net node (sets_on net (rows_of rows) e.1)))) (all_nodes net)
    | Some k ↦ message net desk e.0 (net.home k) (Ask k) ∷ []
  ]

  abbrev leasts_by : (ℕ → Option (Sets K V)) → List (Message K V)
  leasts_by marks = if list_all (λ tid. is_some (marks tid)) (tids desk.list)
      then map (λ tid. message net desk tid (owner net tid)
      (Least (holders_on (by_sets R) (map (λ t. unwrap_or (marks t) no_sets) (take (tid - 1) (tids desk.list))) (unwrap_or (marks tid) no_sets))))
      (tids desk.list)
      else []

  abbrev least_by : (ℕ → Option Holders) → (Holders → Option ℕ) → List ℕ → Option ℕ
  least_by holders side [] = None
  least_by holders side (node ∷ nodes) = lesser (side (unwrap_or (holders node) no_holders)) (least_by holders side nodes)

  least_by-is : (side : Holders → Option ℕ) (tid : ℕ) (nodes : List ℕ) → least_of net desk side tid nodes ≡ least_by (holders_from net desk tid) side nodes
  least_by-is side tid [] = refl
  least_by-is side tid (node ∷ nodes) = ap (lesser (side (unwrap_or (holders_from net desk tid node) no_holders))) (least_by-is side tid nodes)

  abbrev fate_by : ℕ × Q → (ℕ → Option Holders) → List (Message K V)
  fate_by e holders = if list_all (λ node. is_some (holders node)) (all_nodes net)
      then map (λ node. message net desk e.0 node
      (Fate (verdict_by net.rule (least_by holders (λ h. h.waw) (all_nodes net)) (least_by holders (λ h. h.raw) (all_nodes net))
      (least_by holders (λ h. h.war) (all_nodes net))))) (all_nodes net)
      else []

  pub fate_due-is : (e : ℕ × Q) → fate_due net desk e ≡ fate_by e (holders_from net desk e.0)
  fate_due-is e = λ i. if has_holders net desk e.0
      then map (λ node. message net desk e.0 node
      (Fate (verdict_by net.rule (least_by-is (λ h. h.waw) e.0 (all_nodes net) i) (least_by-is (λ h. h.raw) e.0 (all_nodes net) i)
      (least_by-is (λ h. h.war) e.0 (all_nodes net) i)))) (all_nodes net)
      else []

  module _ (m : Message K V) where
    abbrev next : Desk R V Q
    next = desk_with net desk m

    pub told_push : (tid : ℕ) → told net next tid ≡ told net desk tid ++ cons_option (of_tid told_in tid m) []
    told_push tid = filter_map-append (of_tid told_in tid) desk.given (m ∷ [])

    pub told_stays : (tid : ℕ) → of_tid told_in tid m ≡ None → told net next tid ≡ told net desk tid
    told_stays tid e = told_push tid ∙ ap (λ r. told net desk tid ++ cons_option r []) e ∙ append-nil (told net desk tid)

    pub run_stays : (e : ℕ × Q) → of_tid told_in e.0 m ≡ None → run_due net next e ≡ run_due net desk e
    run_stays e none = ap (run_by e) (told_stays e.0 none)

    pub tolds_push : filter_map (told_due net next) next.given ≡ filter_map (told_due net desk) desk.given ++ cons_option (told_due net desk m) []
    tolds_push = filter_map-append (told_due net desk) desk.given (m ∷ [])

    pub marks_stay : (tid : ℕ) → of_tid marks_in tid m ≡ None → marks_of net next tid ≡ marks_of net desk tid
    marks_stay tid e = pick_push (of_tid marks_in tid) desk.given m e

    pub leasts_stay : ((tid : ℕ) → of_tid marks_in tid m ≡ None)
        → (if has_marks net next then map (least_due net next) (tids desk.list) else [])
        ≡ (if has_marks net desk then map (least_due net desk) (tids desk.list) else [])
    leasts_stay none = ap leasts_by (λ i tid. marks_stay tid (none tid) i)

    pub holders_stay : (tid node : ℕ) → of_tid least_in tid m ≡ None → holders_from net next tid node ≡ holders_from net desk tid node
    holders_stay tid node e = pick_push (of_node least_in tid node) desk.given m (none_from least_in tid node m e)

module _ {K V Q A : Type 0} {R : K → K → Ordering} (net : Net R V Q A) (desk : Desk R V Q) (m : Message K V) where
  pub fate_stays : (e : ℕ × Q) → of_tid least_in e.0 m ≡ None → fate_due net (desk_with net desk m) e ≡ fate_due net desk e
  fate_stays e none = fate_due-is net (desk_with net desk m) e ∙ ap (fate_by net desk e) (λ i node. holders_stay net desk m e.0 node none i)
      ∙ sym (fate_due-is net desk e)
