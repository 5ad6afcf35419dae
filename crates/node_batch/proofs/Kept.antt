-- What a node keeps, after one message more.
use Rattle.std.proofs.Common.{min, take, ◌≡◌, ℕ, zero, suc, ◌+◌, ◌-◌, ◌<◌, ◌≤◌, inl, inr, List, [], ◌∷◌, ◌++◌, map, length, false, Some, None, Option, refl}
use Rattle.std.proofs.Common.{sym, ap, ◌∙◌, subst, arith}
use Rattle.std.specs.Prelude.{◌%◌, slice_get, slice_index_or, slice_set, is_some, nat_eq, unwrap_or, if◌then◌else◌}
use Rattle.std.specs.List.{list_all, range_with_len, cons_option}
use Rattle.std.specs.FinMap as fin
use Rattle.std.proofs.lemmas.Bool.{cases_eq, eqb-true, eq-eqb, ne_eqb}
use Rattle.std.proofs.lemmas.Option.{none-some, slice_get-get_or}
use Rattle.std.proofs.lemmas.List.{get_or-set_same, get_or-set_other, length-set, length-map, map-append, map-set, take_more}
use Rattle.std.proofs.lemmas.List.Folds.{list_all-map}
use Rattle.aria_base.specs.Orders.{key_cmp, Cells, Database}
use Rattle.aria_base.specs.declared.keys.Key.{Key}
use Rattle.aria_base.specs.declared.calls.Request.{Request}
use Rattle.batch_rules.specs.declared.verdicts.Rule.{Rule}
use Rattle.batch_rules.specs.declared.verdicts.Verdict.{Verdict}
use Rattle.batch_rules.specs.Touches.{keys_of}
use Rattle.proc_lang.specs.declared.ends.End.{End}
use Rattle.proc_lang.specs.Catalogs.{Plan, run_of}
use Rattle.proc_exec.specs.Outcomes.{within_at}
use Rattle.proc_exec.specs.declared.outcomes.Within.{Within}
use Rattle.node_rules.specs.Messages.{Sets, Holders, Message, Ask, Told, Marks, Least, Fate, pick, told_in, marks_in, least_in, fate_in, of_tid, of_node}
use Rattle.node_rules.specs.Nets.{Net, tids, all_nodes}
use Rattle.node_rules.specs.Dues.{Desk, message, has_holders, verdict_here, fate_due, lesser, no_holders, holders_from, least_of, by_sets, holders_on, both}
use Rattle.node_rules.specs.Dues.{no_sets, told, run_due, marks_of, has_marks, sets_of, least_due, fate_of, is_over}
use Rattle.node_rules.specs.Newses.{desk_with, of_request, news, news_by}
use Rattle.node_rules.proofs.Parts.{same_truth}
use Rattle.node_rules.proofs.Counting.{range_count}
use Rattle.node_rules.proofs.Changes.{pick_push, other_tid, other_kind, told_push, told_stays, holders_stay}
use Rattle.node_batch.specs.Letters.{Same, net_of, message_of}
use Rattle.node_batch.specs.Letters.{sets_of as part_of}
use Rattle.node_batch.specs.declared.letters.Part.{Part}
use Rattle.node_batch.specs.declared.letters.Said.TheVariants as said
use Rattle.node_batch.specs.declared.letters.Letter.{Letter}
use Rattle.node_batch.specs.OwnRuns.{told_of, rows_of}
use Rattle.node_batch.specs.Mails.{run_mails, leasts_mails}
use Rattle.node_batch.specs.Firsts.{holders_behind}
use Rattle.node_batch.specs.NodeBatches.{ShowsBy}
use Rattle.node_batch.specs.Counts.{given_count}
use Rattle.node_batch.specs.Holds.{HasHeard, fates_mails}
use Rattle.batch_rules.specs.Verdicts.{verdict_by}
use Rattle.node_rules.proofs.Picks.{get_above}
use Rattle.node_batch.proofs.RunMails.{mails_are}
use Rattle.node_batch.specs.declared.holds.Hold.{Hold}
use Rattle.node_batch.specs.declared.own_runs.OwnRun.{OwnRun}
use Rattle.node_batch.specs.declared.mails.Site.{Site}

-- ---- counts

module _ {X : Type 0} where
  count_most : (xs : List (Option X)) → given_count xs ≤ length xs
  count_most [] = omega arith
  count_most (None ∷ xs) = let rest = count_most xs in omega arith
  count_most (Some x ∷ xs) = let rest = count_most xs in omega arith

  pub all_given : (xs : List (Option X)) → nat_eq (given_count xs) (length xs) ≡ list_all is_some xs
  all_given [] = refl
  all_given (None ∷ xs) = ne_eqb (given_count xs) (suc (length xs)) (λ e. let most = count_most xs in absurd (omega arith))
  all_given (Some x ∷ xs) = same_truth _ _ (λ e. let same = eqb-true (suc (given_count xs)) (suc (length xs)) e in
      eq-eqb (given_count xs) (length xs) (omega arith)) (λ e. let same = eqb-true (given_count xs) (length xs) e in
      eq-eqb (suc (given_count xs)) (suc (length xs)) (omega arith)) ∙ all_given xs

  pub count_less : (xs : List (Option X)) (i : ℕ) → i < length xs → slice_index_or xs i None ≡ None → given_count xs < length xs
  count_less [] i lt e = absurd (omega arith)
  count_less (None ∷ ys) i lt e = let most = count_most ys in omega arith
  count_less (Some y ∷ ys) zero lt e = cc
  count_less (Some y ∷ ys) (suc i) lt e = let rest = count_less ys i (omega arith) e in omega arith

  pub count_set : (xs : List (Option X)) (i : ℕ) (x : X) → i < length xs → slice_index_or xs i None ≡ None
      → given_count (slice_set xs i (Some x)) ≡ given_count xs + 1
  count_set [] i x lt e = absurd (omega arith)
  count_set (None ∷ ys) zero x lt e = omega arith
  count_set (Some y ∷ ys) zero x lt e = cc
  count_set (None ∷ ys) (suc i) x lt e = count_set ys i x (omega arith) e
  count_set (Some y ∷ ys) (suc i) x lt e = let rest = count_set ys i x (omega arith) e in omega arith

pub pick_last : {X Y : Type 0} (f : X → Option Y) (xs : List X) (x : X) (y : Y) → pick f xs ≡ None → f x ≡ Some y → pick f (xs ++ x ∷ []) ≡ Some y
pick_last f [] x y none e = ap (λ r. elim r [ None ↦ pick f [] | Some y ↦ Some y ]) e
pick_last {Y = Y} f (z ∷ zs) x y none e =
    elim (f z) as (λ r. ◌≡◌ {A = Option Y} (elim r [ None ↦ pick f zs | Some y ↦ Some y ]) None
    → ◌≡◌ {A = Option Y} (elim r [ None ↦ pick f (zs ++ x ∷ []) | Some y ↦ Some y ]) (Some y)) [
      | None ↦ λ none. pick_last f zs x y none e
      | Some w ↦ λ none. absurd (none-some w (sym none))
    ] none

-- functions of the TIDs that differ at one alone
pub map_at : {Y : Type 0} (f g : ℕ → Y) (t : ℕ) (y : Y) → ((s : ℕ) → (s ≡ t → ⊥) → g s ≡ f s) → g t ≡ y → (a n : ℕ) → a ≤ t → t < a + n
    → map g (range_with_len a n) ≡ slice_set (map f (range_with_len a n)) (t - a) y
map_at f g t y off at a zero low high = absurd (omega arith)
map_at {Y = Y} f g t y off at a (suc n) low high = elim (cases_eq a t) [
  | inl same ↦
      let here : t - a ≡ zero = omega arith in
      (λ i. (ap g same ∙ at) i ∷ rest_same n (a + 1) (omega arith) i) ∙ ap (λ k. slice_set (f a ∷ map f (range_with_len (a + 1) n)) k y) (sym here)
  | inr other ↦
      let next : t - a ≡ suc (t - (a + 1)) = omega arith in
      (λ i. off a other i ∷ map_at f g t y off at (a + 1) n (omega arith) (omega arith) i)
      ∙ ap (λ k. slice_set (f a ∷ map f (range_with_len (a + 1) n)) k y) (sym next)
]
  where
    rest_same : (n b : ℕ) → t < b → map g (range_with_len b n) ≡ map f (range_with_len b n)
    rest_same zero b lt = refl
    rest_same (suc n) b lt = λ i. off b (λ e. absurd (omega arith)) i ∷ rest_same n (b + 1) (omega arith) i

pub at_place : {Y : Type 0} (f : ℕ → Y) (d : Y) (t a n : ℕ) → a ≤ t → t < a + n → slice_index_or (map f (range_with_len a n)) (t - a) d ≡ f t
at_place f d t a zero low high = absurd (omega arith)
at_place f d t a (suc n) low high = elim (cases_eq a t) [
  | inl same ↦
      let here : t - a ≡ zero = omega arith in
      ap (λ k. slice_index_or (f a ∷ map f (range_with_len (a + 1) n)) k d) here ∙ ap f same
  | inr off ↦
      let next : t - a ≡ suc (t - (a + 1)) = omega arith in
      ap (λ k. slice_index_or (f a ∷ map f (range_with_len (a + 1) n)) k d) next ∙ at_place f d t (a + 1) n (omega arith) (omega arith)
]

-- an element of a mapped list
pub mapped_at : {X Y : Type 0} (f : X → Y) (xs : List X) (i : ℕ) (d : X) (e : Y) → i < length xs → slice_index_or (map f xs) i e ≡ f (slice_index_or xs i d)
mapped_at f [] i d e lt = absurd (omega arith)
mapped_at f (x ∷ xs) zero d e lt = refl
mapped_at f (x ∷ xs) (suc i) d e lt = mapped_at f xs i d e (omega arith)

get_range : (a n k d : ℕ) → k < n → slice_index_or (range_with_len a n) k d ≡ a + k
get_range a zero k d lt = absurd (omega arith)
get_range a (suc n) zero d lt = omega arith
get_range a (suc n) (suc k) d lt = let rest = get_range (a + 1) n k d (omega arith) in omega arith

-- the letters of the least holders are those that are due
module _ (site : Site) (f : ℕ → Sets Key Cells) (n : ℕ) where
  abbrev front : ℕ → List (Sets Key Cells)
  front k = map f (take k (range_with_len 1 n))

  abbrev least_mail : ℕ → Message Key Cells
  least_mail tid = record {
    batch = site.batch;
    tid = tid;
    sender = site.node;
    addressee = (tid - 1) % site.nodes;
    content =
        Least (holders_on (by_sets key_cmp) (front (tid - 1)) (f tid));
  }

  front_more : (k : ℕ) → k < n → front k ++ f (k + 1) ∷ [] ≡ front (k + 1)
  front_more k lt =
      let at : slice_index_or (range_with_len 1 n) k 0 ≡ k + 1 = let e = get_range 1 n k 0 lt in omega arith in
      let long = range_count 1 n in
      sym (ap (map f) (take_more (range_with_len 1 n) k 0 (omega arith) ∙ ap (λ t. take k (range_with_len 1 n) ++ t ∷ []) at)
      ∙ map-append f (take k (range_with_len 1 n)) ((k + 1) ∷ []))

  mails_from : (m k : ℕ) → k + m ≡ n
      → map least_mail (range_with_len (k + 1) m) ≡ leasts_mails site k (holders_behind (front k) (map f (range_with_len (k + 1) m)))
  mails_from zero k e = refl
  mails_from (suc m) k e =
      let back : k + 1 - 1 ≡ k = omega arith in
      let rest = mails_from m (k + 1) (omega arith) in
      (λ i. record {
        batch = site.batch;
        tid = k + 1;
        sender = site.node;
        addressee = back i % site.nodes;
        content =
            Least (holders_on (by_sets key_cmp) (front (back i)) (f (k + 1)));
      } ∷ rest i)
      ∙ ap (λ earlier. record {
        batch = site.batch;
        tid = k + 1;
        sender = site.node;
        addressee = k % site.nodes;
        content =
            Least (holders_on (by_sets key_cmp) (front k) (f (k + 1)));
      } ∷ leasts_mails site (k + 1)
      (holders_behind earlier (map f (range_with_len (k + 1 + 1) m)))) (sym (front_more k (omega arith)))

-- what nodes told, as a list
abbrev least_in_list : (Holders → Option ℕ) → List (Option Holders) → Option ℕ
least_in_list side [] = None
least_in_list side (h ∷ hs) = lesser (side (unwrap_or h no_holders)) (least_in_list side hs)

least_of-is : (net : Net key_cmp Cells Request End) (desk : Desk key_cmp Cells Request) (side : Holders → Option ℕ) (tid : ℕ) (nodes : List ℕ)
    → least_of net desk side tid nodes ≡ least_in_list side (map (holders_from net desk tid) nodes)
least_of-is net desk side tid [] = refl
least_of-is net desk side tid (node ∷ nodes) =
    ap (lesser (side (unwrap_or (holders_from net desk tid node) no_holders))) (least_of-is net desk side tid nodes)

heard_on : (net : Net key_cmp Cells Request End) (desk next : Desk key_cmp Cells Request) (tid : ℕ) (hold : Hold)
    → ((node : ℕ) → holders_from net next tid node ≡ holders_from net desk tid node) → HasHeard net desk tid hold → HasHeard net next tid hold
heard_on net desk next tid hold same h =
    let all : map (holders_from net next tid) (all_nodes net) ≡ map (holders_from net desk tid) (all_nodes net) =
    ap (λ f. map f (all_nodes net)) (λ i node. same node i) in
    record {
      waw = h.waw ∙ least_of-is net desk (λ h. h.waw) tid (all_nodes net) ∙ ap (least_in_list (λ h. h.waw)) (sym all)
          ∙ sym (least_of-is net next (λ h. h.waw) tid (all_nodes net));
      raw = h.raw ∙ least_of-is net desk (λ h. h.raw) tid (all_nodes net) ∙ ap (least_in_list (λ h. h.raw)) (sym all)
          ∙ sym (least_of-is net next (λ h. h.raw) tid (all_nodes net));
      war = h.war ∙ least_of-is net desk (λ h. h.war) tid (all_nodes net) ∙ ap (least_in_list (λ h. h.war)) (sym all)
          ∙ sym (least_of-is net next (λ h. h.war) tid (all_nodes net));
      heard = h.heard ∙ ap given_count (sym all);
    }

lesser_swap : (a b c : Option ℕ) → lesser a (lesser b c) ≡ lesser b (lesser a c)
lesser_swap None b c = refl
lesser_swap (Some x) None c = refl
lesser_swap (Some x) (Some y) None = let e : min x y ≡ min y x = omega arith in ap Some e
lesser_swap (Some x) (Some y) (Some z) = let e : min x (min y z) ≡ min y (min x z) = omega arith in ap Some e

least_set : (side : Holders → Option ℕ) → side no_holders ≡ None → (xs : List (Option Holders)) (i : ℕ) (h : Holders) → i < length xs
    → slice_index_or xs i None ≡ None → least_in_list side (slice_set xs i (Some h)) ≡ lesser (side h) (least_in_list side xs)
least_set side none [] i h lt e = absurd (omega arith)
least_set side none (x ∷ xs) zero h lt e =
    ap (lesser (side h)) (sym (ap (λ r. lesser r (least_in_list side xs)) (ap (λ x. side (unwrap_or x no_holders)) e ∙ none)))
least_set side none (x ∷ xs) (suc i) h lt e = ap (lesser (side (unwrap_or x no_holders))) (least_set side none xs i h (omega arith) e)
    ∙ lesser_swap (side (unwrap_or x no_holders)) (side h) (least_in_list side xs)

module _ (plan : Plan) (rule : Rule) (same : Same) (desk : Desk key_cmp Cells Request) (site : Site) (rows : Database)
    (list : List Request) (runs : List OwnRun) (parts : List Part) (marked : ℕ) (holds : List Hold) (fates : List (Option Verdict)) (fated : ℕ)
    (shows : ShowsBy plan rule same desk site rows list runs parts marked holds fates fated) where
  abbrev net : Net key_cmp Cells Request End
  net = net_of plan rule site.nodes same

  pub over_is : nat_eq fated (length fates) ≡ is_over net desk
  over_is = (λ i. nat_eq (shows.fated_is i) (length fates)) ∙ all_given fates ∙ ap (list_all is_some) shows.fates_are
      ∙ list_all-map is_some (fate_of net desk) (tids desk.list)

  long : length desk.list ≡ length list
  long = ap length shows.list_is

  pub many_runs : length runs ≡ length list
  many_runs = sym (length-map runs told_of) ∙ ap length shows.runs_are ∙ length-map (tids desk.list) (told net desk) ∙ range_count 1 (length desk.list)
      ∙ long

  pub many_parts : length parts ≡ length list
  many_parts = sym (length-map parts part_of) ∙ ap length shows.parts_are ∙ length-map (tids desk.list) (sets_of net desk)
      ∙ range_count 1 (length desk.list) ∙ long

  pub many_fates : length fates ≡ length list
  many_fates = ap length shows.fates_are ∙ length-map (tids desk.list) (fate_of net desk) ∙ range_count 1 (length desk.list) ∙ long

  module _ (m : Message Key Cells) (tid : ℕ) (low : 1 ≤ tid) (high : tid ≤ length list) (is_tid : m.tid ≡ tid) where
    abbrev next : Desk key_cmp Cells Request
    next = desk_with net desk m

    told_at : (d : OwnRun) → told_of (slice_index_or runs (tid - 1) d) ≡ told net desk tid
    told_at d =
        let many = many_runs in
        sym (mapped_at told_of runs (tid - 1) d [] (omega arith)) ∙ ap (λ l. slice_index_or l (tid - 1) []) shows.runs_are
        ∙ at_place (told net desk) [] tid 1 (length desk.list) low (let same = long in omega arith)

    -- ---- what is not given yet is less than all

    pub marks_left : marks_of net desk tid ≡ None → marked < length parts
    marks_left none =
        let many = length-map (tids desk.list) (marks_of net desk) ∙ range_count 1 (length desk.list) ∙ long in
        let all = many_parts in
        let count = shows.marked_is in
        let less = count_less (map (marks_of net desk) (tids desk.list)) (tid - 1) (omega arith)
        (at_place (marks_of net desk) None tid 1 (length desk.list) low (let same = long in omega arith) ∙ none) in
        omega arith

    pub fates_left : fate_of net desk tid ≡ None → fated < length fates
    fates_left none =
        let many = many_fates in
        let count = shows.fated_is in
        let less = count_less fates (tid - 1) (omega arith) (ap (λ l. slice_index_or l (tid - 1) None) shows.fates_are
        ∙ at_place (fate_of net desk) None tid 1 (length desk.list) low (let same = long in omega arith) ∙ none) in
        omega arith

    pub holders_left : (from : ℕ) → from < site.nodes → holders_from net desk tid from ≡ None → (d : Hold)
        → (slice_index_or holds (tid - 1) d).heard < site.nodes
    holders_left from lt none d =
        let many = shows.many_holds in
        let number : tid - 1 + 1 ≡ tid = omega arith in
        let nodes = length-map (all_nodes net) (holders_from net desk tid) ∙ range_count 0 site.nodes in
        let back : from - 0 ≡ from = omega arith in
        let less = count_less (map (holders_from net desk tid) (all_nodes net)) from (omega arith)
        (ap (λ k. slice_index_or (map (holders_from net desk tid) (all_nodes net)) k None) (sym back)
        ∙ at_place (holders_from net desk tid) None from 0 site.nodes (omega arith) (omega arith) ∙ none) in
        let count = subst (λ t. (slice_index_or holds (tid - 1) d).heard ≡ given_count (map (holders_from net desk t) (all_nodes net))) number
        (shows.holds_are (tid - 1) d (omega arith)).heard in
        omega arith

    -- ---- a verdict that is told

    fates_next : (v : Verdict) → m.content ≡ Fate v → fate_of net desk tid ≡ None
        → map (fate_of net next) (tids desk.list) ≡ slice_set (map (fate_of net desk) (tids desk.list)) (tid - 1) (Some v)
    fates_next v e none = map_at (fate_of net desk) (fate_of net next) tid (Some v)
        (λ s off. pick_push (of_tid fate_in s) desk.given m (other_tid fate_in s m (λ at. off (sym at ∙ is_tid))))
        (pick_last (of_tid fate_in tid) desk.given m v none (ap (λ b. if b then fate_in m.content else None) (eq-eqb m.tid tid is_tid) ∙ ap fate_in e)) 1
        (length desk.list) low (let same = long in omega arith)

    one_of : fate_of net desk tid ≡ None → slice_index_or fates (tid - 1) None ≡ None
    one_of none = ap (λ l. slice_index_or l (tid - 1) None) shows.fates_are
        ∙ at_place (fate_of net desk) None tid 1 (length desk.list) low (let same = long in omega arith) ∙ none

    holders_same : least_in m.content ≡ None → (t node : ℕ) → holders_from net next t node ≡ holders_from net desk t node
    holders_same e t node = holders_stay net desk m t node (other_kind least_in t m e)

    holds_stay : least_in m.content ≡ None → (i : ℕ) (d : Hold) → i < length holds → HasHeard net next (i + 1) (slice_index_or holds i d)
    holds_stay e i d lt = heard_on net desk next (i + 1) (slice_index_or holds i d) (holders_same e (i + 1)) (shows.holds_are i d lt)

    marks_same : marks_in m.content ≡ None → (t : ℕ) → marks_of net next t ≡ marks_of net desk t
    marks_same e t = pick_push (of_tid marks_in t) desk.given m (other_kind marks_in t m e)

    parts_stay : marks_in m.content ≡ None → map part_of parts ≡ map (sets_of net next) (tids desk.list)
    parts_stay e = shows.parts_are ∙ sym (ap (λ f. map f (tids desk.list)) (λ i t. unwrap_or (marks_same e t i) no_sets))

    marked_stays : marks_in m.content ≡ None → marked ≡ given_count (map (marks_of net next) (tids desk.list))
    marked_stays e = shows.marked_is ∙ sym (ap (λ f. given_count (map f (tids desk.list))) (λ i t. marks_same e t i))

    runs_stay : told_in m.content ≡ None → map told_of runs ≡ map (told net next) (tids desk.list)
    runs_stay e = shows.runs_are ∙ sym (ap (λ f. map f (tids desk.list)) (λ i t. told_stays net desk m t (other_kind told_in t m e) i))

    pub shows_fate : (v : Verdict) → m.content ≡ Fate v → fate_of net desk tid ≡ None → (after : List (Option Verdict)) (count : ℕ)
        → after ≡ slice_set fates (tid - 1) (Some v) → count ≡ fated + 1
        → ShowsBy plan rule same next site rows list runs parts marked holds after count
    shows_fate v e none after count set more =
        let many = many_fates in
        record {
          node_is = shows.node_is;
          batch_is = shows.batch_is;
          rows_are = shows.rows_are;
          list_is = shows.list_is;
          runs_are = runs_stay (ap told_in e);
          parts_are = parts_stay (ap marks_in e);
          marked_is = marked_stays (ap marks_in e);
          many_holds = shows.many_holds;
          holds_are = holds_stay (ap least_in e);
          fates_are = set ∙ ap (λ l. slice_set l (tid - 1) (Some v)) shows.fates_are ∙ sym (fates_next v e none);
          fated_is = more ∙ ap (λ n. n + 1) shows.fated_is ∙ sym (ap given_count set ∙ count_set fates (tid - 1) v (omega arith) (one_of none));
        }

    -- ---- a part that is given

    module _ (s : Sets Key Cells) (e : m.content ≡ Marks s) (none : marks_of net desk tid ≡ None) where
      marks_at : marks_of net next tid ≡ Some s
      marks_at = pick_last (of_tid marks_in tid) desk.given m s none (ap (λ b. if b then marks_in m.content else None) (eq-eqb m.tid tid is_tid)
          ∙ ap marks_in e)

      marks_else : (t : ℕ) → (t ≡ tid → ⊥) → marks_of net next t ≡ marks_of net desk t
      marks_else t off = pick_push (of_tid marks_in t) desk.given m (other_tid marks_in t m (λ at. off (sym at ∙ is_tid)))

      marks_next : map (marks_of net next) (tids desk.list) ≡ slice_set (map (marks_of net desk) (tids desk.list)) (tid - 1) (Some s)
      marks_next = map_at (marks_of net desk) (marks_of net next) tid (Some s) marks_else marks_at 1 (length desk.list) low (let same = long in omega arith)

      sets_next : map (sets_of net next) (tids desk.list) ≡ slice_set (map (sets_of net desk) (tids desk.list)) (tid - 1) s
      sets_next = map_at (sets_of net desk) (sets_of net next) tid s (λ t off i. unwrap_or (marks_else t off i) no_sets)
          (λ i. unwrap_or (marks_at i) no_sets) 1 (length desk.list) low (let same = long in omega arith)

      count_next : given_count (map (marks_of net next) (tids desk.list)) ≡ marked + 1
      count_next =
          let many = length-map (tids desk.list) (marks_of net desk) ∙ range_count 1 (length desk.list) ∙ long in
          ap given_count marks_next ∙ count_set (map (marks_of net desk) (tids desk.list)) (tid - 1) s (omega arith)
          (at_place (marks_of net desk) None tid 1 (length desk.list) low (let same = long in omega arith) ∙ none)
          ∙ ap (λ n. n + 1) (sym shows.marked_is)

      pub shows_marks : (part : Part) → part_of part ≡ s → (after : List Part) (count : ℕ) → after ≡ slice_set parts (tid - 1) part → count ≡ marked + 1
          → ShowsBy plan rule same next site rows list runs after count holds fates fated
      shows_marks part is after count set more = record {
        node_is = shows.node_is;
        batch_is = shows.batch_is;
        rows_are = shows.rows_are;
        list_is = shows.list_is;
        runs_are = runs_stay (ap told_in e);
        parts_are = ap (map part_of) set ∙ map-set part_of parts (tid - 1) part ∙ (λ i. slice_set (shows.parts_are i) (tid - 1) (is i)) ∙ sym sets_next;
        marked_is = more ∙ sym count_next;
        many_holds = shows.many_holds;
        holds_are = holds_stay (ap least_in e);
        fates_are = shows.fates_are ∙ sym
            (ap (λ f. map f (tids desk.list)) (λ i t. pick_push (of_tid fate_in t) desk.given m (other_kind fate_in t m (ap fate_in e)) i));
        fated_is = shows.fated_is;
      }

      has_all : has_marks net next ≡ nat_eq (marked + 1) (length parts)
      has_all =
          let many = length-map (tids desk.list) (marks_of net next) ∙ range_count 1 (length desk.list) ∙ long ∙ sym many_parts in
          sym (list_all-map is_some (marks_of net next) (tids desk.list)) ∙ sym (all_given (map (marks_of net next) (tids desk.list)))
          ∙ (λ i. nat_eq (count_next i) (many i))

      news_is : news net desk m ≡ (if has_marks net next then map (least_due net next) (tids desk.list) else [])
      news_is = ap (news_by net desk m) e

      pub no_news : marked + 1 < length parts → news net desk m ≡ []
      no_news few = news_is ∙ ap (λ b. if b then map (least_due net next) (tids desk.list) else []) (has_all
          ∙ ne_eqb (marked + 1) (length parts) (λ same. absurd (omega arith)))

      all_mails : map (least_due net next) (tids desk.list) ≡ leasts_mails site 0 (holders_behind [] (map (sets_of net next) (tids desk.list)))
      all_mails =
          let count : 0 + length desk.list ≡ length desk.list = omega arith in
          let one : 0 + 1 ≡ 1 = omega arith in
          let due : map (least_due net next) (tids desk.list) ≡ map (least_mail site (sets_of net next) (length desk.list)) (tids desk.list)
          = λ i. map (λ tid. record {
            batch = shows.batch_is i;
            tid = tid;
            sender = shows.node_is i;
            addressee = (tid - 1) % site.nodes;
            content =
                Least (holders_on (by_sets key_cmp) (map (sets_of net next) (take (tid - 1) (tids desk.list))) (sets_of net next tid));
          }) (tids desk.list) in
          due ∙ mails_from site (sets_of net next) (length desk.list) (length desk.list) 0 count

      pub all_news : length parts ≤ marked + 1 → marked < length parts → (after : List Part) → map part_of after ≡ map (sets_of net next) (tids desk.list)
          → leasts_mails site 0 (holders_behind [] (map part_of after)) ≡ news net desk m
      all_news most few after is = ap (λ ss. leasts_mails site 0 (holders_behind [] ss)) is ∙ sym all_mails
          ∙ sym (news_is ∙ ap (λ b. if b then map (least_due net next) (tids desk.list) else []) (has_all
          ∙ eq-eqb (marked + 1) (length parts) (omega arith)))

    -- ---- least holders that are told

    module _ (h : Holders) (e : m.content ≡ Least h) (from : m.sender < site.nodes) (none : holders_from net desk tid m.sender ≡ None) where
      heard_at : holders_from net next tid m.sender ≡ Some h
      heard_at = pick_last (of_node least_in tid m.sender) desk.given m h none
          (ap (λ b. if b then of_tid least_in tid m else None) (eq-eqb m.sender m.sender refl)
          ∙ ap (λ b. if b then least_in m.content else None) (eq-eqb m.tid tid is_tid) ∙ ap least_in e)

      heard_else : (node : ℕ) → (node ≡ m.sender → ⊥) → holders_from net next tid node ≡ holders_from net desk tid node
      heard_else node off = pick_push (of_node least_in tid node) desk.given m
          (ap (λ b. if b then of_tid least_in tid m else None) (ne_eqb m.sender node (λ at. off (sym at))))

      heard_next : map (holders_from net next tid) (all_nodes net) ≡ slice_set (map (holders_from net desk tid) (all_nodes net)) (m.sender - 0) (Some h)
      heard_next = map_at (holders_from net desk tid) (holders_from net next tid) m.sender (Some h) heard_else heard_at 0 site.nodes (omega arith)
          (omega arith)

      many_nodes : (d : Desk key_cmp Cells Request) → length (map (holders_from net d tid) (all_nodes net)) ≡ site.nodes
      many_nodes d = length-map (all_nodes net) (holders_from net d tid) ∙ range_count 0 site.nodes

      was_none : slice_index_or (map (holders_from net desk tid) (all_nodes net)) (m.sender - 0) None ≡ None
      was_none = at_place (holders_from net desk tid) None m.sender 0 site.nodes (omega arith) (omega arith) ∙ none

      within : m.sender - 0 < length (map (holders_from net desk tid) (all_nodes net))
      within = let many = many_nodes desk in omega arith

      least_next : (side : Holders → Option ℕ) → side no_holders ≡ None
          → least_of net next side tid (all_nodes net) ≡ lesser (side h) (least_of net desk side tid (all_nodes net))
      least_next side bare = least_of-is net next side tid (all_nodes net) ∙ ap (least_in_list side) heard_next
          ∙ least_set side bare (map (holders_from net desk tid) (all_nodes net)) (m.sender - 0) h within was_none
          ∙ ap (lesser (side h)) (sym (least_of-is net desk side tid (all_nodes net)))

      count_heard : given_count (map (holders_from net next tid) (all_nodes net)) ≡ given_count (map (holders_from net desk tid) (all_nodes net)) + 1
      count_heard = ap given_count heard_next ∙ count_set (map (holders_from net desk tid) (all_nodes net)) (m.sender - 0) h within was_none

      hold_next : (old new : Hold) → HasHeard net desk tid old
          → new ≡ record { waw = lesser h.waw old.waw; raw = lesser h.raw old.raw; war = lesser h.war old.war; heard = old.heard + 1 }
          → HasHeard net next tid new
      hold_next old new was is = subst (HasHeard net next tid) (sym is) (record {
        waw = ap (lesser h.waw) was.waw ∙ sym (least_next (λ h. h.waw) refl);
        raw = ap (lesser h.raw) was.raw ∙ sym (least_next (λ h. h.raw) refl);
        war = ap (lesser h.war) was.war ∙ sym (least_next (λ h. h.war) refl);
        heard = ap (λ n. n + 1) was.heard ∙ sym count_heard;
      })

      pub hold_told : (old new : Hold) → old ≡ slice_index_or holds (tid - 1) old
          → new ≡ record { waw = lesser h.waw old.waw; raw = lesser h.raw old.raw; war = lesser h.war old.war; heard = old.heard + 1 }
          → HasHeard net next tid new
      hold_told old new at is =
          let many = shows.many_holds in
          let number : tid - 1 + 1 ≡ tid = omega arith in
          hold_next old new (subst (λ (p : ℕ × Hold). HasHeard net desk p.0 p.1) (λ i. (number i, sym at i))
          (shows.holds_are (tid - 1) old (omega arith))) is

      other_holds : (t : ℕ) → (t ≡ tid → ⊥) → (node : ℕ) → holders_from net next t node ≡ holders_from net desk t node
      other_holds t off node = holders_stay net desk m t node (other_tid least_in t m (λ at. off (sym at ∙ is_tid)))

      holds_next : (new : Hold) → HasHeard net next tid new → (i : ℕ) (d : Hold) → i < length (slice_set holds (tid - 1) new)
          → HasHeard net next (i + 1) (slice_index_or (slice_set holds (tid - 1) new) i d)
      holds_next new has i d lt =
          let count = length-set holds (tid - 1) new in
          let many = shows.many_holds in
          elim (cases_eq i (tid - 1)) [
            | inl here ↦
                let number : i + 1 ≡ tid = omega arith in
                subst (λ (p : ℕ × Hold). HasHeard net next p.0 p.1)
                (λ j. (
                  sym number j,
                  sym (ap (λ i. slice_index_or (slice_set holds (tid - 1) new) i d) here
                      ∙ get_or-set_same holds (tid - 1) new d (omega arith)) j,
                )) has
            | inr off ↦
                subst (HasHeard net next (i + 1)) (sym (get_or-set_other holds (tid - 1) i new d off))
                (heard_on net desk next (i + 1) (slice_index_or holds i d) (other_holds (i + 1) (λ same. off (omega arith)))
                (shows.holds_are i d (omega arith)))
          ]

      pub shows_least : (new : Hold) → HasHeard net next tid new → (after : List Hold) → after ≡ slice_set holds (tid - 1) new
          → ShowsBy plan rule same next site rows list runs parts marked after fates fated
      shows_least new has after set = subst (λ after. ShowsBy plan rule same next site rows list runs parts marked after fates fated) (sym set) (record {
        node_is = shows.node_is;
        batch_is = shows.batch_is;
        rows_are = shows.rows_are;
        list_is = shows.list_is;
        runs_are = runs_stay (ap told_in e);
        parts_are = parts_stay (ap marks_in e);
        marked_is = marked_stays (ap marks_in e);
        many_holds = length-set holds (tid - 1) new ∙ shows.many_holds;
        holds_are = holds_next new has;
        fates_are = shows.fates_are ∙ sym
            (ap (λ f. map f (tids desk.list)) (λ i t. pick_push (of_tid fate_in t) desk.given m (other_kind fate_in t m (ap fate_in e)) i));
        fated_is = shows.fated_is;
      })

      heard_all : (new : Hold) → HasHeard net next tid new → has_holders net next tid ≡ nat_eq new.heard site.nodes
      heard_all new has = sym (list_all-map is_some (holders_from net next tid) (all_nodes net))
          ∙ sym (all_given (map (holders_from net next tid) (all_nodes net))) ∙ (λ i. nat_eq (sym has.heard i) (many_nodes next i))

      news_least : (q : Request) → slice_get list (tid - 1) ≡ Some q
          → news net desk m ≡ (if has_holders net next tid then map (λ node. message net next tid node (Fate (verdict_here net next tid)))
          (all_nodes net) else [])
      news_least q at = ap (news_by net desk m) e ∙ ap (of_request net desk (fate_due net next)) is_tid
          ∙ ap (λ r. elim r [ None ↦ [] | Some q ↦ fate_due net next (tid, q) ]) (ap (λ l. slice_get l (tid - 1)) shows.list_is ∙ at)

      some_request : (q : Request) × (slice_get list (tid - 1) ≡ Some q)
      some_request = get_above list (tid - 1) (omega arith)

      pub no_fates : (new : Hold) → HasHeard net next tid new → new.heard < site.nodes → news net desk m ≡ []
      no_fates new has few = let q = some_request in news_least q.0 q.1
          ∙ ap (λ b. if b then map (λ node. message net next tid node (Fate (verdict_here net next tid))) (all_nodes net) else []) (heard_all new has
          ∙ ne_eqb new.heard site.nodes (λ same. absurd (omega arith)))

      pub all_fates : (new : Hold) → HasHeard net next tid new → new.heard ≡ site.nodes
          → fates_mails site tid (verdict_by rule new.waw new.raw new.war) ≡ news net desk m
      all_fates new has all =
          let q = some_request in
          (λ i. map (λ node. record {
            batch = sym shows.batch_is i;
            tid = tid;
            sender = sym shows.node_is i;
            addressee = node;
            content =
                Fate (verdict_by rule (has.waw i) (has.raw i) (has.war i));
          }) (all_nodes net))
          ∙ sym (news_least q.0 q.1 ∙ ap (λ b. if b then map (λ node. message net next tid node (Fate (verdict_here net next tid)))
          (all_nodes net) else []) (heard_all new has ∙ eq-eqb new.heard site.nodes all))

    -- ---- a row that is wanted

    pub shows_ask : (k : Key) → m.content ≡ Ask k → ShowsBy plan rule same next site rows list runs parts marked holds fates fated
    shows_ask k e = record {
      node_is = shows.node_is;
      batch_is = shows.batch_is;
      rows_are = shows.rows_are;
      list_is = shows.list_is;
      runs_are = runs_stay (ap told_in e);
      parts_are = parts_stay (ap marks_in e);
      marked_is = marked_stays (ap marks_in e);
      many_holds = shows.many_holds;
      holds_are = holds_stay (ap least_in e);
      fates_are = shows.fates_are ∙ sym
          (ap (λ f. map f (tids desk.list)) (λ i s. pick_push (of_tid fate_in s) desk.given m (other_kind fate_in s m (ap fate_in e)) i));
      fated_is = shows.fated_is;
    }

    pub news_ask : (k : Key) → m.content ≡ Ask k → (row : Option Cells) → row ≡ fin.get rows k
        → record { batch = site.batch; tid = tid; sender = site.node; addressee = (tid - 1) % site.nodes; content = Told k row } ∷ [] ≡ news net desk m
    news_ask k e row at = (λ i. record {
      batch = sym shows.batch_is i;
      tid = sym is_tid i;
      sender = sym shows.node_is i;
      addressee =
          (sym is_tid i - 1) % site.nodes;
      content = Told k ((at ∙ ap (λ db. fin.get db k) (sym shows.rows_are)) i);
    } ∷ [])
        ∙ sym (ap (news_by net desk m) e)

    pub tells_row : (k copy : Key) (row : Option Cells) (before after : List Letter) → m.content ≡ Ask k → row ≡ fin.get rows k → copy ≡ k
        → after ≡ before ++ record { batch = site.batch; tid = tid; sender = site.node; addressee = (tid - 1) % site.nodes; said = said.Told copy row } ∷ []
        → map message_of after ≡ map message_of before ++ news net desk m
    tells_row k copy row before after e at key push = ap (map message_of) push ∙ map-append message_of before _
        ∙ ap (λ x. map message_of before ++ record {
          batch = site.batch;
          tid = tid;
          sender = site.node;
          addressee = (tid - 1) % site.nodes;
          content =
              Told x row;
        } ∷ []) key
        ∙ ap (λ l. map message_of before ++ l) (news_ask k e row at)

    -- ---- a row that is told

    module _ (k : Key) (row : Option Cells) (is_told : m.content ≡ Told k row) where
      told_next : told net next tid ≡ told net desk tid ++ (k, row) ∷ []
      told_next = told_push net desk m tid
          ∙ ap (λ r. told net desk tid ++ cons_option r []) (ap (λ b. if b then told_in m.content else None) (eq-eqb m.tid tid is_tid) ∙ ap told_in is_told)

      told_else : (t : ℕ) → (t ≡ tid → ⊥) → told net next t ≡ told net desk t
      told_else t off = told_stays net desk m t (other_tid told_in t m (λ at. off (sym at ∙ is_tid)))

      pub shows_told : (run : OwnRun) → told_of run ≡ told net desk tid ++ (k, row) ∷ [] → (after : List OwnRun) → after ≡ slice_set runs (tid - 1) run
          → ShowsBy plan rule same next site rows list after parts marked holds fates fated
      shows_told run was after set = record {
        node_is = shows.node_is;
        batch_is = shows.batch_is;
        rows_are = shows.rows_are;
        list_is = shows.list_is;
        runs_are = ap (map told_of) set ∙ map-set told_of runs (tid - 1) run ∙ (λ i. slice_set (shows.runs_are i) (tid - 1) (was i))
            ∙ sym (map_at (told net desk) (told net next) tid (told net desk tid ++ (k, row) ∷ []) told_else told_next 1 (length desk.list) low
            (let same = long in omega arith));
        parts_are = parts_stay (ap marks_in is_told);
        marked_is = marked_stays (ap marks_in is_told);
        many_holds = shows.many_holds;
        holds_are = holds_stay (ap least_in is_told);
        fates_are = shows.fates_are
            ∙ sym (ap (λ f. map f (tids desk.list)) (λ i s. pick_push (of_tid fate_in s) desk.given m (other_kind fate_in s m (ap fate_in is_told)) i));
        fated_is = shows.fated_is;
      }

      abbrev ts : List (Key × Option Cells)
      ts = told net desk tid ++ (k, row) ∷ []

      -- what its run comes to is what is due
      run_mails-is : (q : Request) (w : Within) → w ≡ within_at (run_of plan) (both (keys_of ts)) (rows_of ts) q
          → run_mails site tid w ≡ run_due net next (tid, q)
      run_mails-is q w e = ap (run_mails site tid) e ∙ mails_are plan rule same site next shows.node_is shows.batch_is tid q ts (sym told_next)

      pub news_told : (q : Request) (w : Within) → slice_get list (tid - 1) ≡ Some q → w ≡ within_at (run_of plan) (both (keys_of ts)) (rows_of ts) q
          → run_mails site tid w ≡ news net desk m
      news_told q w at e = run_mails-is q w e
          ∙ sym (ap (news_by net desk m) is_told ∙ ap (of_request net desk (run_due net next)) is_tid
          ∙ ap (λ r. elim r [ None ↦ [] | Some q ↦ run_due net next (tid, q) ]) (ap (λ l. slice_get l (tid - 1)) shows.list_is ∙ at))

      -- a run in code that is told the row and goes on
      pub tells : (run0 run1 runx : OwnRun) (q : Request) (w : Within) (before after : List (Message Key Cells))
          → run0 ≡ slice_index_or runs (tid - 1) run0 → told_of run1 ≡ told_of run0 ++ (k, row) ∷ []
          → runx ≡ slice_index_or (slice_set runs (tid - 1) run1) (tid - 1) runx
          → w ≡ within_at (run_of plan) (both (keys_of (told_of runx))) (rows_of (told_of runx)) q
          → q ≡ slice_index_or list (tid - 1) q → after ≡ before ++ run_mails site tid w
          → ShowsBy plan rule same next site rows list (slice_set runs (tid - 1) run1) parts marked holds fates fated
          × (after ≡ before ++ news net desk m)
      tells run0 run1 runx q w before after e0 tell ex runs_on eq out =
          let many = many_runs in
          let was0 : told_of run0 ≡ told net desk tid = ap told_of e0 ∙ told_at run0 in
          let was1 : told_of run1 ≡ ts = tell ∙ ap (λ l. l ++ (k, row) ∷ []) was0 in
          let samex : told_of runx ≡ ts = ap told_of (ex ∙ get_or-set_same runs (tid - 1) run1 runx (omega arith)) ∙ was1 in
          let on = runs_on ∙ (λ i. within_at (run_of plan) (both (keys_of (samex i))) (rows_of (samex i)) q) in (
            shows_told run1 was1 (slice_set runs (tid - 1) run1) refl,
            out ∙ ap (λ l. before ++ l) (news_told q w (slice_get-get_or list (tid - 1) q (omega arith) ∙ ap Some (sym eq)) on),
          )
