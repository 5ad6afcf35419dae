-- An event in code: what is given again, or is of another batch, changes nothing; what is new adds its news; and a batch that begins
-- adds its first news.
use Rattle.std.proofs.Common.{subst, ◌≡◌, ℕ, zero, suc, ◌+◌, ◌-◌, ◌<◌, ◌≤◌, inl, inr, ⊎_elim, List, [], ◌∷◌, ◌++◌, map, length, Bool, true, false, cond}
use Rattle.std.proofs.Common.{Some, None, Option, refl, sym, ap, ◌∙◌, Ordering, arith, Contains}
use Rattle.std.specs.Prelude.{is_some, nat_lt, ◌==◌, if◌then◌else◌, flat_map}
use Rattle.std.specs.List.{All, list_all, filter, range_with_len, enumerate_from}
use Rattle.std.specs.FinMap.{FinMap}
use Rattle.std.proofs.lemmas.Bool.{and_parts, eqb-true, ltb-true, false≢true}
use Rattle.std.proofs.lemmas.List.{append-nil}
use Rattle.std.proofs.lemmas.List.Elements.{All-contains, All-nil, All-cons, All-map, All-filter, Contains-append_cases}
use Rattle.node_rules.specs.Messages.{Content, Ask, Told, Marks, Least, Fate, Message}
use Rattle.node_rules.specs.Nets.{Net, IsNet, owner, tids, all_nodes}
use Rattle.node_rules.specs.Dues.{Desk, message, part_at, sets_on, told_rows, wanted, marks_due, run_due, own_requests, least_due, verdict_here, fate_due}
use Rattle.node_rules.specs.Dues.{due, is_over}
use Rattle.node_rules.specs.Worlds.{Node, World, with_node, is_in, with_all_new, desk_of, send, completed, complete, turns, turn, is_current, given_also}
use Rattle.node_rules.specs.Worlds.{keep, deliver}
use Rattle.node_rules.specs.Truths.{IsSent, Before, Since, Holds, Rests}
use Rattle.node_rules.specs.Counts.{NoneTwice}
use Rattle.node_rules.specs.Newses.{desk_with, news, first_news}
use Rattle.node_rules.specs.Laws.{IsReached, IsDelivered, IsFirst, Begins, IsBegun, Completes}
use Rattle.node_rules.proofs.Picks.{StandsAt, enumerated, All-flat_map, has_head, has_behind, get_below}
use Rattle.node_rules.proofs.Given.{Here, at_batch, course_at, same_list}
use Rattle.node_rules.proofs.Counting.{has-is_in}
use Rattle.node_rules.proofs.Adding.{add_old, add_new, once_map}
use Rattle.node_rules.proofs.Growing.{with_here}
use Rattle.node_rules.proofs.Leads.{turns_leads, turns_else, keep_else}
use Rattle.node_rules.proofs.Fresh.{not_told, not_marked, not_held, not_fated, news_are}

not_true : (b : Bool) → (b ≡ true → ⊥) → b ≡ false
not_true true off = absurd (off refl)
not_true false off = refl

not_some : {X : Type 0} (r : Option X) → (is_some r ≡ true → ⊥) → r ≡ None
not_some None off = refl
not_some (Some x) off = absurd (off refl)

-- a node changed to what it is
same_nodes : {X : Type 0} (nodes : ℕ → X) (i : ℕ) (x : X) → nodes i ≡ x → with_node nodes i x ≡ nodes
same_nodes nodes i x e = λ j n. at n j
  where
    at : (n : ℕ) → with_node nodes i x n ≡ nodes n
    at n = elim (n == i) as (λ b. (n == i) ≡ b → (if b then x else nodes n) ≡ nodes n) [
      | true ↦ λ t. sym e ∙ ap nodes (sym (eqb-true n i t))
      | false ↦ λ t. refl
    ] refl

module _ {K V Q A : Type 0} {R : K → K → Ordering} (net : Net R V Q A) (is : IsNet net) where
  -- at a node that rests a turn changes nothing
  pub rested : (w : World R V Q A) (n : ℕ) → Rests net w.started w.sent n (w.node n) → turn net w n ≡ w
  rested w n r = elim (length w.started - (w.node n).done) as (λ most. length w.started - (w.node n).done ≡ most → turns net most w n ≡ w) [
    | zero ↦ λ e. refl
    | suc most ↦ λ e.
        let behind : (w.node n).done < length w.started = omega arith in
        let all = add_old net is w.sent (due net (desk_of net w n)) (r.sent_all behind) in
        ap (λ b. if b then turns net most (complete net (send net w n) n) n else send net w n) (r.not_over behind)
        ∙ (λ i. record { started = w.started; sent = all i; node = w.node })
  ] refl

  module _ (start : FinMap R V) (w : World R V Q A) (reached : IsReached net start w) (m : Message K V) (sent : Contains w.sent m) where
    abbrev to : ℕ
    to = m.addressee

    to_lt : to < net.nodes
    to_lt = (All-contains (IsSent net start w.started w.node) w.sent m reached.holds.sent sent).is.addressee

    -- a message of another batch, or one that was given before
    pub dropped : is_current net w m ≡ false → deliver net w (Some m) ≡ w
    dropped off =
        let kept : keep net w m ≡ w = λ i. record {
          started = w.started;
          sent = w.sent;
          node =
              if off i then with_node w.node to (given_also net (w.node to) m) else w.node;
        } in
        ap (λ v. turn net v to) kept ∙ rested w to (reached.rests to to_lt)

    pub given_again : is_current net w m ≡ true → is_in net (w.node to).given m ≡ true → deliver net w (Some m) ≡ w
    given_again current old =
        let same : w.node to ≡ given_also net (w.node to) m =
        λ i. record {
          rows = (w.node to).rows;
          carried = (w.node to).carried;
          done = (w.node to).done;
          entries = (w.node to).entries;
          given =
              if sym old i then (w.node to).given else (w.node to).given ++ m ∷ [];
        } in
        let nodes = same_nodes w.node to (given_also net (w.node to) m) same in
        let kept : keep net w m ≡ w = (λ i. record {
          started = w.started;
          sent = w.sent;
          node =
              if current i then with_node w.node to (given_also net (w.node to) m) else w.node;
        })
        ∙ (λ i. record { started = w.started; sent = w.sent; node = nodes i }) in
        ap (λ v. turn net v to) kept ∙ rested w to (reached.rests to to_lt)

    -- a new message of the current batch: what the node sends then are its news
    module _ (current : is_current net w m ≡ true) (new : is_in net (w.node to).given m ≡ false) where
      behind : (w.node to).done < length w.started
      behind = ltb-true _ _ (and_parts _ _ current).1

      here : Here net is start w reached.holds to to_lt m
      here =
          let batch = eqb-true _ _ (and_parts _ _ current).0 in (
            at_batch net start w.started w.node m (w.node to).done batch
                (All-contains (IsSent net start w.started w.node) w.sent m reached.holds.sent sent),
            refl,
            batch,
          )

      pub sends_news : with_all_new net w.sent (due net (desk_with net (desk_of net w to) m)) ≡ w.sent ++ news net (desk_of net w to) m
      sends_news = news_are net is start w reached.holds to to_lt ((reached.rests to to_lt).sent_all behind) m here
          (λ c. false≢true (sym new ∙ has-is_in net is (w.node to).given m c))

      listed : m.tid ≤ length (desk_of net w to).list
      listed =
          let same = same_list net is start w reached.holds to to_lt in
          let lt = get_below (course_at net is start w reached.holds to to_lt).list (m.tid - 1) here.0.is.request here.0.is.stands in
          let low = here.0.is.tid in
          let long = ap length same in
          omega arith

      not_given : Contains (desk_of net w to).given m → ⊥
      not_given c = false≢true (sym new ∙ has-is_in net is (w.node to).given m c)

      -- nothing that it tells was told before
      pub first_told : IsFirst net start w m
      first_told = record {
        sender = here.0.is.sender;
        addressee = to_lt;
        low = here.0.is.tid;
        high = listed;
        told = λ k row e. not_true _ (not_told net is start w reached.holds to to_lt m here not_given k row e);
        marks = λ sets e. not_some _ (not_marked net is start w reached.holds to to_lt m here not_given sets e);
        holders = λ holders e. not_some _ (not_held net is start w reached.holds to to_lt m here not_given holders e);
        fate = λ verdict e. not_some _ (not_fated net is start w reached.holds to to_lt m here not_given verdict e);
      }

-- ---- lists without repetition, in parts

none_all : {X : Type 0} (f : ℕ → X) (ts : List ℕ) → (if list_all (λ t. false) ts then map f ts else []) ≡ []
none_all f [] = refl
none_all f (t ∷ ts) = refl

no_parts : {X Y : Type 0} (xs : List X) → flat_map {X = X} {A = Y} (λ _. []) xs ≡ []
no_parts [] = refl
no_parts {Y = Y} (x ∷ xs) = no_parts {Y = Y} xs

none_some : (n : ℕ) → 0 < n → list_all (λ (t : ℕ). false) (range_with_len 0 n) ≡ false
none_some zero lt = absurd (omega arith)
none_some (suc n) lt = refl

once_append : {X : Type 0} (xs ys : List X) → NoneTwice xs → NoneTwice ys → ((x : X) → Contains xs x → Contains ys x → ⊥) → NoneTwice (xs ++ ys)
once_append [] ys a b off = b
once_append (x ∷ xs) ys a b off = (
  λ c. ⊎_elim (λ here. a.0 here) (λ there. off x (has_head x xs) there) (Contains-append_cases xs ys x c),
  once_append xs ys a.1 b (λ y c. off y (has_behind x xs y c)),
)

module _ {X Y : Type 0} (f : ℕ × X → List Y) (number : Y → ℕ) (of : (e : ℕ × X) → All (λ y. number y ≡ e.0) (f e)) (each : (e : ℕ × X) → NoneTwice (f e))
    (p : ℕ × X → Bool) where
  numbers_from : (i : ℕ) (xs : List X) → All (λ y. i ≤ number y) (flat_map f (filter p (enumerate_from i xs)))
  numbers_from i xs = All-flat_map (λ y. i ≤ number y) f (filter p (enumerate_from i xs))
      (λ k d lt. low _ (All-filter p (StandsAt i xs) (enumerate_from i xs) (enumerated i xs) k d lt))
    where
      low : (e : ℕ × X) → StandsAt i xs e → All (λ y. i ≤ number y) (f e)
      low e s k d lt = let same = of e k d lt in let first = s.0 in omega arith

  once_flat : (i : ℕ) (xs : List X) → NoneTwice (flat_map f (filter p (enumerate_from i xs)))
  once_flat i [] = tt
  once_flat i (x ∷ xs) = elim (p (i, x)) as
      (λ b. NoneTwice (flat_map f (cond b ((i, x) ∷ filter p (enumerate_from (i + 1) xs)) (filter p (enumerate_from (i + 1) xs))))) [
        | true ↦ once_append (f (i, x)) _ (each (i, x)) (once_flat (i + 1) xs) (λ y c d.
            let mine = All-contains (λ y. number y ≡ i) (f (i, x)) y (of (i, x)) c in
            let theirs = All-contains (λ y. i + 1 ≤ number y) (flat_map f (filter p (enumerate_from (i + 1) xs))) y (numbers_from (i + 1) xs) d in
            absurd (omega arith))
        | false ↦ once_flat (i + 1) xs
      ]

module _ {K V Q A : Type 0} {R : K → K → Ordering} (net : Net R V Q A) (is : IsNet net) (desk : Desk R V Q) where
  -- a request's message is its own node's, of this batch
  abbrev Mine : ℕ → Message K V → Type 0
  Mine tid x = (x.tid ≡ tid) × (x.sender ≡ desk.node) × (x.batch ≡ desk.batch)

  run_mine : (e : ℕ × Q) → All (Mine e.0) (run_due net desk e)
  run_mine e = elim (wanted net desk e.0 e.1) as
      (λ r. All (Mine e.0) (elim r [ None ↦ marks_due net desk e.0 e.1 | Some k ↦ message net desk e.0 (net.home k) (Ask k) ∷ [] ])) [
        | None ↦ All-map (Mine e.0) (λ to. message net desk e.0 to (Marks (part_at net to (sets_on net (told_rows net desk e.0) e.1)))) (all_nodes net)
            (λ k d lt. (refl, refl, refl))
        | Some k ↦ All-cons (Mine e.0) (message net desk e.0 (net.home k) (Ask k)) [] (refl, refl, refl) (All-nil (Mine e.0))
      ]

  run_once : (e : ℕ × Q) → NoneTwice (run_due net desk e)
  run_once e = elim (wanted net desk e.0 e.1) as
      (λ r. NoneTwice (elim r [ None ↦ marks_due net desk e.0 e.1 | Some k ↦ message net desk e.0 (net.home k) (Ask k) ∷ [] ])) [
        | None ↦ once_map (λ to. message net desk e.0 to (Marks (part_at net to (sets_on net (told_rows net desk e.0) e.1)))) (λ x. x.addressee)
            (λ t. refl) 0 net.nodes
        | Some k ↦ (λ c. let lt = c.1 in absurd (omega arith), tt)
      ]

  first_once : NoneTwice (first_news net desk)
  first_once = once_flat (run_due net desk) (λ (x : Message K V). x.tid) (λ e k d lt. (run_mine e k d lt).0) run_once
      (λ e. owner net e.0 == desk.node) 1 desk.list

  first_mine : All (λ x. (x.sender ≡ desk.node) × (x.batch ≡ desk.batch)) (first_news net desk)
  first_mine = All-flat_map (λ x. (x.sender ≡ desk.node) × (x.batch ≡ desk.batch)) (run_due net desk) (own_requests net desk)
      (λ k d lt j e below. let mine = run_mine _ j e below in (mine.1, mine.2))

  abbrev bare : Desk R V Q
  bare = record { node = desk.node; rows = desk.rows; batch = desk.batch; list = desk.list; given = [] }

  -- nothing was given: what is due are the first runs alone
  bare_due : due net bare ≡ first_news net bare
  bare_due =
      let fates : flat_map (fate_due net bare) (own_requests net bare) ≡ []
      = ap (λ b. flat_map (λ e. if b then map (λ node. message net bare e.0 node (Fate (verdict_here net bare e.0))) (all_nodes net) else [])
      (own_requests net bare)) (none_some net.nodes is.some_node) ∙ no_parts (own_requests net bare) in
      (λ i. first_news net bare ++ [] ++ none_all (least_due net bare) (tids desk.list) i ++ fates i)
      ∙ append-nil (first_news net bare ++ [] ++ []) ∙ append-nil (first_news net bare ++ []) ∙ append-nil (first_news net bare)

  bare_over : is_over net bare ≡ list_all (λ (t : ℕ). false) (tids desk.list)
  bare_over = refl

module _ {K V Q A : Type 0} {R : K → K → Ordering} (net : Net R V Q A) (is : IsNet net) (start : FinMap R V) where
  -- no node sends of a batch that it has not reached
  since_low : (started : List (List Q)) (node : ℕ → Node R V Q A) (n batch : ℕ) (P : Type 0) → Since net start started node n batch P
      → batch ≤ (node n).done + 1
  since_low started node n batch P (inl past) = omega arith
  since_low started node n batch P (inr at) = let same = at.0 in omega arith

  low_case : (started : List (List Q)) (node : ℕ → Node R V Q A) (rows : FinMap R V) (q : Q) (m : Message K V) (content : Content K V)
      → Before net start started node rows q m content → m.batch ≤ (node m.sender).done + 1
  low_case started node rows q m (Ask k) b = since_low started node m.sender m.batch _ b
  low_case started node rows q m (Told k row) b = since_low started node m.sender m.batch _ b.0
  low_case started node rows q m (Marks sets) b = since_low started node m.sender m.batch _ b
  low_case started node rows q m (Least holders) b = since_low started node m.sender m.batch _ b
  low_case started node rows q m (Fate verdict) b = since_low started node m.sender m.batch _ b.1

  pub sent_low : (w : World R V Q A) → Holds net start w → (m : Message K V) → Contains w.sent m → m.batch ≤ (w.node m.sender).done + 1
  sent_low w h m c = let s = All-contains (IsSent net start w.started w.node) w.sent m h.sent c in low_case w.started w.node _ _ m m.content s.before

  -- a batch that begins adds the first runs of its requests
  pub first_are : (w : World R V Q A) (n : ℕ) → Begins net start w n → with_all_new net w.sent (due net (desk_of net w n)) ≡ w.sent
      ++ first_news net (desk_of net w n)
  first_are w n b =
      let desk = desk_of net w n in
      let given : desk ≡ bare net is desk = λ i. record { node = n; rows = desk.rows; batch = desk.batch; list = desk.list; given = b.nothing i } in
      ap (λ d. with_all_new net w.sent (due net d)) given ∙ ap (with_all_new net w.sent) (bare_due net is desk)
      ∙ ap (λ d. with_all_new net w.sent (first_news net d)) (sym given)
      ∙ add_new net is w.sent (first_news net desk) (first_once net is desk) (λ x c among.
      let mine = All-contains (λ x. (x.sender ≡ n) × (x.batch ≡ desk.batch)) (first_news net desk) x (first_mine net is desk) c in
      let low = b.unsent x among mine.0 in
      let batch = mine.1 in
      absurd (omega arith))

  -- behind a batch that is completed the next one begins
  pub complete_begins : (w : World R V Q A) (n : ℕ) → Holds net start w → Begins net start (complete net w n) n
  complete_begins w n h =
      let here = with_here net w.started w.node n (completed net w n) in
      record {
        nothing = ap (λ (x : Node R V Q A). x.given) here;
        unsent = λ x c from.
            let low = sent_low w h x c in
            let up = ap (λ (x : Node R V Q A). x.done) here in
            let at = ap (λ n. (w.node n).done) from in
            omega arith;
      }

  pub is_delivered : (w : World R V Q A) → IsReached net start w → (m : Message K V) → Contains w.sent m → IsDelivered net start w m
  is_delivered w reached m sent =
      record {
        other = dropped net is start w reached m sent;
        again = given_again net is start w reached m sent;
        new =
            sends_news net is start w reached m sent;
      }

  pub is_first : (w : World R V Q A) → IsReached net start w → (m : Message K V) → Contains w.sent m → is_current net w m ≡ true
      → is_in net (w.node m.addressee).given m ≡ false → IsFirst net start w m
  is_first w reached m sent current new = first_told net is start w reached m sent current new

  pub is_begun : (w : World R V Q A) (n : ℕ) → IsBegun net start w n
  is_begun w n = record { first = first_are w n; behind = complete_begins w n }

-- ---- which event completes a batch

module _ {K V Q A : Type 0} {R : K → K → Ordering} (net : Net R V Q A) where
  kept_done : (w : World R V Q A) (m : Message K V) → ((keep net w m).node m.addressee).done ≡ (w.node m.addressee).done
  kept_done w m = elim (is_current net w m) as
      (λ b. ((if b then with_node w.node m.addressee (given_also net (w.node m.addressee) m) else w.node) m.addressee).done ≡ (w.node m.addressee).done) [
        | true ↦ ap (λ (x : Node R V Q A). x.done) (with_here net w.started w.node m.addressee (given_also net (w.node m.addressee) m))
        | false ↦ refl
      ]

  one_turn : (w : World R V Q A) (n : ℕ) → (w.node n).done < length w.started
      → (is_over net (desk_of net w n) ≡ false → ((turn net w n).node n).done ≡ (w.node n).done)
      × (is_over net (desk_of net w n) ≡ true → (w.node n).done < ((turn net w n).node n).done)
  one_turn w n behind = elim (length w.started - (w.node n).done) as (λ most. length w.started - (w.node n).done ≡ most
      → (is_over net (desk_of net w n) ≡ false → ((turns net most w n).node n).done ≡ (w.node n).done)
      × (is_over net (desk_of net w n) ≡ true → (w.node n).done < ((turns net most w n).node n).done)) [
        | zero ↦ λ e. absurd (omega arith)
        | suc most ↦ λ e. (
          λ t. ap (λ b. ((if b then turns net most (complete net (send net w n) n) n else send net w n).node n).done) t,
          λ t.
              let later = (turns_leads net most (complete net (send net w n) n) n).done n in
              let up = ap (λ (x : Node R V Q A). x.done) (with_here net w.started w.node n (completed net (send net w n) n)) in
              let less : (w.node n).done < ((turns net most (complete net (send net w n) n) n).node n).done = omega arith in
              subst (λ b. (w.node n).done < ((if b then turns net most (complete net (send net w n) n) n else send net w n).node n).done) (sym t) less,
        )
      ] refl

  pub completes : (w : World R V Q A) (m : Message K V) → Completes net w m
  completes w m = record {
    others = λ i off. turns_else net _ (keep net w m) m.addressee i off ∙ keep_else net w m i off;
    not_yet = λ current t. (turned current).0 t ∙ kept_done w m;
    now = λ current t. let same = kept_done w m in let less = (turned current).1 t in omega arith;
  }
    where
      turned : is_current net w m ≡ true
          → (is_over net (desk_of net (keep net w m) m.addressee) ≡ false
          → ((deliver net w (Some m)).node m.addressee).done ≡ ((keep net w m).node m.addressee).done)
          × (is_over net (desk_of net (keep net w m) m.addressee) ≡ true
          → ((keep net w m).node m.addressee).done < ((deliver net w (Some m)).node m.addressee).done)
      turned current =
          let same = kept_done w m in
          let late : (w.node m.addressee).done < length w.started =
          ltb-true (w.node m.addressee).done (length w.started)
          (and_parts (m.batch == (w.node m.addressee).done + 1) (nat_lt (w.node m.addressee).done (length w.started)) current).1 in
          let behind : ((keep net w m).node m.addressee).done < length w.started = omega arith in
          one_turn (keep net w m) m.addressee behind
