-- What was given stays given: a message that could be sent could still be sent after more was given, completed or started.
use Rattle.std.proofs.Common.{◌≡◌, ℕ, ◌+◌, ◌-◌, ◌<◌, ◌≤◌, ◌⊎◌, inl, inr, ⊎_elim, List, [], ◌∷◌, ◌++◌, length, true, false, Some, Option, refl, sym, ap, ◌∙◌}
use Rattle.std.proofs.Common.{subst, Ordering, arith, Contains}
use Rattle.std.specs.Prelude.{is_some, ◌||◌, if◌then◌else◌, filter_map}
use Rattle.std.specs.FinMap.{FinMap}
use Rattle.std.proofs.lemmas.Bool.{cases_eq, eq-eqb, ne_eqb, or_left}
use Rattle.std.proofs.lemmas.Option.{same_Some}
use Rattle.std.proofs.lemmas.List.{map-append, get_or_append_left}
use Rattle.std.proofs.lemmas.List.Elements.{filter_map-append}
use Rattle.std.proofs.lemmas.List.Folds.{list_any-append}
use Rattle.batch_rules.specs.Touches.{is_among, keys_of, outside}
use Rattle.batch_rules.specs.Trees.{Visit, Read, Write, trace_of}
use Rattle.node_rules.specs.Messages.{Content, Ask, Told, Marks, Least, Fate, Message, told_in, marks_in, least_in, of_tid, of_node}
use Rattle.node_rules.specs.Nets.{Net, IsNet, tids, all_nodes}
use Rattle.node_rules.specs.Dues.{Desk, both, told, marks_of, has_marks, holders_from, has_holders}
use Rattle.node_rules.specs.Worlds.{Node, with_node, desk_for}
use Rattle.node_rules.specs.Truths.{Course, course, IsTrue, Before, Since, Wants, IsSent}
use Rattle.node_rules.proofs.Picks.{pick_more, list_all-all, list_all-from}
use Rattle.node_rules.proofs.Runs.{enough_more}

module _ {K V Q A : Type 0} {R : K → K → Ordering} (net : Net R V Q A) where
  abbrev pub desk_on : List (List Q) → (ℕ → Node R V Q A) → ℕ → Desk R V Q
  desk_on started node n = desk_for net started n (node n)

  -- the node is the former one, or it has more: where it is at the same batch it was told and given no less
  pub record Grows (started : List (List Q)) (node : ℕ → Node R V Q A) (later : List (List Q)) (next : ℕ → Node R V Q A) (n : ℕ) : Type 0 where
    pub done : (node n).done ≤ (next n).done
    pub told : (next n).done ≡ (node n).done → (tid : ℕ) (k : K) → is_among R (keys_of (told net (desk_on started node n) tid)) k ≡ true
        → is_among R (keys_of (told net (desk_on later next n) tid)) k ≡ true
    pub marks : (next n).done ≡ (node n).done → (node n).done < length started → has_marks net (desk_on started node n) ≡ true
        → has_marks net (desk_on later next n) ≡ true
    pub given : (next n).done ≡ (node n).done → (m : Message K V) → Contains (node n).given m → Contains (next n).given m
    pub holders : (next n).done ≡ (node n).done → (tid : ℕ) → has_holders net (desk_on started node n) tid ≡ true
        → has_holders net (desk_on later next n) tid ≡ true

-- with more that was told, the next key is the same, or it was told
wanted_more : {K V : Type 0} (R : K → K → Ordering) (keys more : List K) (visits : List (Visit K V))
    → ((k : K) → is_among R keys k ≡ true → is_among R more k ≡ true) → (k : K) → outside R (both keys) visits ≡ Some k
    → (is_among R more k ≡ true) ⊎ (outside R (both more) visits ≡ Some k)
wanted_more R keys more [] h k e = cc
wanted_more R keys more (Read q ∷ visits) h k e =
    elim (is_among R keys q) as (λ b. is_among R keys q ≡ b → (if b || b then outside R (both keys) visits else Some q) ≡ Some k
    → (is_among R more k ≡ true) ⊎ ((if is_among R more q || is_among R more q then outside R (both more) visits else Some q) ≡ Some k)) [
      | true ↦ λ t e. subst (λ b. (is_among R more k ≡ true) ⊎ ((if b || b then outside R (both more) visits else Some q) ≡ Some k)) (sym (h q t))
          (wanted_more R keys more visits h k e)
      | false ↦ λ t e. elim (is_among R more q) as (λ b. is_among R more q ≡ b → (is_among R more k ≡ true)
          ⊎ ((if b || b then outside R (both more) visits else Some q) ≡ Some k)) [
            | true ↦ λ u. inl (ap (is_among R more) (sym (same_Some q k e)) ∙ u)
            | false ↦ λ u. inr e
          ] refl
    ] refl e
wanted_more R keys more (Write q row ∷ visits) h k e =
    elim (is_among R keys q) as (λ b. is_among R keys q ≡ b → (if b then outside R (both keys) visits else Some q) ≡ Some k
    → (is_among R more k ≡ true) ⊎ ((if is_among R more q then outside R (both more) visits else Some q) ≡ Some k)) [
      | true ↦ λ t e. subst (λ b. (is_among R more k ≡ true) ⊎ ((if b then outside R (both more) visits else Some q) ≡ Some k)) (sym (h q t))
          (wanted_more R keys more visits h k e)
      | false ↦ λ t e. elim (is_among R more q) as (λ b. is_among R more q ≡ b → (is_among R more k ≡ true)
          ⊎ ((if b then outside R (both more) visits else Some q) ≡ Some k)) [
            | true ↦ λ u. inl (ap (is_among R more) (sym (same_Some q k e)) ∙ u)
            | false ↦ λ u. inr e
          ] refl
    ] refl e

module _ {K V Q A : Type 0} {R : K → K → Ordering} (net : Net R V Q A) (is : IsNet net) (start : FinMap R V)
    (started later : List (List Q)) (node next : ℕ → Node R V Q A) (grows : (n : ℕ) → Grows net started node later next n) where
  since : (n batch : ℕ) (P P' : Type 0) → ((next n).done ≡ (node n).done → (node n).done + 1 ≡ batch → P → P') → Since net start started node n batch P
      → Since net start later next n batch P'
  since n batch P P' f (inl past) = let up = (grows n).done in inl (omega arith)
  since n batch P P' f (inr (at, p)) =
      let up = (grows n).done in
      ⊎_elim (λ same. inr (omega arith, f same at p)) (λ off. inl (omega arith)) (cases_eq (next n).done (node n).done)

  wants : (rows : FinMap R V) (q : Q) (tid : ℕ) (k : K) (n batch : ℕ) → Since net start started node n batch (Wants net start started node rows q tid k n)
      → Since net start later next n batch (Wants net start later next rows q tid k n)
  wants rows q tid k n batch = since n batch _ _ (λ same at p. ⊎_elim
      (λ among. inl ((grows n).told same tid k among))
      (λ wanted. wanted_more R _ _ (trace_of (net.tree q) rows) ((grows n).told same tid) k wanted)
      p)

  before_grows : (rows : FinMap R V) (q : Q) (m : Message K V) (content : Content K V) → m.batch ≤ length started
      → Before net start started node rows q m content → Before net start later next rows q m content
  before_grows rows q m (Ask k) high b = wants rows q m.tid k m.sender m.batch b
  before_grows rows q m (Told k row) high b =
      (since m.sender m.batch _ _ (λ same at c. (grows m.sender).given same _ c) b.0, wants rows q m.tid k m.addressee m.batch b.1)
  before_grows rows q m (Marks sets) high b =
      since m.sender m.batch _ _ (λ same at p. enough_more is.total _ _ (trace_of (net.tree q) rows) ((grows m.sender).told same m.tid) p) b
  before_grows rows q m (Least holders) high b = since m.sender m.batch _ _ (λ same at p. (grows m.sender).marks same (omega arith) p) b
  before_grows rows q m (Fate verdict) high b = (
    λ n lt. since n m.batch _ _ (λ same at p. (grows n).marks same (omega arith) p) (b.0 n lt),
    since m.sender m.batch _ _ (λ same at p. (grows m.sender).holders same m.tid p) b.1,
  )

  -- the batches that were started before are as they were
  pub sent_grows : length started ≤ length later → ((done : ℕ) → done < length started → course net start later done ≡ course net start started done)
      → (m : Message K V) → IsSent net start started node m → IsSent net start later next m
  sent_grows more same m s =
      let low = s.low in
      let high = s.high in
      let e = same (m.batch - 1) (omega arith) in
      let moved = subst (λ (c : Course R V Q). (t : IsTrue net c m) × Before net start started node c.rows t.request m m.content) (sym e) (
        s.is,
        s.before,
      ) in
      record { low = low; high = omega arith; is = moved.0; before = before_grows _ _ m m.content high moved.1 }

-- ---- a message more

module _ {K V Q A : Type 0} {R : K → K → Ordering} (net : Net R V Q A) where
  pub told_more : (desk : Desk R V Q) (more : List (Message K V)) (tid : ℕ) (k : K) → is_among R (keys_of (told net desk tid)) k ≡ true
      → is_among R (keys_of (told net
      (record { node = desk.node; rows = desk.rows; batch = desk.batch; list = desk.list; given = desk.given ++ more }) tid)) k ≡ true
  told_more desk more tid k e =
      let all : keys_of (filter_map (of_tid told_in tid) (desk.given ++ more)) ≡ keys_of (told net desk tid)
      ++ keys_of (filter_map (of_tid told_in tid) more)
      = ap keys_of (filter_map-append (of_tid told_in tid) desk.given more)
      ∙ map-append (λ (row : K × Option V). row.0) (told net desk tid) (filter_map (of_tid told_in tid) more) in
      ap (λ keys. is_among R keys k) all ∙ list_any-append _ (keys_of (told net desk tid)) (keys_of (filter_map (of_tid told_in tid) more)) ∙ or_left _ _ e

  pub marks_more : (desk : Desk R V Q) (more : List (Message K V)) → has_marks net desk ≡ true
      → has_marks net (record { node = desk.node; rows = desk.rows; batch = desk.batch; list = desk.list; given = desk.given ++ more }) ≡ true
  marks_more desk more e =
      let each = list_all-all (λ tid. is_some (marks_of net desk tid)) (tids desk.list) e in
      list_all-from _ (tids desk.list) (λ k d lt. pick_more (of_tid marks_in _) desk.given more (each k d lt))

  pub holders_more : (desk : Desk R V Q) (more : List (Message K V)) (tid : ℕ) → has_holders net desk tid ≡ true
      → has_holders net (record { node = desk.node; rows = desk.rows; batch = desk.batch; list = desk.list; given = desk.given ++ more }) tid ≡ true
  holders_more desk more tid e =
      let each = list_all-all (λ from. is_some (holders_from net desk tid from)) (all_nodes net) e in
      list_all-from _ (all_nodes net) (λ k d lt. pick_more (of_node least_in tid _) desk.given more (each k d lt))

  -- the same with further batches started
  pub grows_started : (started : List (List Q)) (new : List Q) (node : ℕ → Node R V Q A) (n : ℕ) → Grows net started node (started ++ new ∷ []) node n
  grows_started started new node n = record {
    done = omega arith;
    told = λ same tid k e. e;
    marks = λ same lt e. subst (λ l. has_marks net
        (record { node = n; rows = (node n).rows; batch = (node n).done + 1; list = (node n).carried ++ l; given = (node n).given }) ≡ true)
        (sym (get_or_append_left started (new ∷ []) [] (node n).done lt)) e;
    given = λ same m c. c;
    holders = λ same tid e. e;
  }

  grows_itself : (started : List (List Q)) (node : ℕ → Node R V Q A) (n : ℕ) → Grows net started node started node n
  grows_itself started node n = record {
    done = omega arith;
    told = λ same tid k e. e;
    marks = λ same lt e. e;
    given = λ same m c. c;
    holders =
        λ same tid e. e;
  }

  -- one node changed, which has more
  module _ (started : List (List Q)) (node : ℕ → Node R V Q A) (i : ℕ) (x : Node R V Q A) where
    pub with_here : with_node node i x i ≡ x
    with_here = ap (λ b. if b then x else node i) (eq-eqb i i refl)

    pub with_else : (n : ℕ) → (n ≡ i → ⊥) → with_node node i x n ≡ node n
    with_else n off = ap (λ b. if b then x else node n) (ne_eqb n i off)

    pub grows_with : Grows net started node started (λ n. x) i → (n : ℕ) → Grows net started node started (with_node node i x) n
    grows_with g n = ⊎_elim
        (λ same. subst (λ n. Grows net started node started (with_node node i x) n) (sym same) (record {
          done = subst (λ (y : Node R V Q A). (node i).done ≤ y.done) (sym with_here) g.done;
          told = subst (λ (y : Node R V Q A). y.done ≡ (node i).done → (tid : ℕ) (k : K)
              → is_among R (keys_of (told net (desk_on net started node i) tid)) k ≡ true
              → is_among R (keys_of (told net (desk_on net started (λ n. y) i) tid)) k ≡ true) (sym with_here) g.told;
          marks = subst (λ (y : Node R V Q A). y.done ≡ (node i).done → (node i).done < length started → has_marks net (desk_on net started node i) ≡ true
              → has_marks net (desk_on net started (λ n. y) i) ≡ true) (sym with_here) g.marks;
          given = subst (λ (y : Node R V Q A). y.done ≡ (node i).done → (m : Message K V) → Contains (node i).given m → Contains y.given m)
              (sym with_here) g.given;
          holders = subst (λ (y : Node R V Q A). y.done ≡ (node i).done → (tid : ℕ) → has_holders net (desk_on net started node i) tid ≡ true
              → has_holders net (desk_on net started (λ n. y) i) tid ≡ true) (sym with_here) g.holders;
        }))
        (λ off. record {
          done = subst (λ (y : Node R V Q A). (node n).done ≤ y.done) (sym (with_else n off)) (omega arith);
          told = subst (λ (y : Node R V Q A). y.done ≡ (node n).done → (tid : ℕ) (k : K)
              → is_among R (keys_of (told net (desk_on net started node n) tid)) k ≡ true
              → is_among R (keys_of (told net (desk_on net started (λ n. y) n) tid)) k ≡ true) (sym (with_else n off)) (λ same tid k e. e);
          marks = subst (λ (y : Node R V Q A). y.done ≡ (node n).done → (node n).done < length started → has_marks net (desk_on net started node n) ≡ true
              → has_marks net (desk_on net started (λ n. y) n) ≡ true) (sym (with_else n off)) (λ same lt e. e);
          given = subst (λ (y : Node R V Q A). y.done ≡ (node n).done → (m : Message K V) → Contains (node n).given m → Contains y.given m)
              (sym (with_else n off)) (λ same m c. c);
          holders = subst (λ (y : Node R V Q A). y.done ≡ (node n).done → (tid : ℕ) → has_holders net (desk_on net started node n) tid ≡ true
              → has_holders net (desk_on net started (λ n. y) n) tid ≡ true) (sym (with_else n off)) (λ same tid e. e);
        })
        (cases_eq n i)
