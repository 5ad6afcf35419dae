-- What the messages that were given to a node say of its current batch.
use Rattle.std.proofs.Common.{◌≡◌, ℕ, ◌+◌, ◌-◌, ◌<◌, List, [], ◌++◌, map, length, take, true, false, Some, None, Option, refl, sym, ap, ◌∙◌, subst}
use Rattle.std.proofs.Common.{Ordering, arith}
use Rattle.std.specs.Prelude.{slice_get, slice_index_or, ◌==◌, if◌then◌else◌}
use Rattle.std.specs.List.{All}
use Rattle.std.specs.FinMap as fin
use Rattle.std.specs.FinMap.{FinMap}
use Rattle.std.proofs.lemmas.Bool.{eqb-true}
use Rattle.std.proofs.lemmas.Option.{same_Some}
use Rattle.std.proofs.lemmas.List.Elements.{All-contains}
use Rattle.batch_rules.specs.declared.verdicts.Verdict.{Verdict}
use Rattle.batch_rules.specs.Verdicts.{verdict_on}
use Rattle.node_rules.specs.Messages.{Sets, Holders, Content, Ask, Told, Marks, Least, Fate, Message, told_in, marks_in, least_in, fate_in, of_tid, of_node}
use Rattle.node_rules.specs.Nets.{Net, IsNet, owner}
use Rattle.node_rules.specs.Dues.{Desk, by_sets, holders_on, told, marks_of, holders_from, fate_of}
use Rattle.node_rules.specs.Worlds.{Node, World, desk_of}
use Rattle.node_rules.specs.Truths.{Course, course, on, there, Says, IsTrue, Before, WasTold, WasMarked, IsSent, Holds}
use Rattle.node_rules.proofs.Picks.{pick_all, All-filter_map}
use Rattle.node_rules.proofs.Runs.{IsRow}

module _ {K V : Type 0} {X : Type 0} where
  pub of_tid_some : (what : Content K V → Option X) (tid : ℕ) (m : Message K V) (x : X) → of_tid what tid m ≡ Some x
      → (m.tid ≡ tid) × (what m.content ≡ Some x)
  of_tid_some what tid m x e = elim (m.tid == tid) as (λ b. (m.tid == tid) ≡ b → (if b then what m.content else None) ≡ Some x
      → (m.tid ≡ tid) × (what m.content ≡ Some x)) [
        | true ↦ λ t e. (eqb-true m.tid tid t, e)
        | false ↦ λ t e. cc
      ] refl e

  pub of_node_some : (what : Content K V → Option X) (tid node : ℕ) (m : Message K V) (x : X) → of_node what tid node m ≡ Some x
      → (m.sender ≡ node) × (m.tid ≡ tid) × (what m.content ≡ Some x)
  of_node_some what tid node m x e =
      elim (m.sender == node) as (λ b. (m.sender == node) ≡ b → (if b then of_tid what tid m else None) ≡ Some x → (m.sender ≡ node) × (m.tid ≡ tid)
      × (what m.content ≡ Some x)) [
        | true ↦ λ t e. let rest = of_tid_some what tid m x e in (eqb-true m.sender node t, rest.0, rest.1)
        | false ↦ λ t e. cc
      ] refl e

module _ {K V Q A : Type 0} {R : K → K → Ordering} (net : Net R V Q A) (start : FinMap R V) (started : List (List Q)) (node : ℕ → Node R V Q A) where
  -- the message is true of the batch that follows on so many
  pub record At (done : ℕ) (m : Message K V) : Type 0 where
    pub is : IsTrue net (course net start started done) m
    pub before : Before net start started node (course net start started done).rows is.request m m.content

  pub at_batch : (m : Message K V) (done : ℕ) → m.batch ≡ done + 1 → IsSent net start started node m → At done m
  at_batch m done e s = let place : m.batch - 1 ≡ done = omega arith in subst (λ d. At d m) place (record { is = s.is; before = s.before })

  pub sent_at : (m : Message K V) (done : ℕ) → done < length started → m.batch ≡ done + 1 → At done m → IsSent net start started node m
  sent_at m done lt e t =
      let place : done ≡ m.batch - 1 = omega arith in
      let moved = subst (λ d. At d m) place t in
      record { low = omega arith; high = omega arith; is = moved.is; before = moved.before }

  module _ (c : Course R V Q) (tid : ℕ) (q : Q) (from to : ℕ) (m : Message K V) where
    told_case : (content : Content K V) (row : K × Option V) → Says net c tid q from to content → told_in content ≡ Some row → row.1 ≡ fin.get c.rows row.0
    told_case (Ask k) row s e = cc
    told_case (Told k r) row s e = let same : ◌≡◌ {A = K × Option V} (k, r) row = same_Some (k, r) row e in
        subst (λ (w : K × Option V). w.1 ≡ fin.get c.rows w.0) same s.3
    told_case (Marks sets) row s e = cc
    told_case (Least holders) row s e = cc
    told_case (Fate verdict) row s e = cc

    marks_case : (content : Content K V) (sets : Sets K V) → Says net c tid q from to content → Before net start started node c.rows q m content
        → marks_in content ≡ Some sets
        → (from ≡ owner net tid) × (sets ≡ there net c.rows to q) × WasTold net start started node c.rows q m.tid m.sender m.batch
    marks_case (Ask k) sets s b e = cc
    marks_case (Told k r) sets s b e = cc
    marks_case (Marks these) sets s b e = (s.0, sym (same_Some these sets e) ∙ s.1, b)
    marks_case (Least holders) sets s b e = cc
    marks_case (Fate verdict) sets s b e = cc

    least_case : (content : Content K V) (holders : Holders) → Says net c tid q from to content → Before net start started node c.rows q m content
        → least_in content ≡ Some holders
        → (holders ≡ holders_on (by_sets R) (map (there net c.rows from) (take (tid - 1) c.list)) (there net c.rows from q))
        × WasMarked net start started node m.sender m.batch
    least_case (Ask k) holders s b e = cc
    least_case (Told k r) holders s b e = cc
    least_case (Marks sets) holders s b e = cc
    least_case (Least these) holders s b e = (sym (same_Some these holders e) ∙ s.1, b)
    least_case (Fate verdict) holders s b e = cc

    fate_case : (content : Content K V) (v : Verdict) → Says net c tid q from to content → Before net start started node c.rows q m content
        → fate_in content ≡ Some v
        → (v ≡ verdict_on (on net c.rows) net.rule (take (tid - 1) c.list) q) × ((n : ℕ) → n < net.nodes → WasMarked net start started node n m.batch)
    fate_case (Ask k) v s b e = cc
    fate_case (Told k r) v s b e = cc
    fate_case (Marks sets) v s b e = cc
    fate_case (Least holders) v s b e = cc
    fate_case (Fate verdict) v s b e = (sym (same_Some verdict v e) ∙ s.1, b.0)

module _ {K V Q A : Type 0} {R : K → K → Ordering} (net : Net R V Q A) (is : IsNet net) (start : FinMap R V)
    (w : World R V Q A) (h : Holds net start w) (n : ℕ) (below : n < net.nodes) where
  abbrev pub done_at : ℕ
  done_at = (w.node n).done

  abbrev pub desk_at : Desk R V Q
  desk_at = desk_of net w n

  abbrev pub course_at : Course R V Q
  course_at = course net start w.started done_at

  -- a message of the current batch, to this node
  abbrev pub Here : Message K V → Type 0
  Here m = At net start w.started w.node done_at m × (m.addressee ≡ n) × (m.batch ≡ done_at + 1)

  pub given_at : All Here desk_at.given
  given_at k d lt =
      let g = (h.nodes n below).given k d lt in (
        at_batch net start w.started w.node _ done_at g.batch (All-contains (IsSent net start w.started w.node) w.sent _ h.sent g.sent_once),
        g.addressee,
        g.batch,
      )

  pub same_list : desk_at.list ≡ course_at.list
  same_list = ap (λ l. l ++ slice_index_or w.started (w.node n).done []) (h.nodes n below).carried

  -- the rows told are those of the batch's start
  row_told : (tid : ℕ) (m : Message K V) → Here m → (row : K × Option V) → of_tid told_in tid m ≡ Some row
      → IsRow is.total is.antisymmetric course_at.rows row
  row_told tid m g row e = told_case net start w.started w.node course_at m.tid g.0.is.request m.sender m.addressee m m.content row g.0.is.says
      (of_tid_some told_in tid m row e).1

  pub told_all : (tid : ℕ) → All (IsRow is.total is.antisymmetric course_at.rows) (told net desk_at tid)
  told_all tid = All-filter_map (IsRow is.total is.antisymmetric course_at.rows) (of_tid told_in tid) desk_at.given
      (λ k d lt. row_told tid _ (given_at k d lt))

  module _ (tid : ℕ) (q : Q) (stands : slice_get course_at.list (tid - 1) ≡ Some q) where
    one_request : (m : Message K V) (t : IsTrue net course_at m) → m.tid ≡ tid → t.request ≡ q
    one_request m t e = same_Some t.request q (sym t.stands ∙ ap (λ i. slice_get course_at.list (i - 1)) e ∙ stands)

    -- the marks of a request that were given are its sets' part here, and its node was told all
    pub record AreMarks (sets : Sets K V) : Type 0 where
      pub are : sets ≡ there net course_at.rows n q
      pub told : WasTold net start w.started w.node course_at.rows q tid (owner net tid) (done_at + 1)

    marks_here : (m : Message K V) → Here m → (sets : Sets K V) → of_tid marks_in tid m ≡ Some sets → AreMarks sets
    marks_here m g sets e =
        let t = of_tid_some marks_in tid m sets e in
        let f = marks_case net start w.started w.node course_at m.tid g.0.is.request m.sender m.addressee m m.content sets g.0.is.says g.0.before t.1 in
        let same = one_request m g.0.is t.0 in
        let from : m.sender ≡ owner net tid = f.0 ∙ ap (owner net) t.0 in
        record {
          are = f.1 ∙ (λ i. there net course_at.rows (g.1 i) (same i));
          told = subst (λ (p : Q × (ℕ × (ℕ × ℕ))). WasTold net start w.started w.node course_at.rows p.0 p.1.0 p.1.1.0 p.1.1.1)
              (λ i. (same i, (t.0 i, (from i, g.2 i)))) f.2;
        }

    pub marks_are : (sets : Sets K V) → marks_of net desk_at tid ≡ Some sets → AreMarks sets
    marks_are = pick_all (of_tid marks_in tid) AreMarks desk_at.given (λ k d lt. marks_here _ (given_at k d lt))

    -- the least holders from a node are those there, and that node was given the marks of all
    pub record AreHolders (from : ℕ) (holders : Holders) : Type 0 where
      pub are : holders ≡ holders_on (by_sets R) (map (there net course_at.rows from) (take (tid - 1) course_at.list)) (there net course_at.rows from q)
      pub marked : WasMarked net start w.started w.node from (done_at + 1)

    holders_here : (from : ℕ) (m : Message K V) → Here m → (holders : Holders) → of_node least_in tid from m ≡ Some holders → AreHolders from holders
    holders_here from m g holders e =
        let t = of_node_some least_in tid from m holders e in
        let f = least_case net start w.started w.node course_at m.tid g.0.is.request m.sender m.addressee m m.content holders g.0.is.says g.0.before t.2 in
        let same = one_request m g.0.is t.1 in
        record {
          are = f.0 ∙ (λ i. holders_on (by_sets R) (map (there net course_at.rows (t.0 i)) (take (t.1 i - 1) course_at.list))
              (there net course_at.rows (t.0 i) (same i)));
          marked = subst (λ (p : ℕ × ℕ). WasMarked net start w.started w.node p.0 p.1) (λ i. (t.0 i, g.2 i)) f.1;
        }

    pub holders_are : (from : ℕ) (holders : Holders) → holders_from net desk_at tid from ≡ Some holders → AreHolders from holders
    holders_are from = pick_all (of_node least_in tid from) (AreHolders from) desk_at.given (λ k d lt. holders_here from _ (given_at k d lt))

    -- a fate that was given is the verdict, and all nodes were given the marks of all
    pub record IsFate (v : Verdict) : Type 0 where
      pub verdict : v ≡ verdict_on (on net course_at.rows) net.rule (take (tid - 1) course_at.list) q
      pub marked : (from : ℕ) → from < net.nodes → WasMarked net start w.started w.node from (done_at + 1)

    fate_here : (m : Message K V) → Here m → (v : Verdict) → of_tid fate_in tid m ≡ Some v → IsFate v
    fate_here m g v e =
        let t = of_tid_some fate_in tid m v e in
        let f = fate_case net start w.started w.node course_at m.tid g.0.is.request m.sender m.addressee m m.content v g.0.is.says g.0.before t.1 in
        let same = one_request m g.0.is t.0 in
        record {
          verdict = f.0 ∙ (λ i. verdict_on (on net course_at.rows) net.rule (take (t.0 i - 1) course_at.list) (same i));
          marked = λ from lt. subst (λ batch. WasMarked net start w.started w.node from batch) g.2 (f.1 from lt);
        }

    pub fate_is : (v : Verdict) → fate_of net desk_at tid ≡ Some v → IsFate v
    fate_is = pick_all (of_tid fate_in tid) IsFate desk_at.given (λ k d lt. fate_here _ (given_at k d lt))
