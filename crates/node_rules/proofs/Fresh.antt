-- A message that is given for the first time makes due exactly its news, none of which was sent before.
use Rattle.std.proofs.Common.{◌≡◌, ℕ, zero, suc, ◌+◌, ◌-◌, ◌<◌, ◌≤◌, inl, inr, ⊎_elim, List, [], ◌∷◌, ◌++◌, map, length, take, Bool, true, false, cond}
use Rattle.std.proofs.Common.{Some, None, Option, refl, sym, ap, ◌∙◌, subst, Ordering, arith, Contains}
use Rattle.std.specs.Prelude.{slice_get, is_some, ◌==◌, ◌||◌, if◌then◌else◌, filter_map, flat_map, filter}
use Rattle.std.specs.Option.{option_map}
use Rattle.batch_rules.specs.declared.verdicts.Verdict.{Verdict}
use Rattle.std.specs.List.{All, cons_option, enumerate_from}
use Rattle.std.specs.Ordering.{eq_by_cmp}
use Rattle.std.specs.FinMap as fin
use Rattle.std.specs.FinMap.{FinMap}
use Rattle.std.proofs.lemmas.Bool.{cases_eq, eq-eqb, true≢false}
use Rattle.std.proofs.lemmas.Option.{same_Some, none-some}
use Rattle.std.proofs.lemmas.List.{append_assoc, append-nil}
use Rattle.std.proofs.lemmas.List.Elements.{All-tail, All-push, Contains-push, All-contains, All-contains_itself, All-append, All-nil, All-cons, All-filter}
use Rattle.batch_rules.specs.Touches.{is_among, keys_of, outside}
use Rattle.batch_rules.specs.Verdicts.{verdict_on}
use Rattle.batch_rules.specs.Trees.{Visit, trace_of}
use Rattle.batch_rules.proofs.Lists.{All-left}
use Rattle.batch_rules.proofs.Maps.{same_key}
use Rattle.node_rules.specs.Messages.{Sets, Holders, Content, Ask, Told, Marks, Least, Fate, Message, told_in, marks_in, least_in, fate_in, of_tid, of_node}
use Rattle.node_rules.specs.Nets.{Net, IsNet, owner, tids, all_nodes}
use Rattle.node_rules.specs.Dues.{Desk, part_at, sets_on, both, by_sets, holders_on, message, own_requests, all_requests, told, told_rows, wanted}
use Rattle.node_rules.specs.Dues.{marks_due, run_due, asked_in, marks_of, has_marks, least_due, holders_from, has_holders, verdict_here, fate_due, fate_of}
use Rattle.node_rules.specs.Dues.{due}
use Rattle.node_rules.specs.Worlds.{World, with_all_new, desk_of}
use Rattle.node_rules.specs.Truths.{Course, Says, IsTrue, Before, Since, Wants, WasTold, IsSent, Holds, there, on}
use Rattle.node_rules.specs.Counts.{NoneTwice}
use Rattle.node_rules.specs.Newses.{desk_with, of_request, news_by, news}
use Rattle.node_rules.proofs.Picks.{StandsAt, enumerated, has_cases, has_head, has_behind, some_is, list_all-all, has_number, get_below}
use Rattle.node_rules.proofs.Given.{At, at_batch, desk_at, course_at, Here, given_at, same_list, told_all, of_tid_some, of_node_some}
use Rattle.node_rules.proofs.Runs.{IsRow, same_wanted, wanted_new}
use Rattle.node_rules.proofs.Growing.{told_more}
use Rattle.node_rules.proofs.Progress.{has_among}
use Rattle.node_rules.proofs.Members.{picked, runs, tolds, leasts, fates, due_run, due_told, due_least, due_fate}
use Rattle.node_rules.proofs.Changes.{other_tid, other_kind, told_push, run_stays, tolds_push, leasts_stay, fate_stays}
use Rattle.node_rules.proofs.Adding.{add_middle, add_old, once_map, flat_around, flat_same}

told_is : {K V : Type 0} (x : Content K V) (w : K × Option V) → told_in x ≡ Some w → x ≡ Told w.0 w.1
told_is (Ask k) w e = cc
told_is (Told k row) w e = let same = same_Some (k, row) w e in λ i. Told (same i).0 (same i).1
told_is (Marks sets) w e = cc
told_is (Least holders) w e = cc
told_is (Fate verdict) w e = cc

marks_is : {K V : Type 0} (x : Content K V) (s : Sets K V) → marks_in x ≡ Some s → x ≡ Marks s
marks_is (Ask k) w e = cc
marks_is (Told k row) w e = cc
marks_is (Marks sets) w e = ap Marks (same_Some sets w e)
marks_is (Least holders) w e = cc
marks_is (Fate verdict) w e = cc

least_is : {K V : Type 0} (x : Content K V) (s : Holders) → least_in x ≡ Some s → x ≡ Least s
least_is (Ask k) w e = cc
least_is (Told k row) w e = cc
least_is (Marks sets) w e = cc
least_is (Least holders) w e = ap Least (same_Some holders w e)
least_is (Fate verdict) w e = cc

fate_is : {K V : Type 0} (x : Content K V) (v : Verdict) → fate_in x ≡ Some v → x ≡ Fate v
fate_is (Ask k) v e = cc
fate_is (Told k row) v e = cc
fate_is (Marks sets) v e = cc
fate_is (Least holders) v e = cc
fate_is (Fate verdict) v e = ap Fate (same_Some verdict v e)

among_row : {K V : Type 0} (R : K → K → Ordering) (rows : List (K × V)) (k : K) → is_among R (keys_of rows) k ≡ true → (row : K × V) × Contains rows row
    × (eq_by_cmp R k row.0 ≡ true)
among_row R [] k e = cc
among_row R (x ∷ xs) k e = elim (eq_by_cmp R k x.0) as (λ b. eq_by_cmp R k x.0 ≡ b → (b || is_among R (keys_of xs) k) ≡ true
    → (row : _) × Contains (x ∷ xs) row × (eq_by_cmp R k row.0 ≡ true)) [
      | true ↦ λ t e. (x, has_head x xs, t)
      | false ↦ λ t e. let rest = among_row R xs k e in (rest.0, has_behind x xs rest.0 rest.1, rest.2)
    ] refl e

-- what a mapped list has comes from the list
pub mapped_from : {X Y : Type 0} (h : X → Option Y) (xs : List X) (y : Y) → Contains (filter_map h xs) y → (x : X) × Contains xs x × (h x ≡ Some y)
mapped_from h [] y c = absurd (let lt = c.1 in omega arith)
mapped_from h (x ∷ xs) y c = elim (h x) as (λ r. h x ≡ r → Contains (cons_option r (filter_map h xs)) y
    → (x' : _) × Contains (x ∷ xs) x' × (h x' ≡ Some y)) [
      | None ↦ λ t c. let rest = mapped_from h xs y c in (rest.0, has_behind x xs rest.0 rest.1, rest.2)
      | Some z ↦ λ t c. ⊎_elim (λ same. (x, has_head x xs, t ∙ ap Some same)) (λ behind. let rest = mapped_from h xs y behind in
          (rest.0, has_behind x xs rest.0 rest.1, rest.2)) (has_cases z (filter_map h xs) y c)
    ] refl c

from_map : {X Y : Type 0} (f : X → Y) (xs : List X) (y : Y) → Contains (map f xs) y → (x : X) × (f x ≡ y)
from_map f [] y c = absurd (let lt = c.1 in omega arith)
from_map f (x ∷ xs) y c = ⊎_elim (λ same. (x, same)) (λ rest. from_map f xs y rest) (has_cases (f x) (map f xs) y c)

module _ {K V Q A : Type 0} {R : K → K → Ordering} (net : Net R V Q A) (is : IsNet net) (start : FinMap R V)
    (w : World R V Q A) (h : Holds net start w) (n : ℕ) (below : n < net.nodes) where
  abbrev desk : Desk R V Q
  desk = desk_at net is start w h n below

  abbrev c : Course R V Q
  c = course_at net is start w h n below

  abbrev IsHere : Message K V → Type 0
  IsHere m = Here net is start w h n below m

  -- two messages here that are of one request are of the same request of the list
  one_request : (m x : Message K V) (t : IsTrue net c m) (u : IsTrue net c x) → m.tid ≡ x.tid → t.request ≡ u.request
  one_request m x t u e = same_Some t.request u.request (sym t.stands ∙ ap (λ i. slice_get c.list (i - 1)) e ∙ u.stands)

  same_told : (m x : Message K V) → IsHere m → IsHere x → m.tid ≡ x.tid → (k : K) (r s : Option V) → m.content ≡ Told k r → x.content ≡ Told k s → m ≡ x
  same_told m x g f e k r s a b =
      let mine = subst (Says net c m.tid g.0.is.request m.sender m.addressee) a g.0.is.says in
      let theirs = subst (Says net c x.tid f.0.is.request x.sender x.addressee) b f.0.is.says in
      let row : r ≡ s = mine.3 ∙ sym theirs.3 in
      let said : m.content ≡ x.content = a ∙ ap (Told k) row ∙ sym b in
      let from : m.sender ≡ x.sender = mine.0 ∙ sym theirs.0 in
      let to : m.addressee ≡ x.addressee = g.1 ∙ sym f.1 in
      let batch : m.batch ≡ x.batch = g.2 ∙ sym f.2 in
      λ i. record { batch = batch i; tid = e i; sender = from i; addressee = to i; content = said i }

  same_marks : (m x : Message K V) → IsHere m → IsHere x → m.tid ≡ x.tid → (r s : Sets K V) → m.content ≡ Marks r → x.content ≡ Marks s → m ≡ x
  same_marks m x g f e r s a b =
      let mine = subst (Says net c m.tid g.0.is.request m.sender m.addressee) a g.0.is.says in
      let theirs = subst (Says net c x.tid f.0.is.request x.sender x.addressee) b f.0.is.says in
      let q = one_request m x g.0.is f.0.is e in
      let to : m.addressee ≡ x.addressee = g.1 ∙ sym f.1 in
      let sets : r ≡ s = mine.1 ∙ (λ i. there net c.rows (to i) (q i)) ∙ sym theirs.1 in
      let said : m.content ≡ x.content = a ∙ ap Marks sets ∙ sym b in
      let from : m.sender ≡ x.sender = mine.0 ∙ ap (owner net) e ∙ sym theirs.0 in
      let batch : m.batch ≡ x.batch = g.2 ∙ sym f.2 in
      λ i. record { batch = batch i; tid = e i; sender = from i; addressee = to i; content = said i }

  same_least : (m x : Message K V) → IsHere m → IsHere x → m.tid ≡ x.tid → m.sender ≡ x.sender → (r s : Holders) → m.content ≡ Least r
      → x.content ≡ Least s → m ≡ x
  same_least m x g f e from r s a b =
      let mine = subst (Says net c m.tid g.0.is.request m.sender m.addressee) a g.0.is.says in
      let theirs = subst (Says net c x.tid f.0.is.request x.sender x.addressee) b f.0.is.says in
      let q = one_request m x g.0.is f.0.is e in
      let to : m.addressee ≡ x.addressee = g.1 ∙ sym f.1 in
      let holders : r ≡ s = mine.1 ∙ (λ i. holders_on (by_sets R) (map (there net c.rows (from i)) (take (e i - 1) c.list))
      (there net c.rows (from i) (q i))) ∙ sym theirs.1 in
      let said : m.content ≡ x.content = a ∙ ap Least holders ∙ sym b in
      let batch : m.batch ≡ x.batch = g.2 ∙ sym f.2 in
      λ i. record { batch = batch i; tid = e i; sender = from i; addressee = to i; content = said i }

  same_fate : (m x : Message K V) → IsHere m → IsHere x → m.tid ≡ x.tid → (r s : Verdict) → m.content ≡ Fate r → x.content ≡ Fate s → m ≡ x
  same_fate m x g f e r s a b =
      let mine = subst (Says net c m.tid g.0.is.request m.sender m.addressee) a g.0.is.says in
      let theirs = subst (Says net c x.tid f.0.is.request x.sender x.addressee) b f.0.is.says in
      let q = one_request m x g.0.is f.0.is e in
      let from : m.sender ≡ x.sender = mine.0 ∙ ap (owner net) e ∙ sym theirs.0 in
      let to : m.addressee ≡ x.addressee = g.1 ∙ sym f.1 in
      let verdict : r ≡ s = mine.1 ∙ (λ i. verdict_on (on net c.rows) net.rule (take (e i - 1) c.list) (q i)) ∙ sym theirs.1 in
      let said : m.content ≡ x.content = a ∙ ap Fate verdict ∙ sym b in
      let batch : m.batch ≡ x.batch = g.2 ∙ sym f.2 in
      λ i. record { batch = batch i; tid = e i; sender = from i; addressee = to i; content = said i }

  -- ---- a new message here

  module _ (m : Message K V) (g : IsHere m) (new : Contains desk.given m → ⊥) where
    given_here : (x : Message K V) → Contains desk.given x → IsHere x
    given_here x among = All-contains IsHere desk.given x (given_at net is start w h n below) among

    pub not_told : (k : K) (row : Option V) → m.content ≡ Told k row → is_among R (keys_of (told net desk m.tid)) k ≡ true → ⊥
    not_told k row e among =
        let r = among_row R (told net desk m.tid) k among in
        let x = mapped_from (of_tid told_in m.tid) desk.given r.0 r.1 in
        let t = of_tid_some told_in m.tid x.0 r.0 x.2 in
        let key : k ≡ r.0.0 = same_key is.antisymmetric k r.0.0 r.2 in
        let same : m ≡ x.0 = same_told m x.0 g (given_here x.0 x.1) (sym t.0) k row r.0.1 e (told_is x.0.content r.0 t.1
        ∙ ap (λ k. Told k r.0.1) (sym key)) in
        new (subst (Contains desk.given) (sym same) x.1)

    pub not_marked : (sets : Sets K V) → m.content ≡ Marks sets → is_some (marks_of net desk m.tid) ≡ true → ⊥
    not_marked sets e has =
        let s = some_is (marks_of net desk m.tid) has in
        let x = picked (of_tid marks_in m.tid) desk.given s.0 s.1 in
        let t = of_tid_some marks_in m.tid x.0 s.0 x.2 in
        new (subst (Contains desk.given) (sym (same_marks m x.0 g (given_here x.0 x.1) (sym t.0) sets s.0 e (marks_is x.0.content s.0 t.1))) x.1)

    pub not_held : (holders : Holders) → m.content ≡ Least holders → is_some (holders_from net desk m.tid m.sender) ≡ true → ⊥
    not_held holders e has =
        let s = some_is (holders_from net desk m.tid m.sender) has in
        let x = picked (of_node least_in m.tid m.sender) desk.given s.0 s.1 in
        let t = of_node_some least_in m.tid m.sender x.0 s.0 x.2 in
        new (subst (Contains desk.given)
        (sym (same_least m x.0 g (given_here x.0 x.1) (sym t.1) (sym t.0) holders s.0 e (least_is x.0.content s.0 t.2))) x.1)

    pub not_fated : (verdict : Verdict) → m.content ≡ Fate verdict → is_some (fate_of net desk m.tid) ≡ true → ⊥
    not_fated verdict e has =
        let s = some_is (fate_of net desk m.tid) has in
        let x = picked (of_tid fate_in m.tid) desk.given s.0 s.1 in
        let t = of_tid_some fate_in m.tid x.0 s.0 x.2 in
        new (subst (Contains desk.given) (sym (same_fate m x.0 g (given_here x.0 x.1) (sym t.0) verdict s.0 e (fate_is x.0.content s.0 t.1))) x.1)

-- ---- lists in their shapes

module _ {X : Type 0} where
  shape_runs : (u x v b c d : List X) → (u ++ x ++ v) ++ b ++ c ++ d ≡ u ++ x ++ (v ++ b ++ c ++ d)
  shape_runs u x v b c d = ap (λ l. l ++ c ++ d) (append_assoc (u ++ x) v b) ∙ ap (λ l. l ++ d) (append_assoc (u ++ x) (v ++ b) c)
      ∙ append_assoc (u ++ x) (v ++ b ++ c) d

  shape_tolds : (a b x c d : List X) → a ++ (b ++ x) ++ c ++ d ≡ (a ++ b) ++ x ++ (c ++ d)
  shape_tolds a b x c d = ap (λ l. l ++ c ++ d) (sym (append_assoc a b x)) ∙ append_assoc (a ++ b ++ x) c d

  shape_fates : (a u x v : List X) → a ++ (u ++ x ++ v) ≡ (a ++ u) ++ x ++ v
  shape_fates a u x v = sym (append_assoc a (u ++ x) v) ∙ ap (λ l. l ++ v) (sym (append_assoc a u x))

  abbrev pub Off : ℕ → ℕ × X → Type 0
  Off t e = e.0 ≡ t → ⊥

  -- an item of a list with places, apart from all others by its place
  pub record Apart (p : ℕ × X → Bool) (es : List (ℕ × X)) (t : ℕ) (x : X) : Type 0 where
    pub before : List (ℕ × X)
    pub behind : List (ℕ × X)
    pub is : filter p es ≡ before ++ (t, x) ∷ behind
    pub before_off : All (Off t) before
    pub behind_off : All (Off t) behind

  later_off : (i t : ℕ) (zs : List X) → i ≡ t → (e : ℕ × X) → StandsAt (i + 1) zs e → Off t e
  later_off i t zs same e s at = let low = s.0 in absurd (omega arith)

  apart_here : (p : ℕ × X → Bool) (i : ℕ) (z : X) (zs : List X) (t : ℕ) (x : X) → i ≡ t → slice_get (z ∷ zs) (t - i) ≡ Some x → p (t, x) ≡ true
      → Apart p (enumerate_from i (z ∷ zs)) t x
  apart_here p i z zs t x same e pass =
      let here : t - i ≡ zero = omega arith in
      let item : z ≡ x = same_Some z x (sym (ap (slice_get (z ∷ zs)) here) ∙ e) in
      let it : ◌≡◌ {A = ℕ × X} (i, z) (t, x) = λ j. (same j, item j) in
      record {
        before = [];
        behind = filter p (enumerate_from (i + 1) zs);
        is = ap (λ b. cond b ((i, z) ∷ filter p (enumerate_from (i + 1) zs)) (filter p (enumerate_from (i + 1) zs))) (ap p it ∙ pass)
            ∙ ap (λ (y : ℕ × X). y ∷ filter p (enumerate_from (i + 1) zs)) it;
        before_off = All-nil (Off t);
        behind_off = λ k d lt. later_off i t zs same _ (All-filter p (StandsAt (i + 1) zs) (enumerate_from (i + 1) zs) (enumerated (i + 1) zs) k d lt);
      }

  apart_behind : (p : ℕ × X → Bool) (i : ℕ) (z : X) (zs : List X) (t : ℕ) (x : X) → (i ≡ t → ⊥) → Apart p (enumerate_from (i + 1) zs) t x
      → Apart p (enumerate_from i (z ∷ zs)) t x
  apart_behind p i z zs t x off rest =
      let both = λ (b : Bool). cond b ((i, z) ∷ filter p (enumerate_from (i + 1) zs)) (filter p (enumerate_from (i + 1) zs)) in
      elim (p (i, z)) as (λ b. p (i, z) ≡ b → Apart p (enumerate_from i (z ∷ zs)) t x) [
        | true ↦ λ b. record {
          before = (i, z) ∷ rest.before;
          behind = rest.behind;
          is = ap both b ∙ ap (λ l. (i, z) ∷ l) rest.is;
          before_off = All-cons (Off t) (i, z) rest.before off rest.before_off;
          behind_off = rest.behind_off;
        }
        | false ↦ λ b. record {
          before = rest.before;
          behind = rest.behind;
          is = ap both b ∙ rest.is;
          before_off = rest.before_off;
          behind_off = rest.behind_off;
        }
      ] refl

  pub apart : (p : ℕ × X → Bool) (i : ℕ) (xs : List X) (t : ℕ) (x : X) → i ≤ t → slice_get xs (t - i) ≡ Some x → p (t, x) ≡ true
      → Apart p (enumerate_from i xs) t x
  apart p i [] t x low e pass = cc
  apart p i (z ∷ zs) t x low e pass = elim (cases_eq i t) [
    | inl same ↦ apart_here p i z zs t x same e pass
    | inr off ↦
        let at : t - i ≡ suc (t - (i + 1)) = omega arith in
        let next : i + 1 ≤ t = omega arith in
        apart_behind p i z zs t x off (apart p (i + 1) zs t x next (sym (ap (slice_get (z ∷ zs)) at) ∙ e) pass)
  ]

module _ {K V Q A : Type 0} {R : K → K → Ordering} (net : Net R V Q A) (is : IsNet net) (start : FinMap R V)
    (w : World R V Q A) (h : Holds net start w) (n : ℕ) (below : n < net.nodes) (rests : All (Contains w.sent) (due net (desk_of net w n)))
    (m : Message K V) (g : Here net is start w h n below m) (new : Contains (w.node n).given m → ⊥) where
  abbrev d0 : Desk R V Q
  d0 = desk_of net w n

  abbrev d1 : Desk R V Q
  d1 = desk_with net d0 m

  abbrev c0 : Course R V Q
  c0 = course_at net is start w h n below

  abbrev done : ℕ
  done = (w.node n).done

  -- what was sent of this batch was true when it was sent
  sent_at_batch : (x : Message K V) → Contains w.sent x → x.batch ≡ done + 1 → At net start w.started w.node done x
  sent_at_batch x among e = at_batch net start w.started w.node x done e (All-contains (IsSent net start w.started w.node) w.sent x h.sent among)

  now : (P : Type 0) → Since net start w.started w.node n (done + 1) P → P
  now P (inl past) = absurd (omega arith)
  now P (inr at) = at.1

  -- the request that the message is of
  abbrev q : Q
  q = g.0.is.request

  stands : slice_get d0.list (m.tid - 1) ≡ Some q
  stands = subst (λ l. slice_get l (m.tid - 1) ≡ Some q) (sym (same_list net is start w h n below)) g.0.is.stands

  old_runs : All (Contains w.sent) (runs net d0)
  old_runs k d lt = All-contains (Contains w.sent) (due net d0) _ rests (due_run net d0 _ (All-contains_itself (runs net d0) k d lt))

  old_tolds : All (Contains w.sent) (tolds net d0)
  old_tolds k d lt = All-contains (Contains w.sent) (due net d0) _ rests (due_told net d0 _ (All-contains_itself (tolds net d0) k d lt))

  old_leasts : All (Contains w.sent) (leasts net d0)
  old_leasts k d lt = All-contains (Contains w.sent) (due net d0) _ rests (due_least net d0 _ (All-contains_itself (leasts net d0) k d lt))

  old_fates : All (Contains w.sent) (fates net d0)
  old_fates k d lt = All-contains (Contains w.sent) (due net d0) _ rests (due_fate net d0 _ (All-contains_itself (fates net d0) k d lt))

  -- ---- parts that stay

  runs_stay : told_in m.content ≡ None → runs net d1 ≡ runs net d0
  runs_stay e = flat_same (run_due net d1) (run_due net d0) (own_requests net d0) (λ x _. run_stays net d0 m x (other_kind told_in x.0 m e))

  tolds_stay : asked_in net d0 m.content ≡ None → tolds net d1 ≡ tolds net d0
  tolds_stay e = tolds_push net d0 m
      ∙ ap (λ r. tolds net d0 ++ cons_option (option_map (λ k. message net d0 m.tid (owner net m.tid) (Told k (fin.get d0.rows k))) r) []) e
      ∙ append-nil (tolds net d0)

  leasts_still : marks_in m.content ≡ None → leasts net d1 ≡ leasts net d0
  leasts_still e = leasts_stay net d0 m (λ tid. other_kind marks_in tid m e)

  fates_stay : least_in m.content ≡ None → fates net d1 ≡ fates net d0
  fates_stay e = flat_same (fate_due net d1) (fate_due net d0) (own_requests net d0) (λ x _. fate_stays net d0 m x (other_kind least_in x.0 m e))

  -- ---- by kinds

  abbrev News : List (Message K V) → Type 0
  News xs = with_all_new net w.sent (due net d1) ≡ w.sent ++ xs

  asked : (k : K) → m.content ≡ Ask k → News (message net d0 m.tid (owner net m.tid) (Told k (fin.get d0.rows k)) ∷ [])
  asked k e =
      let tell = message net d0 m.tid (owner net m.tid) (Told k (fin.get d0.rows k)) in
      let says = subst (Says net c0 m.tid q m.sender m.addressee) e g.0.is.says in
      let it : record { batch = done + 1; tid = m.tid; sender = owner net m.tid; addressee = n; content = Ask k } ≡ m =
      λ i. record { batch = sym g.2 i; tid = m.tid; sender = sym says.0 i; addressee = sym g.1 i; content = sym e i } in
      let pushed : tolds net d1 ≡ tolds net d0 ++ tell ∷ [] = tolds_push net d0 m
      ∙ ap (λ x. tolds net d0 ++ cons_option
      (option_map (λ k. message net d0 m.tid (owner net m.tid) (Told k (fin.get d0.rows k))) (asked_in net d0 x)) []) e in
      ap (with_all_new net w.sent) ((λ i. runs_stay (ap told_in e) i ++ pushed i ++ leasts_still (ap marks_in e) i ++ fates_stay (ap least_in e) i)
      ∙ shape_tolds (runs net d0) (tolds net d0) (tell ∷ []) (leasts net d0) (fates net d0))
      ∙ add_middle net is w.sent (runs net d0 ++ tolds net d0) (tell ∷ []) (leasts net d0 ++ fates net d0)
      (All-append (Contains w.sent) _ _ old_runs old_tolds) (λ c. let lt = c.1 in absurd (omega arith), tt)
      (λ x c among. ⊎_elim
      (λ same. new (subst (Contains d0.given) it (now (Contains d0.given _) (sent_at_batch tell (subst (Contains w.sent) (sym same) among) refl).before.0)))
      (λ none. absurd (let lt = none.1 in omega arith))
      (has_cases tell [] x c))
      (All-append (Contains w.sent) _ _ old_leasts old_fates)

  fated : (v : Verdict) → m.content ≡ Fate v → News []
  fated v e =
      ap (with_all_new net w.sent) (λ i. runs_stay (ap told_in e) i ++ tolds_stay (ap (asked_in net d0) e) i ++ leasts_still (ap marks_in e) i
      ++ fates_stay (ap least_in e) i)
      ∙ add_old net is w.sent (due net d0) rests ∙ sym (append-nil w.sent)

  marked : (sets : Sets K V) → m.content ≡ Marks sets → News (leasts net d1)
  marked sets e =
      let once : NoneTwice (leasts net d1) = elim (has_marks net d1) as (λ b. NoneTwice (if b then map (least_due net d1) (tids d0.list) else [])) [
        | true ↦ once_map (least_due net d1) (λ x. x.tid) (λ t. refl) 1 (length d0.list)
        | false ↦ tt
      ] in
      let off : (x : Message K V) → Contains (leasts net d1) x → Contains w.sent x → ⊥ =
      elim (has_marks net d1) as (λ b. (x : Message K V) → Contains (if b then map (least_due net d1) (tids d0.list) else []) x → Contains w.sent x
      → ⊥) [
        | true ↦ λ x c among.
            let t = from_map (least_due net d1) (tids d0.list) x c in
            let all = now (has_marks net d0 ≡ true) (sent_at_batch (least_due net d1 t.0) (subst (Contains w.sent) (sym t.1) among) refl).before in
            let lt = get_below d0.list (m.tid - 1) q stands in
            let low = g.0.is.tid in
            not_marked net is start w h n below m g new sets e
            (All-contains (λ tid. is_some (marks_of net d0 tid) ≡ true) (tids d0.list) m.tid
            (list_all-all (λ tid. is_some (marks_of net d0 tid)) (tids d0.list) all) (has_number 1 (length d0.list) m.tid low (omega arith)))
        | false ↦ λ x c among. let lt = c.1 in absurd (omega arith)
      ] in
      ap (with_all_new net w.sent) (λ i. runs_stay (ap told_in e) i ++ tolds_stay (ap (asked_in net d0) e) i ++ leasts net d1
      ++ fates_stay (ap least_in e) i)
      ∙ add_middle net is w.sent (runs net d0 ++ tolds net d0) (leasts net d1) (fates net d0)
      (All-append (Contains w.sent) _ _ old_runs old_tolds) once off old_fates

  -- its own request
  own_q : m.addressee ≡ owner net m.tid → Apart (λ e. owner net e.0 == n) (all_requests net d0) m.tid q
  own_q to = apart (λ e. owner net e.0 == n) 1 d0.list m.tid q g.0.is.tid stands (eq-eqb _ _ (sym to ∙ g.1))

  abbrev e : ℕ × Q
  e = (m.tid, q)

  first_part : (us xs vs : List (Message K V)) → All (Contains w.sent) (us ++ xs ++ vs) → All (Contains w.sent) us
  first_part us xs vs a = All-left (Contains w.sent) us xs (All-left (Contains w.sent) (us ++ xs) vs a)

  last_part : (us vs : List (Message K V)) → All (Contains w.sent) (us ++ vs) → All (Contains w.sent) vs
  last_part [] vs a = a
  last_part (u ∷ us) vs a = last_part us vs (All-tail (Contains w.sent) u (us ++ vs) a)

  held : (holders : Holders) → m.content ≡ Least holders → News (fate_due net d1 e)
  held holders is_least =
      let says = subst (Says net c0 m.tid q m.sender m.addressee) is_least g.0.is.says in
      let a = own_q says.0 in
      let f0 = fate_due net d0 in
      let f1 = fate_due net d1 in
      let split0 : fates net d0 ≡ flat_map f0 a.before ++ f0 e ++ flat_map f0 a.behind = ap (flat_map f0) a.is ∙ flat_around f0 a.before e a.behind in
      let us : flat_map f1 a.before ≡ flat_map f0 a.before =
      flat_same f1 f0 a.before (λ x c. fate_stays net d0 m x
      (other_tid least_in x.0 m (λ same. All-contains (Off m.tid) a.before x a.before_off c (sym same)))) in
      let vs : flat_map f1 a.behind ≡ flat_map f0 a.behind =
      flat_same f1 f0 a.behind (λ x c. fate_stays net d0 m x
      (other_tid least_in x.0 m (λ same. All-contains (Off m.tid) a.behind x a.behind_off c (sym same)))) in
      let split1 : fates net d1 ≡ flat_map f0 a.before ++ f1 e ++ flat_map f0 a.behind = ap (flat_map f1) a.is ∙ flat_around f1 a.before e a.behind
      ∙ (λ i. us i ++ f1 e ++ vs i) in
      let old : All (Contains w.sent) (flat_map f0 a.before ++ f0 e ++ flat_map f0 a.behind) = subst (All (Contains w.sent)) split0 old_fates in
      let once : NoneTwice (f1 e) = elim (has_holders net d1 m.tid) as
      (λ b. NoneTwice (if b then map (λ to. message net d1 m.tid to (Fate (verdict_here net d1 m.tid))) (all_nodes net) else [])) [
        | true ↦ once_map (λ to. message net d1 m.tid to (Fate (verdict_here net d1 m.tid))) (λ x. x.addressee) (λ t. refl) 0 net.nodes
        | false ↦ tt
      ] in
      let off : (x : Message K V) → Contains (f1 e) x → Contains w.sent x → ⊥ =
      elim (has_holders net d1 m.tid) as (λ b. (x : Message K V)
      → Contains (if b then map (λ to. message net d1 m.tid to (Fate (verdict_here net d1 m.tid))) (all_nodes net) else []) x → Contains w.sent x
      → ⊥) [
        | true ↦ λ x c among.
            let t = from_map (λ to. message net d1 m.tid to (Fate (verdict_here net d1 m.tid))) (all_nodes net) x c in
            let all = now (has_holders net d0 m.tid ≡ true)
            (sent_at_batch (message net d1 m.tid t.0 (Fate (verdict_here net d1 m.tid))) (subst (Contains w.sent) (sym t.1) among) refl).before.1 in
            let from = g.0.is.sender in
            not_held net is start w h n below m g new holders is_least
            (All-contains (λ from. is_some (holders_from net d0 m.tid from) ≡ true) (all_nodes net) m.sender
            (list_all-all (λ from. is_some (holders_from net d0 m.tid from)) (all_nodes net) all)
            (has_number 0 net.nodes m.sender (omega arith) (omega arith)))
        | false ↦ λ x c among. let lt = c.1 in absurd (omega arith)
      ] in
      ap (with_all_new net w.sent) ((λ i. runs_stay (ap told_in is_least) i ++ tolds_stay (ap (asked_in net d0) is_least) i
      ++ leasts_still (ap marks_in is_least) i ++ split1 i)
      ∙ shape_fates (runs net d0 ++ tolds net d0 ++ leasts net d0) (flat_map f0 a.before) (f1 e) (flat_map f0 a.behind))
      ∙ add_middle net is w.sent (runs net d0 ++ tolds net d0 ++ leasts net d0 ++ flat_map f0 a.before) (f1 e) (flat_map f0 a.behind)
      (All-append (Contains w.sent) _ _ (All-append (Contains w.sent) _ _ (All-append (Contains w.sent) _ _ old_runs old_tolds) old_leasts)
      (first_part (flat_map f0 a.before) (f0 e) (flat_map f0 a.behind) old)) once off
      (last_part (flat_map f0 a.before ++ f0 e) (flat_map f0 a.behind) old)

  module _ (k : K) (row : Option V) (is_told : m.content ≡ Told k row) where
    told_says : Says net c0 m.tid q m.sender m.addressee (Told k row)
    told_says = subst (Says net c0 m.tid q m.sender m.addressee) is_told g.0.is.says

    abbrev keys0 : List K
    keys0 = keys_of (told net d0 m.tid)

    abbrev keys1 : List K
    keys1 = keys_of (told net d1 m.tid)

    abbrev visits : List (Visit K V)
    visits = trace_of (net.tree q) c0.rows

    pushed : told net d1 m.tid ≡ told net d0 m.tid ++ (k, row) ∷ []
    pushed = told_push net d0 m m.tid
        ∙ ap (λ r. told net d0 m.tid ++ cons_option r []) (ap (λ b. if b then told_in m.content else None) (eq-eqb m.tid m.tid refl) ∙ ap told_in is_told)

    rows_true : All (IsRow is.total is.antisymmetric c0.rows) (told net d1 m.tid)
    rows_true = subst (All (IsRow is.total is.antisymmetric c0.rows)) (sym pushed)
        (All-push (IsRow is.total is.antisymmetric c0.rows) (told net d0 m.tid) (k, row) (told_all net is start w h n below m.tid) told_says.3)

    wanted_is : wanted net d1 m.tid q ≡ outside R (both keys1) visits
    wanted_is = same_wanted is.total is.antisymmetric c0.rows net.is_done (net.tree q) (told net d1 m.tid) rows_true

    has_key : is_among R keys1 k ≡ true
    has_key = has_among is.total (told net d1 m.tid) (k, row) (subst (λ l. Contains l (k, row)) (sym pushed) (Contains-push (told net d0 m.tid) (k, row)))

    grown : (x : K) → is_among R keys0 x ≡ true → is_among R keys1 x ≡ true
    grown x e = told_more net d0 (m ∷ []) m.tid x e

    -- the row that was told is the one that was wanted
    wanted_before : outside R (both keys0) visits ≡ Some k
    wanted_before =
        let b = (subst (Before net start w.started w.node c0.rows q m) is_told g.0.before).1 in
        let here = subst (λ (p : ℕ × ℕ). Since net start w.started w.node p.0 p.1 (Wants net start w.started w.node c0.rows q m.tid k p.0))
        (λ i. (g.1 i, g.2 i)) b in
        ⊎_elim (λ among. absurd (not_told net is start w h n below m g new k row is_told among)) (λ wanted. wanted)
        (now (Wants net start w.started w.node c0.rows q m.tid k n) here)

    same_q : (x : Message K V) (t : At net start w.started w.node done x) → x.tid ≡ m.tid → t.is.request ≡ q
    same_q x t same = one_request net is start w h n below x m t.is g.0.is same

    ask_new : (k1 : K) → outside R (both keys1) visits ≡ Some k1 → Contains w.sent (message net d1 m.tid (net.home k1) (Ask k1)) → ⊥
    ask_new k1 wants among =
        let x = message net d1 m.tid (net.home k1) (Ask k1) in
        let t = sent_at_batch x among refl in
        let b = subst (λ q. Since net start w.started w.node n (done + 1) (Wants net start w.started w.node c0.rows q m.tid k1 n))
        (same_q x t refl) t.before in
        let off = wanted_new is.total keys1 visits k1 wants in
        ⊎_elim
        (λ told. true≢false (sym (grown k1 told) ∙ off))
        (λ before. let same : k ≡ k1 = same_Some k k1 (sym wanted_before ∙ before) in true≢false (sym has_key ∙ ap (is_among R keys1) same ∙ off))
        (now (Wants net start w.started w.node c0.rows q m.tid k1 n) b)

    marks_new : (to : ℕ) (sets : Sets K V) → Contains w.sent (message net d1 m.tid to (Marks sets)) → ⊥
    marks_new to sets among =
        let x = message net d1 m.tid to (Marks sets) in
        let t = sent_at_batch x among refl in
        let b = subst (λ q. WasTold net start w.started w.node c0.rows q m.tid n (done + 1)) (same_q x t refl) t.before in
        let all = now (outside R (both keys0) visits ≡ None) b in
        let none : None ≡ Some k = sym all ∙ wanted_before in
        none-some k none

    run_once : NoneTwice (run_due net d1 e)
    run_once = elim (wanted net d1 m.tid q) as
        (λ r. NoneTwice (elim r [ None ↦ marks_due net d1 m.tid q | Some k ↦ message net d1 m.tid (net.home k) (Ask k) ∷ [] ])) [
          | None ↦ once_map (λ to. message net d1 m.tid to (Marks (part_at net to (sets_on net (told_rows net d1 m.tid) q)))) (λ x. x.addressee)
              (λ t. refl) 0 net.nodes
          | Some k1 ↦ (λ c. let lt = c.1 in absurd (omega arith), tt)
        ]

    run_new : (x : Message K V) → Contains (run_due net d1 e) x → Contains w.sent x → ⊥
    run_new = elim (wanted net d1 m.tid q) as (λ r. wanted net d1 m.tid q ≡ r → (x : Message K V)
        → Contains (elim r [ None ↦ marks_due net d1 m.tid q | Some k ↦ message net d1 m.tid (net.home k) (Ask k) ∷ [] ]) x → Contains w.sent x → ⊥) [
          | None ↦ λ t x c among.
              let y = from_map (λ to. message net d1 m.tid to (Marks (part_at net to (sets_on net (told_rows net d1 m.tid) q)))) (all_nodes net) x c in
              marks_new y.0 (part_at net y.0 (sets_on net (told_rows net d1 m.tid) q)) (subst (Contains w.sent) (sym y.1) among)
          | Some k1 ↦ λ t x c among. ⊎_elim
              (λ same. ask_new k1 (sym wanted_is ∙ t) (subst (Contains w.sent) (sym same) among))
              (λ none. absurd (let lt = none.1 in omega arith))
              (has_cases (message net d1 m.tid (net.home k1) (Ask k1)) [] x c)
        ] refl

    told_news : News (run_due net d1 e)
    told_news =
        let a = own_q told_says.1 in
        let r0 = run_due net d0 in
        let r1 = run_due net d1 in
        let split0 : runs net d0 ≡ flat_map r0 a.before ++ r0 e ++ flat_map r0 a.behind = ap (flat_map r0) a.is ∙ flat_around r0 a.before e a.behind in
        let us : flat_map r1 a.before ≡ flat_map r0 a.before =
        flat_same r1 r0 a.before (λ x c. run_stays net d0 m x
        (other_tid told_in x.0 m (λ same. All-contains (Off m.tid) a.before x a.before_off c (sym same)))) in
        let vs : flat_map r1 a.behind ≡ flat_map r0 a.behind =
        flat_same r1 r0 a.behind (λ x c. run_stays net d0 m x
        (other_tid told_in x.0 m (λ same. All-contains (Off m.tid) a.behind x a.behind_off c (sym same)))) in
        let split1 : runs net d1 ≡ flat_map r0 a.before ++ r1 e ++ flat_map r0 a.behind = ap (flat_map r1) a.is ∙ flat_around r1 a.before e a.behind
        ∙ (λ i. us i ++ r1 e ++ vs i) in
        let old : All (Contains w.sent) (flat_map r0 a.before ++ r0 e ++ flat_map r0 a.behind) = subst (All (Contains w.sent)) split0 old_runs in
        ap (with_all_new net w.sent) ((λ i. split1 i ++ tolds_stay (ap (asked_in net d0) is_told) i ++ leasts_still (ap marks_in is_told) i
        ++ fates_stay (ap least_in is_told) i)
        ∙ shape_runs (flat_map r0 a.before) (r1 e) (flat_map r0 a.behind) (tolds net d0) (leasts net d0) (fates net d0))
        ∙ add_middle net is w.sent (flat_map r0 a.before) (r1 e) (flat_map r0 a.behind ++ tolds net d0 ++ leasts net d0 ++ fates net d0)
        (first_part (flat_map r0 a.before) (r0 e) (flat_map r0 a.behind) old) run_once run_new
        (All-append (Contains w.sent) _ _
        (All-append (Contains w.sent) _ _
        (All-append (Contains w.sent) _ _ (last_part (flat_map r0 a.before ++ r0 e) (flat_map r0 a.behind) old) old_tolds) old_leasts) old_fates)

  of_own : (f : ℕ × Q → List (Message K V)) → of_request net d0 f m.tid ≡ f e
  of_own f = ap (λ r. elim r [ None ↦ [] | Some q ↦ f (m.tid, q) ]) stands

  news_case : (content : Content K V) → m.content ≡ content → News (news_by net d0 m content)
  news_case (Ask k) same = asked k same
  news_case (Told k row) same = told_news k row same ∙ ap (λ l. w.sent ++ l) (sym (of_own (run_due net d1)))
  news_case (Marks sets) same = marked sets same
  news_case (Least holders) same = held holders same ∙ ap (λ l. w.sent ++ l) (sym (of_own (fate_due net d1)))
  news_case (Fate verdict) same = fated verdict same

  -- what the node then sends are the news
  pub news_are : News (news net d0 m)
  news_are = news_case m.content refl
