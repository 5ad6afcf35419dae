-- Each message is sent once, and is one of those that its batch may cause.
use Rattle.std.proofs.Common.{◌≡◌, ℕ, zero, suc, ◌+◌, ◌-◌, ◌<◌, ◌≤◌, ◌*◌, ◌⊎◌, inl, inr, ⊎_elim, List, [], ◌∷◌, ◌++◌, map, length, take, true, false, Some}
use Rattle.std.proofs.Common.{None, Option, refl, sym, ap, ◌∙◌, subst, Ordering, arith, Contains}
use Rattle.std.specs.Prelude.{slice_get, ◌||◌, if◌then◌else◌}
use Rattle.std.specs.List.{range_with_len, enumerate_from}
use Rattle.std.specs.Ordering.{eq_by_cmp}
use Rattle.std.specs.FinMap as fin
use Rattle.std.specs.FinMap.{FinMap}
use Rattle.std.proofs.lemmas.Bool.{or_left, or_right, false≢true}
use Rattle.std.proofs.lemmas.List.{length-append, length-map}
use Rattle.std.proofs.lemmas.List.Elements.{All-contains, Contains-append_left, Contains-append_right, Contains-push_cases}
use Rattle.batch_rules.specs.Touches.{is_among}
use Rattle.batch_rules.specs.Trees.{trace_of}
use Rattle.batch_rules.proofs.Maps.{same_key}
use Rattle.node_rules.specs.Messages.{Content, Ask, Told, Marks, Least, Fate, Message}
use Rattle.node_rules.specs.Nets.{Net, IsNet, owner, all_nodes}
use Rattle.node_rules.specs.Dues.{by_sets, holders_on, due, is_over}
use Rattle.node_rules.specs.Worlds.{Node, World, NetEvent, Start, Deliver, is_in, with_new, with_all_new, desk_of, send, complete, turns, turn, turn_all}
use Rattle.node_rules.specs.Worlds.{keep, deliver, step, deliver_each}
use Rattle.node_rules.specs.Truths.{Course, course, there, visited, Says, IsTrue, IsSent, Holds}
use Rattle.node_rules.specs.Counts.{NoneTwice, touched, caused, messages, all_messages}
use Rattle.node_rules.proofs.Picks.{has_cases, has_head, has_behind, has_number}
use Rattle.node_rules.proofs.Members.{flat_has, enumerate_has}
use Rattle.node_rules.proofs.Fated.{has_map}

-- ---- lists without repetition

module _ {X : Type 0} where
  pub once_push : (xs : List X) (x : X) → NoneTwice xs → (Contains xs x → ⊥) → NoneTwice (xs ++ x ∷ [])
  once_push [] x once off = (λ c. let lt = c.1 in absurd (omega arith), tt)
  once_push (y ∷ ys) x once off = (
    λ c. ⊎_elim (λ here. once.0 here) (λ last. off (subst (Contains (y ∷ ys)) (sym last) (has_head y ys))) (Contains-push_cases ys x y c),
    once_push ys x once.1 (λ c. off (has_behind y ys x c)),
  )

  -- a list around one of its items
  pub around : (xs : List X) (x : X) → Contains xs x → (us : List X) × ((vs : List X) × (xs ≡ us ++ x ∷ vs))
  around [] x c = absurd (let lt = c.1 in omega arith)
  around (y ∷ ys) x (zero, lt, e) = ([], (ys, λ i. e i ∷ ys))
  around (y ∷ ys) x (suc k, lt, e) = let rest = around ys x (k, omega arith, e) in (y ∷ rest.0, (rest.1.0, λ i. y ∷ rest.1.1 i))

  pub without : (us : List X) (x : X) (vs : List X) (y : X) → Contains (us ++ x ∷ vs) y → (x ≡ y) ⊎ Contains (us ++ vs) y
  without [] x vs y c = has_cases x vs y c
  without (u ∷ us) x vs y c = ⊎_elim
      (λ same. inr (subst (Contains (u ∷ us ++ vs)) same (has_head u (us ++ vs))))
      (λ rest. ⊎_elim (λ here. inl here) (λ there. inr (has_behind u (us ++ vs) y there)) (without us x vs y rest))
      (has_cases u (us ++ x ∷ vs) y c)

  -- each item of the first once, and each among the second: the first is no longer
  pub no_longer : (xs ys : List X) → NoneTwice xs → ((x : X) → Contains xs x → Contains ys x) → length xs ≤ length ys
  no_longer [] ys once f = omega arith
  no_longer (x ∷ xs) ys once f =
      let s = around ys x (f x (has_head x xs)) in
      let us = s.0 in
      let vs = s.1.0 in
      let fewer : length xs ≤ length (us ++ vs) = no_longer xs (us ++ vs) once.1 (λ y c. ⊎_elim
      (λ same. absurd (once.0 (subst (Contains xs) (sym same) c)))
      (λ rest. rest)
      (without us x vs y (subst (λ l. Contains l y) s.1.1 (f y (has_behind x xs y c))))) in
      let a = length-append us vs in
      let b = ap length s.1.1 ∙ length-append us (x ∷ vs) in
      omega arith

module _ {K V Q A : Type 0} {R : K → K → Ordering} (net : Net R V Q A) (is : IsNet net) where
  pub has-is_in : (ms : List (Message K V)) (m : Message K V) → Contains ms m → is_in net ms m ≡ true
  has-is_in [] m c = absurd (let lt = c.1 in omega arith)
  has-is_in (x ∷ xs) m c = ⊎_elim
      (λ same. or_left _ _ ((is.same m x).1 (sym same)))
      (λ rest. or_right _ _ (has-is_in xs m rest))
      (has_cases x xs m c)

  once_one : (ms : List (Message K V)) (m : Message K V) → NoneTwice ms → NoneTwice (with_new net ms m)
  once_one ms m once = elim (is_in net ms m) as (λ b. is_in net ms m ≡ b → NoneTwice (if b then ms else ms ++ m ∷ [])) [
    | true ↦ λ t. once
    | false ↦ λ t. once_push ms m once (λ c. false≢true (sym t ∙ has-is_in ms m c))
  ] refl

  once_all : (ms ns : List (Message K V)) → NoneTwice ms → NoneTwice (with_all_new net ms ns)
  once_all ms [] once = once
  once_all ms (n ∷ ns) once = once_all (with_new net ms n) ns (once_one ms n once)

  turns_once : (most : ℕ) (w : World R V Q A) (n : ℕ) → NoneTwice w.sent → NoneTwice (turns net most w n).sent
  turns_once zero w n once = once
  turns_once (suc most) w n once =
      let sent = once_all w.sent (due net (desk_of net w n)) once in
      elim (is_over net (desk_of net w n)) as (λ b. NoneTwice (if b then turns net most (complete net (send net w n) n) n else send net w n).sent) [
        | true ↦ turns_once most (complete net (send net w n) n) n sent
        | false ↦ sent
      ]

  turn_all_once : (ns : List ℕ) (w : World R V Q A) → NoneTwice w.sent → NoneTwice (turn_all net w ns).sent
  turn_all_once [] w once = once
  turn_all_once (n ∷ ns) w once = turn_all_once ns (turn net w n) (turns_once _ w n once)

  deliver_once : (w : World R V Q A) (r : Option (Message K V)) → NoneTwice w.sent → NoneTwice (deliver net w r).sent
  deliver_once w None once = once
  deliver_once w (Some m) once = turns_once _ (keep net w m) m.addressee once

  pub step_once : (w : World R V Q A) (e : NetEvent Q) → NoneTwice w.sent → NoneTwice (step net w e).sent
  step_once w (Start new) once = turn_all_once (all_nodes net) _ once
  step_once w (Deliver k) once = deliver_once w (slice_get w.sent k) once

  pub each_once : (ks : List ℕ) (w : World R V Q A) → NoneTwice w.sent → NoneTwice (deliver_each net w ks).sent
  each_once [] w once = once
  each_once (k ∷ ks) w once = each_once ks (step net w (Deliver k)) (step_once w (Deliver k) once)

  -- ---- the messages of a batch

  among_has : (keys : List K) (k : K) → is_among R keys k ≡ true → Contains keys k
  among_has [] k e = cc
  among_has (x ∷ xs) k e = elim (eq_by_cmp R k x) as (λ b. eq_by_cmp R k x ≡ b → (b || is_among R xs k) ≡ true → Contains (x ∷ xs) k) [
    | true ↦ λ t e. subst (Contains (x ∷ xs)) (sym (same_key is.antisymmetric k x t)) (has_head x xs)
    | false ↦ λ t e. has_behind x xs k (among_has xs k e)
  ] refl e

  module _ (c : Course R V Q) (batch tid : ℕ) (q : Q) where
    abbrev a : List (Message K V)
    a = map (λ k. record { batch = batch; tid = tid; sender = owner net tid; addressee = net.home k; content = Ask k }) (touched net c batch q)

    abbrev b : List (Message K V)
    b = map (λ k. record { batch = batch; tid = tid; sender = net.home k; addressee = owner net tid; content = Told k (fin.get c.rows k) })
        (touched net c batch q)

    abbrev d : List (Message K V)
    d = map (λ n. record { batch = batch; tid = tid; sender = owner net tid; addressee = n; content = Marks (there net c.rows n q) }) (all_nodes net)

    caused_by : (from to : ℕ) (content : Content K V) → from < net.nodes → to < net.nodes → Says net c tid q from to content
        → Contains (caused net c batch (tid, q)) (record { batch = batch; tid = tid; sender = from; addressee = to; content = content })
    caused_by from to (Ask k) flt tlt s =
        subst (Contains (caused net c batch (tid, q)))
        (λ i. record { batch = batch; tid = tid; sender = sym s.0 i; addressee = sym s.1 i; content = Ask k })
        (Contains-append_left _ _ _ (Contains-append_left _ _ _ (Contains-append_left _ _ _ (Contains-append_left a b _
        (has_map (λ k. record { batch = batch; tid = tid; sender = owner net tid; addressee = net.home k; content = Ask k }) (touched net c batch q) k
        (among_has _ k s.2))))))
    caused_by from to (Told k row) flt tlt s =
        subst (Contains (caused net c batch (tid, q)))
        (λ i. record { batch = batch; tid = tid; sender = sym s.0 i; addressee = sym s.1 i; content = Told k (sym s.3 i) })
        (Contains-append_left _ _ _ (Contains-append_left _ _ _ (Contains-append_left _ _ _ (Contains-append_right a b _
        (has_map (λ k. record { batch = batch; tid = tid; sender = net.home k; addressee = owner net tid; content = Told k (fin.get c.rows k) })
        (touched net c batch q) k (among_has _ k s.2))))))
    caused_by from to (Marks sets) flt tlt s =
        subst (Contains (caused net c batch (tid, q)))
        (λ i. record { batch = batch; tid = tid; sender = sym s.0 i; addressee = to; content = Marks (sym s.1 i) })
        (Contains-append_left _ _ _ (Contains-append_left _ _ _ (Contains-append_right (a ++ b) d _
        (has_map (λ n. record { batch = batch; tid = tid; sender = owner net tid; addressee = n; content = Marks (there net c.rows n q) })
        (all_nodes net) to (has_number 0 net.nodes to (omega arith) (omega arith))))))
    caused_by from to (Least holders) flt tlt s =
        subst (Contains (caused net c batch (tid, q)))
        (λ i. record { batch = batch; tid = tid; sender = from; addressee = sym s.0 i; content = Least (sym s.1 i) })
        (Contains-append_left _ _ _ (Contains-append_right (a ++ b ++ d) _ _
        (has_map (λ n. record {
          batch = batch;
          tid = tid;
          sender = n;
          addressee = owner net tid;
          content =
              Least (holders_on (by_sets R) (map (there net c.rows n) (take (tid - 1) c.list)) (there net c.rows n q));
        }) (all_nodes net) from
        (has_number 0 net.nodes from (omega arith) (omega arith)))))
    caused_by from to (Fate verdict) flt tlt s =
        subst (Contains (caused net c batch (tid, q)))
        (λ i. record { batch = batch; tid = tid; sender = sym s.0 i; addressee = to; content = Fate (sym s.1 i) })
        (Contains-append_right _ _ _
        (has_map (λ n. record { batch = batch; tid = tid; sender = owner net tid; addressee = n; content = Fate _ }) (all_nodes net) to
        (has_number 0 net.nodes to (omega arith) (omega arith))))

  module _ (begun : FinMap R V) where
    true_among : (c : Course R V Q) (m : Message K V) → IsTrue net c m → Contains (messages net c m.batch) m
    true_among c m t = flat_has (caused net c m.batch) (enumerate_from 1 c.list) (m.tid, t.request) m
        (enumerate_has 1 c.list m.tid t.request t.tid t.stands)
        (caused_by c m.batch m.tid t.request m.sender m.addressee m.content t.sender t.addressee t.says)

    pub sent_among : (started : List (List Q)) (node : ℕ → Node R V Q A) (m : Message K V) → IsSent net begun started node m
        → Contains (all_messages net begun started) m
    sent_among started node m s =
        let low = s.low in
        let high = s.high in
        let place : m.batch ≡ m.batch - 1 + 1 = omega arith in
        flat_has (λ d. messages net (course net begun started d) (d + 1)) (range_with_len 0 (length started)) (m.batch - 1) m
        (has_number 0 (length started) (m.batch - 1) (omega arith) (omega arith))
        (subst (λ b. Contains (messages net (course net begun started (m.batch - 1)) b) m) place
        (true_among (course net begun started (m.batch - 1)) m s.is))

    -- no more are sent than the batches may cause
    pub bounded : (w : World R V Q A) → Holds net begun w → NoneTwice w.sent → length w.sent ≤ length (all_messages net begun w.started)
    bounded w h once = no_longer w.sent (all_messages net begun w.started) once
        (λ m c. sent_among w.started w.node m (All-contains (IsSent net begun w.started w.node) w.sent m h.sent c))

-- a request causes two messages for each access, and three for each node
pub range_count : (a n : ℕ) → length (range_with_len a n) ≡ n
range_count a zero = refl
range_count a (suc n) = ap suc (range_count (a + 1) n)

five_long : {X : Type 0} (a b c d e : List X) (t n : ℕ) → length a ≡ t → length b ≡ t → length c ≡ n → length d ≡ n → length e ≡ n
    → length (a ++ b ++ c ++ d ++ e) ≡ 2 * t + 3 * n
five_long a b c d e t n ea eb ec ed ee =
    let one = length-append a b in
    let two = length-append (a ++ b) c in
    let three = length-append (a ++ b ++ c) d in
    let four = length-append (a ++ b ++ c ++ d) e in
    omega arith

pub caused_count : {K V Q A : Type 0} {R : K → K → Ordering} (net : Net R V Q A) (c : Course R V Q) (batch : ℕ) (e : ℕ × Q)
    → length (caused net c batch e) ≡ 2 * length (trace_of (net.tree e.1) c.rows) + 3 * net.nodes
caused_count net c batch e =
    let n = range_count 0 net.nodes in
    let t = length-map (trace_of (net.tree e.1) c.rows) visited in
    five_long _ _ _ _ _ (length (trace_of (net.tree e.1) c.rows)) net.nodes
    (length-map (touched net c batch e.1) _ ∙ t) (length-map (touched net c batch e.1) _ ∙ t) (length-map (all_nodes net) _ ∙ n)
    (length-map (all_nodes net) _ ∙ n) (length-map (all_nodes net) _ ∙ n)
