-- Where each node was given all that was sent to it of its current batch, no node is behind.
use Rattle.std.proofs.Common.{◌≡◌, ℕ, zero, suc, ◌+◌, ◌-◌, ◌<◌, ◌≤◌, ◌⊎◌, inl, inr, ⊎_elim, List, [], ◌∷◌, map, length, Bool, true, false, Some, None}
use Rattle.std.proofs.Common.{Option, refl, sym, ap, ◌∙◌, subst, Ordering, arith, Contains}
use Rattle.std.specs.Prelude.{slice_get, is_some, nat_lt, if◌then◌else◌}
use Rattle.std.specs.Ordering.{eq_by_cmp, is_eq}
use Rattle.std.specs.Cmp.{IsTotalOrder, tied_itself}
use Rattle.std.specs.FinMap as fin
use Rattle.std.specs.FinMap.{FinMap}
use Rattle.std.proofs.Math.Nat.{mod-lt}
use Rattle.std.proofs.lemmas.Bool.{cases_eq, cases_lt, eq-eqb, or_left, or_right, true≢false, ltb-true, ltb-false}
use Rattle.std.proofs.lemmas.List.Elements.{All-contains}
use Rattle.batch_rules.specs.Touches.{is_among, keys_of}
use Rattle.batch_rules.specs.Trees.{trace_of}
use Rattle.node_rules.specs.Messages.{Content, Ask, Told, Marks, Fate, Message, told_in, marks_in, least_in, fate_in, of_tid, of_node}
use Rattle.node_rules.specs.Nets.{Net, IsNet, owner, all_nodes, tids}
use Rattle.node_rules.specs.Dues.{Desk, message, own_requests, part_at, sets_on, told, told_rows, wanted, marks_due, run_due, told_due, marks_of, has_marks}
use Rattle.node_rules.specs.Dues.{least_due, holders_from, has_holders, verdict_here, fate_due, due, fate_of, is_over}
use Rattle.node_rules.specs.Worlds.{World, desk_of}
use Rattle.node_rules.specs.Truths.{course, Holds, AllRest, to_node, Fated}
use Rattle.node_rules.proofs.Picks.{has_cases, pick_has, list_all-from, in_range, get_above, get_below, has_number}
use Rattle.node_rules.proofs.Runs.{wanted_new}
use Rattle.node_rules.proofs.Given.{same_list}
use Rattle.node_rules.proofs.Members.{flat_has, mapped_has, own_has, due_run, due_told, due_least, due_fate}
use Rattle.node_rules.proofs.Fated.{has_map}

-- the node at which a count is least
pub least_at : (f : ℕ → ℕ) (n : ℕ) → 0 < n → (i : ℕ) × (i < n) × ((j : ℕ) → j < n → f i ≤ f j)
least_at f zero lt = absurd (omega arith)
least_at f (suc n) lt = ⊎_elim
    (λ none. (n, omega arith, λ j low. let same : n ≡ j = omega arith in subst (λ j. f n ≤ f j) same (omega arith)))
    (λ some.
    let r = least_at f n (omega arith) in
    let small = r.1 in
    ⊎_elim
    (λ less. (
      n,
      omega arith,
      λ j low. ⊎_elim (λ before. let le = r.2 j before in omega arith) (λ last. let same : n ≡ j = omega arith in
          subst (λ j. f n ≤ f j) same (omega arith)) (cases_lt j n),
    ))
    (λ more. (
      r.0,
      omega arith,
      λ j low. ⊎_elim (λ before. r.2 j before) (λ last. let same : n ≡ j = omega arith in subst (λ j. f r.0 ≤ f j) same more)
          (cases_lt j n),
    ))
    (cases_lt (f n) (f r.0)))
    (cases_eq n 0)

-- none passes, or one does
pub none_or_one : (p : ℕ → Bool) (n : ℕ) → ((j : ℕ) → j < n → p j ≡ false) ⊎ ((j : ℕ) × (j < n) × (p j ≡ true))
none_or_one p zero = inl (λ j lt. absurd (omega arith))
none_or_one p (suc n) = ⊎_elim
    (λ none. elim (p n) as (λ b. p n ≡ b → ((j : ℕ) → j < suc n → p j ≡ false) ⊎ ((j : ℕ) × (j < suc n) × (p j ≡ true))) [
      | true ↦ λ t. inr (n, omega arith, t)
      | false ↦ λ t. inl (λ j lt. ⊎_elim (λ before. none j before) (λ last. let same : n ≡ j = omega arith in subst (λ j. p j ≡ false) same t)
          (cases_lt j n))
    ] refl)
    (λ one. let lt = one.1 in inr (one.0, omega arith, one.2))
    (none_or_one p n)

pub has_among : {K V : Type 0} {R : K → K → Ordering} → IsTotalOrder R → (rows : List (K × V)) (row : K × V) → Contains rows row
    → is_among R (keys_of rows) row.0 ≡ true
has_among o [] row c = absurd (let lt = c.1 in omega arith)
has_among {R = R} o (x ∷ xs) row c = ⊎_elim
    (λ same. or_left _ _ (ap (λ x. eq_by_cmp R row.0 x.0) same ∙ ap is_eq (tied_itself o row.0)))
    (λ rest. or_right _ _ (has_among o xs row rest))
    (has_cases x xs row c)

module _ {K V : Type 0} {X : Type 0} where
  tid_has : (what : Content K V → Option X) (tid : ℕ) (m : Message K V) → m.tid ≡ tid → of_tid what tid m ≡ what m.content
  tid_has what tid m e = ap (λ b. if b then what m.content else None) (eq-eqb m.tid tid e)

  node_has : (what : Content K V → Option X) (tid node : ℕ) (m : Message K V) → m.sender ≡ node → m.tid ≡ tid → of_node what tid node m ≡ what m.content
  node_has what tid node m s e = ap (λ b. if b then of_tid what tid m else None) (eq-eqb m.sender node s) ∙ tid_has what tid m e

module _ {K V Q A : Type 0} {R : K → K → Ordering} (net : Net R V Q A) (is : IsNet net) (begun : FinMap R V)
    (v : World R V Q A) (h : Holds net begun v) (f : Fated net begun v) (rest : AllRest net v)
    (arrived : (m : Message K V) → Contains v.sent m → m.batch ≡ (v.node m.addressee).done + 1 → (v.node m.addressee).done < length v.started
    → Contains (v.node m.addressee).given m) where
  abbrev desk : ℕ → Desk R V Q
  desk i = desk_of net v i

  -- a node whose batch another one has completed has all its fates
  overtaken : (n i : ℕ) → n < net.nodes → i < net.nodes → (v.node n).done < (v.node i).done → (v.node n).done < length v.started
      → is_over net (desk n) ≡ true
  overtaken n i nlt ilt less behind =
      let long = ap length (same_list net is begun v h n nlt) in
      list_all-from (λ tid. is_some (fate_of net (desk n) tid)) (tids (desk n).list) (λ k d lt.
      let r = in_range 1 (length (desk n).list) k d lt in
      let high = r.1 in
      let was = f.past i ilt (v.node n).done less _ r.0 (omega arith) in
      let sent = All-contains (λ m. is_some (fate_in m.content) ≡ true → (n : ℕ) → n < net.nodes
      → Contains v.sent (to_node net m n)) v.sent was.fate f.spread was.among was.is_fate n nlt in
      let given = arrived (to_node net was.fate n) sent was.batch_is behind in
      pick_has (of_tid fate_in _) (v.node n).given (to_node net was.fate n) given (ap is_some (tid_has fate_in _ (to_node net was.fate n) was.tid_is)
      ∙ was.is_fate))

  module _ (n : ℕ) (nlt : n < net.nodes) (behind : (v.node n).done < length v.started) (level : (i : ℕ) → i < net.nodes
      → (v.node i).done ≡ (v.node n).done) where
    -- what is due at a node is given to its addressee
    arrives : (o : ℕ) → o < net.nodes → (m : Message K V) → Contains (due net (desk o)) m → m.batch ≡ (v.node o).done + 1 → m.addressee < net.nodes
        → Contains (v.node m.addressee).given m
    arrives o olt m c e alt =
        let a = level o olt in
        let b = level m.addressee alt in
        arrived m (All-contains (Contains v.sent) (due net (desk o)) m ((rest o olt).sent_all (omega arith)) c) (omega arith) (omega arith)

    lists : (i : ℕ) → i < net.nodes → (desk i).list ≡ (desk n).list
    lists i ilt = same_list net is begun v h i ilt ∙ ap (λ d. (course net begun v.started d).list) (level i ilt) ∙ sym (same_list net is begun v h n nlt)

    module _ (tid : ℕ) (q : Q) (low : 1 ≤ tid) (stands : slice_get (desk n).list (tid - 1) ≡ Some q) where
      abbrev o : ℕ
      o = owner net tid

      olt : o < net.nodes
      olt = mod-lt (tid - 1) is.some_node

      own : Contains (own_requests net (desk o)) (tid, q)
      own = own_has net (desk o) tid q low (subst (λ l. slice_get l (tid - 1) ≡ Some q) (sym (lists o olt)) stands) refl

      told_next : (k : K) → wanted net (desk o) tid q ≡ Some k → is_among R (keys_of (told net (desk o) tid)) k ≡ true
      told_next k t =
          let ask = message net (desk o) tid (net.home k) (Ask k) in
          let among : Contains (run_due net (desk o) (tid, q)) ask
          = subst (λ r. Contains (elim r [ None ↦ marks_due net (desk o) tid q | Some k ↦ message net (desk o) tid (net.home k) (Ask k) ∷ [] ]) ask)
          (sym t) (zero, omega arith, refl) in
          let asked = arrives o olt ask (due_run net (desk o) ask (flat_has (run_due net (desk o)) _ (tid, q) ask own among)) refl (is.home k) in
          let row = fin.get (v.node (net.home k)).rows k in
          let tells = message net (desk (net.home k)) tid o (Told k row) in
          let answered = arrives (net.home k) (is.home k) tells
          (due_told net (desk (net.home k)) tells (mapped_has (told_due net (desk (net.home k))) _ ask tells asked refl)) refl olt in
          has_among is.total (told net (desk o) tid) (k, row)
          (mapped_has (of_tid told_in tid) (v.node o).given tells (k, row) answered (tid_has told_in tid tells refl))

      -- the run was told all
      all_told : wanted net (desk o) tid q ≡ None
      all_told = elim (wanted net (desk o) tid q) as (λ r. wanted net (desk o) tid q ≡ r → r ≡ None) [
        | None ↦ λ t. refl
        | Some k ↦ λ t. absurd (true≢false (sym (told_next k t)
            ∙ wanted_new is.total (keys_of (told net (desk o) tid)) (trace_of (net.tree q) (told_rows net (desk o) tid)) k t))
      ] refl

      marks_arrive : (to : ℕ) → to < net.nodes → is_some (marks_of net (desk to) tid) ≡ true
      marks_arrive to tlt =
          let mark = message net (desk o) tid to (Marks (part_at net to (sets_on net (told_rows net (desk o) tid) q))) in
          let among : Contains (run_due net (desk o) (tid, q)) mark
          = subst (λ r. Contains (elim r [ None ↦ marks_due net (desk o) tid q | Some k ↦ message net (desk o) tid (net.home k) (Ask k) ∷ [] ]) mark)
          (sym all_told)
          (has_map (λ to. message net (desk o) tid to (Marks (part_at net to (sets_on net (told_rows net (desk o) tid) q)))) (all_nodes net) to
          (has_number 0 net.nodes to (omega arith) (omega arith))) in
          let given = arrives o olt mark (due_run net (desk o) mark (flat_has (run_due net (desk o)) _ (tid, q) mark own among)) refl tlt in
          pick_has (of_tid marks_in tid) (v.node to).given mark given (ap is_some (tid_has marks_in tid mark refl))

    request_on : (i : ℕ) → i < net.nodes → (tid : ℕ) → 1 ≤ tid → tid < 1 + length (desk i).list → (q : Q) × (slice_get (desk n).list (tid - 1) ≡ Some q)
    request_on i ilt tid low high = subst (λ l. (q : Q) × (slice_get l (tid - 1) ≡ Some q)) (lists i ilt) (get_above (desk i).list (tid - 1) (omega arith))

    mark_at : (i : ℕ) → i < net.nodes → (tid : ℕ) → 1 ≤ tid → tid < 1 + length (desk i).list → is_some (marks_of net (desk i) tid) ≡ true
    mark_at i ilt tid low high = let q = request_on i ilt tid low high in marks_arrive tid q.0 low q.1 i ilt

    all_marked : (i : ℕ) → i < net.nodes → has_marks net (desk i) ≡ true
    all_marked i ilt = list_all-from (λ tid. is_some (marks_of net (desk i) tid)) (tids (desk i).list) (λ k d lt. let r =
        in_range 1 (length (desk i).list) k d lt in mark_at i ilt _ r.0 r.1)

    module _ (tid : ℕ) (q : Q) (low : 1 ≤ tid) (stands : slice_get (desk n).list (tid - 1) ≡ Some q) where
      abbrev to : ℕ
      to = owner net tid

      to_lt : to < net.nodes
      to_lt = mod-lt (tid - 1) is.some_node

      least_arrives : (i : ℕ) → i < net.nodes → is_some (holders_from net (desk to) tid i) ≡ true
      least_arrives i ilt =
          let least = least_due net (desk i) tid in
          let long = ap length (lists i ilt) in
          let below = get_below (desk n).list (tid - 1) q stands in
          let among : Contains (if has_marks net (desk i) then map (least_due net (desk i)) (tids (desk i).list) else []) least
          = subst (λ b. Contains (if b then map (least_due net (desk i)) (tids (desk i).list) else []) least) (sym (all_marked i ilt))
          (has_map (least_due net (desk i)) (tids (desk i).list) tid (has_number 1 (length (desk i).list) tid low (omega arith))) in
          let given = arrives i ilt least (due_least net (desk i) least among) refl to_lt in
          pick_has (of_node least_in tid i) (v.node to).given least given (ap is_some (node_has least_in tid i least refl refl))

      all_holders : has_holders net (desk to) tid ≡ true
      all_holders = list_all-from (λ from. is_some (holders_from net (desk to) tid from)) (all_nodes net) (λ k d lt. let r =
          in_range 0 net.nodes k d lt in let high = r.1 in least_arrives _ (omega arith))

      fate_arrives : is_some (fate_of net (desk n) tid) ≡ true
      fate_arrives =
          let fate = message net (desk to) tid n (Fate (verdict_here net (desk to) tid)) in
          let own = own_has net (desk to) tid q low (subst (λ l. slice_get l (tid - 1) ≡ Some q) (sym (lists to to_lt)) stands) refl in
          let among : Contains (fate_due net (desk to) (tid, q)) fate
          = subst (λ b. Contains (if b then map (λ to'. message net (desk to) tid to' (Fate (verdict_here net (desk to) tid))) (all_nodes net) else [])
          fate) (sym all_holders)
          (has_map (λ to'. message net (desk to) tid to' (Fate (verdict_here net (desk to) tid))) (all_nodes net) n
          (has_number 0 net.nodes n (omega arith) (omega arith))) in
          let given = arrives to to_lt fate (due_fate net (desk to) fate (flat_has (fate_due net (desk to)) _ (tid, q) fate own among)) refl nlt in
          pick_has (of_tid fate_in tid) (v.node n).given fate given (ap is_some (tid_has fate_in tid fate refl))

    fate_at : (tid : ℕ) → 1 ≤ tid → tid < 1 + length (desk n).list → is_some (fate_of net (desk n) tid) ≡ true
    fate_at tid low high = let q = request_on n nlt tid low high in fate_arrives tid q.0 low q.1

    level_over : is_over net (desk n) ≡ true
    level_over = list_all-from (λ tid. is_some (fate_of net (desk n) tid)) (tids (desk n).list) (λ k d lt. let r =
        in_range 1 (length (desk n).list) k d lt in fate_at _ r.0 r.1)

  -- none is behind
  pub none_behind : (n : ℕ) → n < net.nodes → (v.node n).done < length v.started → ⊥
  none_behind n nlt behind =
      let least = least_at (λ i. (v.node i).done) net.nodes (omega arith) in
      let i = least.0 in
      let under = least.2 n nlt in
      let late : (v.node i).done < length v.started = omega arith in
      ⊎_elim
      (λ none. true≢false (sym (level_over i least.1 late (λ j jlt. let up = least.2 j jlt in let down =
      ltb-false (v.node i).done (v.node j).done (none j jlt) in omega arith)) ∙ (rest i least.1).not_over late))
      (λ one. true≢false (sym (overtaken i one.0 least.1 one.1 (ltb-true (v.node i).done (v.node one.0).done one.2) late) ∙ (rest i least.1).not_over late))
      (none_or_one (λ j. nat_lt (v.node i).done (v.node j).done) net.nodes)
