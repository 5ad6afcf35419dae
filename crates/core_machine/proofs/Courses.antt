-- Every batch has a legal list of events that settles: the law of the machine is not empty.
use Rattle.std.proofs.Common.{◌≡◌, ◌≢◌, ℕ, zero, suc, ◌+◌, ◌-◌, ◌<◌, ◌≤◌, ◌⊎◌, ◌↔◌, inl, inr, ⊎_elim, List, [], ◌∷◌, ◌++◌, length, Bool, true, false, Some, None, Option, refl, sym, ap, ◌∙◌, subst, Ordering, arith, Contains}
use Rattle.std.specs.Prelude.{slice_get}
use Rattle.std.proofs.lemmas.Bool.{cases_eq, cases_lt, false≢true}
use Rattle.batch_rules.specs.declared.verdicts.Rule.{Rule}
use Rattle.batch_rules.specs.Verdicts.{finishes}
use Rattle.batch_rules.specs.Batches.{Carrier, Judged, judged, touching, written}
use Rattle.core_machine.specs.declared.events.Event.{Event}
use Rattle.core_machine.specs.declared.events.Event.TheVariants.{Execute, MarkRead, MarkWrite, Decide, Install, Turn}
use Rattle.core_machine.specs.Events.{SoFar, at_first, phase_of, tid_in, place_in, turned, along, all_along, IsSettled, Stands, Asked, IsDue, IsLegal}
use Rattle.core_machine.proofs.Listed.{get_below}
use Rattle.core_machine.proofs.Keeps.{came_cases, came_now, came_before}

-- ---- whether an event came

abbrev kind_of : Event → ℕ
kind_of (Execute i) = 0
kind_of (MarkRead i p) = 1
kind_of (MarkWrite i p) = 2
kind_of (Decide i) = 3
kind_of (Install i p) = 4
kind_of Turn = 5

abbrev event_of : ℕ → ℕ → ℕ → Event
event_of zero i p = Execute i
event_of (suc zero) i p = MarkRead i p
event_of (suc (suc zero)) i p = MarkWrite i p
event_of (suc (suc (suc zero))) i p = Decide i
event_of (suc (suc (suc (suc zero)))) i p = Install i p
event_of n i p = Turn

event_again : (e : Event) → event_of (kind_of e) (tid_in e) (place_in e) ≡ e
event_again (Execute i) = refl
event_again (MarkRead i p) = refl
event_again (MarkWrite i p) = refl
event_again (Decide i) = refl
event_again (Install i p) = refl
event_again Turn = refl

same_or_not : (a b : Event) → (a ≡ b) ⊎ (a ≢ b)
same_or_not a b = ⊎_elim
    (λ k. ⊎_elim
    (λ t. ⊎_elim
    (λ p. inl (sym (event_again a) ∙ (λ i. event_of (k i) (t i) (p i)) ∙ event_again b))
    (λ off. inr (λ e. off (ap place_in e)))
    (cases_eq (place_in a) (place_in b)))
    (λ off. inr (λ e. off (ap tid_in e)))
    (cases_eq (tid_in a) (tid_in b)))
    (λ off. inr (λ e. off (ap kind_of e)))
    (cases_eq (kind_of a) (kind_of b))

came_or_not : (x : Event) (es : List Event) → Contains es x ⊎ (¬ Contains es x)
came_or_not x [] = inr (λ c. let lt = c.1 in omega arith)
came_or_not x (e ∷ es) = ⊎_elim
    (λ same. inl (subst (Contains (e ∷ es)) same (came_now e es)))
    (λ off. ⊎_elim (λ c. inl (came_before e x es c)) (λ new. inr (λ c. ⊎_elim off new (came_cases e x es c))) (came_or_not x es))
    (same_or_not e x)

-- ---- a finite list that has all events of a batch

abbrev Among : Event → List Event → Type 0
Among e [] = ⊥
Among e (c ∷ cs) = (c ≡ e) ⊎ Among e cs

abbrev events_of : ℕ → ℕ → List Event
events_of i zero = Execute i ∷ Decide i ∷ []
events_of i (suc b) = MarkRead i b ∷ MarkWrite i b ∷ Install i b ∷ events_of i b

abbrev box : ℕ → ℕ → List Event
box zero b = []
box (suc n) b = events_of (suc n) b ++ box n b

among_left : (e : Event) (xs ys : List Event) → Among e xs → Among e (xs ++ ys)
among_left e [] ys h = absurd h
among_left e (x ∷ xs) ys h = ⊎_elim (λ s. inl s) (λ r. inr (among_left e xs ys r)) h

among_right : (e : Event) (xs ys : List Event) → Among e ys → Among e (xs ++ ys)
among_right e [] ys h = h
among_right e (x ∷ xs) ys h = inr (among_right e xs ys h)

in_first : (i b : ℕ) → Among (Execute i) (events_of i b)
in_first i zero = inl refl
in_first i (suc b) = inr (inr (inr (in_first i b)))

in_decide : (i b : ℕ) → Among (Decide i) (events_of i b)
in_decide i zero = inr (inl refl)
in_decide i (suc b) = inr (inr (inr (in_decide i b)))

in_read : (i p b : ℕ) → p < b → Among (MarkRead i p) (events_of i b)
in_read i p zero lt = absurd (omega arith)
in_read i p (suc b) lt = ⊎_elim
    (λ below. inr (inr (inr (in_read i p b below))))
    (λ ge. let e : b ≡ p = omega arith in inl (ap (MarkRead i) e))
    (cases_lt p b)

in_write : (i p b : ℕ) → p < b → Among (MarkWrite i p) (events_of i b)
in_write i p zero lt = absurd (omega arith)
in_write i p (suc b) lt = ⊎_elim
    (λ below. inr (inr (inr (in_write i p b below))))
    (λ ge. let e : b ≡ p = omega arith in inr (inl (ap (MarkWrite i) e)))
    (cases_lt p b)

in_install : (i p b : ℕ) → p < b → Among (Install i p) (events_of i b)
in_install i p zero lt = absurd (omega arith)
in_install i p (suc b) lt = ⊎_elim
    (λ below. inr (inr (inr (in_install i p b below))))
    (λ ge. let e : b ≡ p = omega arith in inr (inr (inl (ap (Install i) e))))
    (cases_lt p b)

in_box : (e : Event) (i n b : ℕ) → 1 ≤ i → i ≤ n → Among e (events_of i b) → Among e (box n b)
in_box e i zero b low high h = absurd (omega arith)
in_box e i (suc n) b low high h = ⊎_elim
    (λ same. among_left e (events_of (suc n) b) (box n b) (subst (λ i. Among e (events_of i b)) same h))
    (λ off. among_right e (events_of (suc n) b) (box n b) (in_box e i n b low (omega arith) h))
    (cases_eq i (suc n))

module _ {K V A O : Type 0} (R : K → K → Ordering) (by : Carrier K V A O) (rule : Rule) (list : List O) where
  abbrev stands : ℕ → Judged O → Type 0
  stands = Stands R by rule list

  abbrev asked : Event → Type 0
  asked = Asked R by rule list

  abbrev ds : List (Judged O)
  ds = judged (touching by R) rule [] list

  get_cases : {X : Type 0} (r : Option X) → ((x : X) × (r ≡ Some x)) ⊎ (r ≡ None)
  get_cases None = inr refl
  get_cases (Some x) = inl (x, refl)

  pub stands_or_not : (i : ℕ) → ((d : Judged O) × stands i d) ⊎ ((d : Judged O) → ¬ stands i d)
  stands_or_not i = ⊎_elim
      (λ low. inr (λ d s. let le = s.0 in omega arith))
      (λ high. ⊎_elim (λ d. inl (d.0, (high, d.1))) (λ none. inr (λ d s. let e : None ≡ Some d = sym none ∙ s.1 in cc)) (get_cases (slice_get ds (i - 1))))
      (cases_lt i 1)

  one : (i : ℕ) (d e : Judged O) → stands i d → stands i e → d ≡ e
  one i d e s t = let same : Some d ≡ Some e = sym s.1 ∙ t.1 in cc

  bool_cases : (b : Bool) → (b ≡ true) ⊎ (b ≡ false)
  bool_cases true = inl refl
  bool_cases false = inr refl

  asked_or_not : (e : Event) → asked e ⊎ (¬ asked e)
  asked_or_not (Execute i) = ⊎_elim (λ s. inl s) (λ no_one. inr (λ a. no_one a.0 a.1)) (stands_or_not i)
  asked_or_not (Decide i) = ⊎_elim (λ s. inl s) (λ no_one. inr (λ a. no_one a.0 a.1)) (stands_or_not i)
  asked_or_not (MarkRead i p) = ⊎_elim
      (λ s. ⊎_elim
      (λ k. inl (s.0, s.1, k))
      (λ none. inr (λ a. let same : s.0 ≡ a.0 = one i s.0 a.0 s.1 a.1 in let e : None ≡ Some a.2.0 = sym none
      ∙ ap (λ (d : Judged O). slice_get (by.reads d.request) p) same ∙ a.2.1 in cc))
      (get_cases (slice_get (by.reads s.0.request) p)))
      (λ no_one. inr (λ a. no_one a.0 a.1))
      (stands_or_not i)
  asked_or_not (MarkWrite i p) = ⊎_elim
      (λ s. ⊎_elim
      (λ k. inl (s.0, s.1, k))
      (λ none. inr (λ a. let same : s.0 ≡ a.0 = one i s.0 a.0 s.1 a.1 in let e : None ≡ Some a.2.0 = sym none
      ∙ ap (λ (d : Judged O). slice_get (written by d.request) p) same ∙ a.2.1 in cc))
      (get_cases (slice_get (written by s.0.request) p)))
      (λ no_one. inr (λ a. no_one a.0 a.1))
      (stands_or_not i)
  asked_or_not (Install i p) = ⊎_elim
      (λ s. ⊎_elim
      (λ k. ⊎_elim
      (λ f. inl (s.0, s.1, f, k))
      (λ f. inr (λ a. let same : s.0 ≡ a.0 = one i s.0 a.0 s.1 a.1 in false≢true (sym f ∙ ap (λ (d : Judged O). finishes d.verdict) same ∙ a.2)))
      (bool_cases (finishes s.0.verdict)))
      (λ none. inr (λ a. let same : s.0 ≡ a.0 = one i s.0 a.0 s.1 a.1 in let e : None ≡ Some a.3.0 = sym none
      ∙ ap (λ (d : Judged O). slice_get (by.rows d.request) p) same ∙ a.3.1 in cc))
      (get_cases (slice_get (by.rows s.0.request) p)))
      (λ no_one. inr (λ a. no_one a.0 a.1))
      (stands_or_not i)
  asked_or_not Turn = inr (λ a. a)

  due_of : (so : SoFar) (e : Event) → phase_of e ≡ so.phase → asked e → ¬ Contains so.came e → IsDue R by rule list so e
  due_of so (Execute i) at a new = (at, a, new)
  due_of so (MarkRead i p) at a new = (at, a, new)
  due_of so (MarkWrite i p) at a new = (at, a, new)
  due_of so (Decide i) at a new = (at, a, new)
  due_of so (Install i p) at a new = (at, a, new)
  due_of so Turn at a new = absurd a

  no_turn : (n : ℕ) (e : Event) → asked e → turned n e ≡ n
  no_turn n (Execute i) a = refl
  no_turn n (MarkRead i p) a = refl
  no_turn n (MarkWrite i p) a = refl
  no_turn n (Decide i) a = refl
  no_turn n (Install i p) a = refl
  no_turn n Turn a = absurd a

  record Filled (so : SoFar) (cs : List Event) : Type 0 where
    es : List Event
    legal : IsLegal R by rule list so es
    phase : (all_along so es).phase ≡ so.phase
    has : (e : Event) → Among e cs → phase_of e ≡ so.phase → asked e → Contains (all_along so es).came e
    more : (e : Event) → Contains so.came e → Contains (all_along so es).came e

  wanted : (so : SoFar) (e : Event) → (asked e × (phase_of e ≡ so.phase) × (¬ Contains so.came e)) ⊎ (asked e → phase_of e ≡ so.phase → Contains so.came e)
  wanted so e = ⊎_elim
      (λ a. ⊎_elim
      (λ at. ⊎_elim (λ c. inr (λ _ _. c)) (λ new. inl (a, at, new)) (came_or_not e so.came))
      (λ off. inr (λ _ at. absurd (off at)))
      (cases_eq (phase_of e) so.phase))
      (λ never. inr (λ a _. absurd (never a)))
      (asked_or_not e)

  fill : (so : SoFar) (cs : List Event) → Filled so cs
  fill so [] = record { es = []; legal = tt; phase = refl; has = λ e h at a. absurd h; more = λ e c. c }
  fill so (c ∷ cs) = ⊎_elim
      (λ w. let rest = fill (along so c) cs in let t = no_turn so.phase c w.0 in record {
        es = c ∷ rest.es;
        legal = (due_of so c w.1 w.0 w.2, rest.legal);
        phase = rest.phase ∙ t;
        has = λ e h at a. ⊎_elim (λ same. rest.more e (subst (Contains (c ∷ so.came)) same (came_now c so.came))) (λ among. rest.has e among (at ∙ sym t) a) h;
        more = λ e came. rest.more e (came_before c e so.came came);
      })
      (λ done. let rest = fill so cs in record {
        es = rest.es;
        legal = rest.legal;
        phase = rest.phase;
        has = λ e h at a. ⊎_elim (λ same. rest.more e (subst (λ x. asked x → phase_of x ≡ so.phase → Contains so.came x) same done a at))
            (λ among. rest.has e among at a) h;
        more = rest.more;
      })
      (wanted so c)

  pub along_append : (es fs : List Event) (so : SoFar) → all_along so (es ++ fs) ≡ all_along (all_along so es) fs
  along_append [] fs so = refl
  along_append (e ∷ es) fs so = along_append es fs (along so e)

  pub legal_append : (es fs : List Event) (so : SoFar) → IsLegal R by rule list so es → IsLegal R by rule list (all_along so es) fs
      → IsLegal R by rule list so (es ++ fs)
  legal_append [] fs so l m = m
  legal_append (e ∷ es) fs so l m = (l.0, legal_append es fs (along so e) l.1 m)

  abbrev bound : List (Judged O) → ℕ
  bound [] = 0
  bound (d ∷ rest) = length (by.reads d.request) + length (written by d.request) + length (by.rows d.request) + bound rest

  below_bound : (xs : List (Judged O)) (n : ℕ) (d : Judged O) → slice_get xs n ≡ Some d
      → length (by.reads d.request) + length (written by d.request) + length (by.rows d.request) ≤ bound xs
  below_bound [] n d e = cc
  below_bound (x ∷ xs) zero d e = let same : x ≡ d = cc in subst
      (λ (d : Judged O). length (by.reads d.request) + length (written by d.request) + length (by.rows d.request) ≤ bound (x ∷ xs)) same (omega arith)
  below_bound (x ∷ xs) (suc n) d e = let le = below_bound xs n d e in omega arith

  tid_within : (i : ℕ) (d : Judged O) → stands i d → i ≤ length ds
  tid_within i d s = let lt = get_below ds (i - 1) d s.1 in let low = s.0 in omega arith

  all_asked : (e : Event) → asked e → Among e (box (length ds) (bound ds))
  all_asked (Execute i) (d, s) = in_box (Execute i) i (length ds) (bound ds) s.0 (tid_within i d s) (in_first i (bound ds))
  all_asked (Decide i) (d, s) = in_box (Decide i) i (length ds) (bound ds) s.0 (tid_within i d s) (in_decide i (bound ds))
  all_asked (MarkRead i p) (d, s, (k, e)) = let lt = get_below (by.reads d.request) p k e in let le = below_bound ds (i - 1) d s.1 in
      in_box (MarkRead i p) i (length ds) (bound ds) s.0 (tid_within i d s) (in_read i p (bound ds) (omega arith))
  all_asked (MarkWrite i p) (d, s, (k, e)) = let lt = get_below (written by d.request) p k e in let le = below_bound ds (i - 1) d s.1 in
      in_box (MarkWrite i p) i (length ds) (bound ds) s.0 (tid_within i d s) (in_write i p (bound ds) (omega arith))
  all_asked (Install i p) (d, s, f, (w, e)) = let lt = get_below (by.rows d.request) p w e in let le = below_bound ds (i - 1) d s.1 in
      in_box (Install i p) i (length ds) (bound ds) s.0 (tid_within i d s) (in_install i p (bound ds) (omega arith))
  all_asked Turn a = absurd a

  one_phase : (so : SoFar) → so.phase < 4 → (es : List Event) × IsLegal R by rule list so es × ((all_along so es).phase ≡ so.phase + 1)
  one_phase so below =
      let f = fill so (box (length ds) (bound ds)) in
      let after : SoFar = all_along so f.es in
      let same = f.phase in (
        f.es ++ Turn ∷ [],
        legal_append f.es (Turn ∷ []) so f.legal ((omega arith, λ e at a. f.has e (all_asked e a) (at ∙ same) a), tt),
        ap (λ (s : SoFar). s.phase) (along_append f.es (Turn ∷ []) so) ∙ ap (λ n. n + 1) same,
      )

  phases : (n : ℕ) (so : SoFar) → so.phase + n ≡ 4 → (es : List Event) × IsLegal R by rule list so es × IsSettled (all_along so es)
  phases zero so e = ([], tt, omega (arith, e))
  phases (suc n) so e =
      let first = one_phase so (omega (arith, e)) in
      let up = first.2 in
      let rest = phases n (all_along so first.0) (omega (arith, e, up)) in
      (first.0 ++ rest.0, legal_append first.0 rest.0 so first.1 rest.1, ap (λ (s : SoFar). s.phase) (along_append first.0 rest.0 so) ∙ rest.2)

  pub settles : (es : List Event) × IsLegal R by rule list at_first es × IsSettled (all_along at_first es)
  settles = phases 4 at_first refl

  -- ---- a turn is due exactly where nothing else of its phase is, and it is always told whether an event is due

  abbrev due : SoFar → Event → Type 0
  due = IsDue R by rule list

  refutes : (so : SoFar) (e : Event) → phase_of e < 4 → (asked e → phase_of e ≡ so.phase → Contains so.came e) → ¬ due so e
  refutes so (Execute i) lt done now = now.2 (done now.1 now.0)
  refutes so (MarkRead i p) lt done now = now.2 (done now.1 now.0)
  refutes so (MarkWrite i p) lt done now = now.2 (done now.1 now.0)
  refutes so (Decide i) lt done now = now.2 (done now.1 now.0)
  refutes so (Install i p) lt done now = now.2 (done now.1 now.0)
  refutes so Turn lt done now = absurd (omega arith)

  pub turn_due : (so : SoFar) → due so Turn ↔ ((so.phase < 4) × ((e : Event) → phase_of e ≡ so.phase → ¬ due so e))
  turn_due so = (
    λ now. (now.0, λ e at. refutes so e (let lt = now.0 in omega arith) (λ a _. now.1 e at a)),
    λ h. (h.0, λ e at a. ⊎_elim (λ c. c) (λ new. absurd (h.1 e at (due_of so e at a new))) (came_or_not e so.came)),
  )

  done_or_not : (so : SoFar) (cs : List Event) → ((e : Event) → Among e cs → phase_of e ≡ so.phase → asked e → Contains so.came e)
      ⊎ ((e : Event) × asked e × (phase_of e ≡ so.phase) × (¬ Contains so.came e))
  done_or_not so [] = inl (λ e h at a. absurd h)
  done_or_not so (c ∷ cs) = ⊎_elim
      (λ w. inr (c, w.0, w.1, w.2))
      (λ done. ⊎_elim
      (λ rest. inl (λ e h at a. ⊎_elim (λ same. subst (λ x. asked x → phase_of x ≡ so.phase → Contains so.came x) same done a at)
      (λ among. rest e among at a) h))
      (λ due_one. inr due_one)
      (done_or_not so cs))
      (wanted so c)

  turn_or_not : (so : SoFar) → due so Turn ⊎ (¬ due so Turn)
  turn_or_not so = ⊎_elim
      (λ below. ⊎_elim
      (λ done. inl (below, λ e at a. done e (all_asked e a) at a))
      (λ left. inr (λ now. left.3 (now.1 left.0 left.2 left.1)))
      (done_or_not so (box (length ds) (bound ds))))
      (λ past. inr (λ now. let lt = now.0 in omega arith))
      (cases_lt so.phase 4)

  else_or_not : (so : SoFar) (e : Event) → phase_of e < 4 → due so e ⊎ (¬ due so e)
  else_or_not so e lt = ⊎_elim (λ w. inl (due_of so e w.1 w.0 w.2)) (λ done. inr (refutes so e lt done)) (wanted so e)

  pub due_or_not : (so : SoFar) (e : Event) → due so e ⊎ (¬ due so e)
  due_or_not so Turn = turn_or_not so
  due_or_not so (Execute i) = else_or_not so (Execute i) (omega arith)
  due_or_not so (MarkRead i p) = else_or_not so (MarkRead i p) (omega arith)
  due_or_not so (MarkWrite i p) = else_or_not so (MarkWrite i p) (omega arith)
  due_or_not so (Decide i) = else_or_not so (Decide i) (omega arith)
  due_or_not so (Install i p) = else_or_not so (Install i p) (omega arith)
