-- What holds of the machine after any legal list of events: a sentence over the set of those that have come.
use Rattle.std.proofs.Common.{◌≡◌, ◌≢◌, ℕ, zero, suc, ◌+◌, ◌-◌, ◌<◌, ◌≤◌, ◌⊎◌, inl, inr, ⊎_elim, min, List, [], ◌∷◌, length, take, Bool, true, false, cond, Some, None, Option, refl, sym, ap, ◌∙◌, subst, Ordering, arith, Contains}
use Rattle.std.specs.Prelude.{slice_get, ⊤, is_some}
use Rattle.std.specs.Option.{option_map}
use Rattle.std.specs.Ordering.{eq_by_cmp, is_eq}
use Rattle.std.specs.Cmp.{IsTotalOrder, tied_itself}
use Rattle.std.specs.List.{All}
use Rattle.std.specs.FinMap as fin
use Rattle.std.specs.FinMap.{FinMap, IsAntisymmetric, find, same_map}
use Rattle.std.proofs.lemmas.Bool.{cases_eq, cases_lt, eq-eqb, ne_eqb, false≢true}
use Rattle.std.proofs.lemmas.Option.{get_or_from_slice_get}
use Rattle.std.proofs.lemmas.List.Elements.{All-nil, All-cons}
use Rattle.aria_base.specs.Reserved.{number_under, tid_under}
use Rattle.aria_base.specs.declared.limits.TheConstants.{MOST_REQUESTS, TAG_SPAN}
use Rattle.batch_rules.specs.declared.verdicts.Rule.{Rule}
use Rattle.batch_rules.specs.declared.verdicts.Verdict.{Verdict}
use Rattle.batch_rules.specs.Trees.{Tree, set_at}
use Rattle.batch_rules.specs.Touches.{is_among}
use Rattle.batch_rules.specs.Verdicts.{finishes, meets, least, verdict_by}
use Rattle.batch_rules.specs.Batches.{Carrier, Judged, judged, touching, written, after_commit, on_start}
use Rattle.batch_rules.proofs.Maps.{same_key, get-set_at}
use Rattle.batch_rules.proofs.Meets.{meeting}
use Rattle.batch_rules.proofs.Writers.{after_commit_at}
use Rattle.core_machine.specs.declared.events.Event.{Event}
use Rattle.core_machine.specs.declared.events.Event.TheVariants.{Execute, MarkRead, MarkWrite, Decide, Install, Turn}
use Rattle.core_machine.specs.Events.{SoFar, at_first, phase_of, turned, along, all_along, Stands, Asked, IsDue, IsLegal}
use Rattle.core_machine.specs.Machines.{Held, put, and_then, installed, marked, least_told, decide, begun, step, steps, IsCommitted, AreFirst, Commits}
use Rattle.core_machine.proofs.Told.{LeastOf, one_least, word_tells, AtOne, least_of_keys}
use Rattle.core_machine.proofs.Listed.{judged_at, judged_has, take_get, get_take, get_below, among_at, at_among, Once, once_writes, found_at, at_found, Holder, least-holder}

-- an event that came is the last one or came before
pub came_cases : (e x : Event) (es : List Event) → Contains (e ∷ es) x → (e ≡ x) ⊎ Contains es x
came_cases e x es (zero, h, same) = inl same
came_cases e x es (suc n, h, same) = inr (n, omega arith, same)

pub came_now : (e : Event) (es : List Event) → Contains (e ∷ es) e
came_now e es = (zero, omega arith, refl)

pub came_before : (e x : Event) (es : List Event) → Contains es x → Contains (e ∷ es) x
came_before e x es (n, h, same) = (suc n, omega arith, same)

pub put_here : {X : Type 0} (f : ℕ → Option X) (i : ℕ) (x : Option X) → put f i x i ≡ x
put_here f i x = ap (λ b. cond b x (f i)) (eq-eqb i i refl)

pub put_else : {X : Type 0} (f : ℕ → Option X) (i j : ℕ) (x : Option X) → j ≢ i → put f i x j ≡ f j
put_else f i j x off = ap (λ b. cond b x (f j)) (ne_eqb j i off)

module _ {K : Type 0} {R : K → K → Ordering} (o : IsTotalOrder R) (anti : IsAntisymmetric R) (words : K → ℕ) (n : ℕ) where
  lowers : (k : K) (r : Option K) → r ≡ Some k → marked R words r n k ≤ n
  lowers k r e = subst (λ r. marked R words r n k ≤ n) (sym e)
      (subst (λ b. cond (is_eq b) (min (words k) n) (words k) ≤ n) (sym (tied_itself o k)) (omega arith))

  falls : (r : Option K) (q : K) → marked R words r n q ≤ words q
  falls None q = omega arith
  falls (Some k) q = elim (eq_by_cmp R q k) as (λ b. cond b (min (words q) n) (words q) ≤ words q) [ true ↦ omega arith | false ↦ omega arith ]

  -- a word stays or becomes the number that is marked at its key
  made : (k : K) (r : Option K) (q : K) → r ≡ Some k → (marked R words r n q ≡ words q) ⊎ ((k ≡ q) × (marked R words r n q ≡ n))
  made k r q e = subst (λ r. (marked R words r n q ≡ words q) ⊎ ((k ≡ q) × (marked R words r n q ≡ n))) (sym e)
      (elim (eq_by_cmp R q k) as (λ b. eq_by_cmp R q k ≡ b → (cond b (min (words q) n) (words q) ≡ words q)
      ⊎ ((k ≡ q) × (cond b (min (words q) n) (words q) ≡ n))) [
        | true ↦ λ t. ⊎_elim (λ lt. inl (omega arith)) (λ ge. inr (sym (same_key anti q k t), omega arith)) (cases_lt (words q) n)
        | false ↦ λ t. inl refl
      ] refl)

module _ {K V A O : Type 0} {R : K → K → Ordering} (o : IsTotalOrder R) (anti : IsAntisymmetric R) (by : Carrier K V A O) (rule : Rule) (tag : ℕ)
    (start : FinMap R V) (list : List O) (first : Bool → K → ℕ) where
  abbrev stands : ℕ → Judged O → Type 0
  stands = Stands R by rule list

  abbrev asked : Event → Type 0
  asked = Asked R by rule list

  abbrev due : SoFar → Event → Type 0
  due = IsDue R by rule list

  abbrev does : Held R V O → Event → Held R V O
  does = step by rule tag start list first

  abbrev target : FinMap R V
  target = after_commit by start (judged (touching by R) rule [] list)

  abbrev sets : Bool → O → List K
  sets true q = written by q
  sets false q = by.reads q

  abbrev words_on : Bool → Held R V O → K → ℕ
  words_on true h = h.writers
  words_on false h = h.readers

  -- the request of the TID touches the key, and so asks for a mark there
  abbrev pub Touches : Bool → K → ℕ → Type 0
  Touches writes k i = (d : Judged O) × stands i d × ((p : ℕ) × (slice_get (sets writes d.request) p ≡ Some k))

  -- what holds once an event has come
  abbrev pub Effect : Held R V O → Event → Type 0
  Effect h (Execute i) = (d : Judged O) → stands i d → h.outcomes i ≡ Some d.request
  Effect h (MarkRead i p) = (d : Judged O) (k : K) → stands i d → slice_get (by.reads d.request) p ≡ Some k → h.readers k ≤ number_under tag i
  Effect h (MarkWrite i p) = (d : Judged O) (k : K) → stands i d → slice_get (written by d.request) p ≡ Some k → h.writers k ≤ number_under tag i
  Effect h (Decide i) = (d : Judged O) → stands i d → h.verdicts i ≡ Some d.verdict
  Effect h (Install i p) = (d : Judged O) (w : K × Option V) → stands i d → finishes d.verdict ≡ true → slice_get (by.rows d.request) p ≡ Some w
      → fin.get h.map w.0 ≡ fin.get target w.0
  Effect h Turn = ⊤

  -- a word is the first one or the number of a TID that asks for a mark there
  abbrev MadeAt : Held R V O → Bool → K → Type 0
  MadeAt h writes k = (words_on writes h k ≡ first writes k) ⊎ ((i : ℕ) × Touches writes k i × (words_on writes h k ≡ number_under tag i))

  -- the invariant: nothing is said of what has not come
  pub record Keeps (so : SoFar) (h : Held R V O) : Type 0 where
    pub effects : (e : Event) → Contains so.came e → Effect h e
    pub past : (e : Event) → phase_of e < so.phase → asked e → Contains so.came e
    pub words : (writes : Bool) (k : K) → MadeAt h writes k
    pub rows : (k : K) → (fin.get h.map k ≡ fin.get start k) ⊎ (fin.get h.map k ≡ fin.get target k)

  one_stands : (i : ℕ) (d e : Judged O) → stands i d → stands i e → d ≡ e
  one_stands i d e s t = let same : Some d ≡ Some e = sym s.1 ∙ t.1 in cc

  pub known : (so : SoFar) (h : Held R V O) → Keeps so h → 0 < so.phase → (i : ℕ) (d : Judged O) → stands i d → h.outcomes i ≡ Some d.request
  known so h keeps late i d s = keeps.effects (Execute i) (keeps.past (Execute i) late (d, s)) d s

  -- ---- decisions

  pub all_marked : (so : SoFar) (h : Held R V O) → Keeps so h → 1 < so.phase → (writes : Bool) (k : K) (i : ℕ) → Touches writes k i
      → words_on writes h k ≤ number_under tag i
  all_marked so h keeps late true k i (d, s, (p, e)) = keeps.effects (MarkWrite i p) (keeps.past (MarkWrite i p) late (d, s, (k, e))) d k s e
  all_marked so h keeps late false k i (d, s, (p, e)) = keeps.effects (MarkRead i p) (keeps.past (MarkRead i p) late (d, s, (k, e))) d k s e

  at_one : (words : K → ℕ) (tid : ℕ) (P : K → ℕ → Type 0) (ks : List K) (i : ℕ) → AtOne tag words tid P ks i
      → (k : K) × ((p : ℕ) × ((slice_get ks p ≡ Some k) × (P k i × (i < tid))))
  at_one words tid P [] i h = absurd h
  at_one words tid P (k ∷ ks) i (inl h) = (k, (0, (refl, h)))
  at_one words tid P (k ∷ ks) i (inr h) = let rest = at_one words tid P ks i h in (rest.0, (suc rest.1.0, rest.1.1))

  one_at : (words : K → ℕ) (tid : ℕ) (P : K → ℕ → Type 0) (ks : List K) (i p : ℕ) (k : K) → slice_get ks p ≡ Some k → P k i → i < tid
      → AtOne tag words tid P ks i
  one_at words tid P [] i p k e h lt = cc
  one_at words tid P (x ∷ xs) i zero k e h lt = let same : k ≡ x = cc in inl (subst (λ k. P k i) same h, lt)
  one_at words tid P (x ∷ xs) i (suc p) k e h lt = inr (one_at words tid P xs i p k e h lt)

  module _ (few : length list ≤ MOST_REQUESTS) (above : AreFirst tag first) (once : (n : ℕ) (q : O) → slice_get list n ≡ Some q → Once o anti (by.rows q)) where
    small_tid : (writes : Bool) (k : K) (i : ℕ) → Touches writes k i → i < TAG_SPAN
    small_tid writes k i (d, s, rest) = let lt = get_below list (i - 1) d.request (judged_at (touching by R) rule [] list (i - 1) d s.1).0 in let low = s.0 in
        omega arith

    abbrev holds : Bool → Bool → O → O → Bool
    holds mine theirs q other = meets R (sets mine q) (sets theirs other)

    to_holder : (tid : ℕ) (d : Judged O) (mine theirs : Bool) → stands tid d → (i : ℕ)
        → ((k : K) × ((p : ℕ) × ((slice_get (sets mine d.request) p ≡ Some k) × (Touches theirs k i × (i < tid)))))
        → Holder (holds mine theirs d.request) (take (tid - 1) list) i
    to_holder tid d mine theirs s i (k, (p, (e, ((c, t, (n, f)), lt)))) =
        let low = t.0 in (
          t.0,
          (
            c.request,
            take_get list (tid - 1) (i - 1) c.request (omega arith) (judged_at (touching by R) rule [] list (i - 1) c t.1).0,
            (meeting o anti (sets mine d.request) (sets theirs c.request)).1
                (k, among_at o anti (sets mine d.request) p k e, among_at o anti (sets theirs c.request) n k f),
          ),
        )

    from_holder : (words : K → ℕ) (tid : ℕ) (d : Judged O) (mine theirs : Bool) → stands tid d → (i : ℕ)
        → Holder (holds mine theirs d.request) (take (tid - 1) list) i → AtOne tag words tid (Touches theirs) (sets mine d.request) i
    from_holder words tid d mine theirs s i (low, (q, e, m)) =
        let within = get_take list (tid - 1) (i - 1) q e in
        let lt = within.0 in
        let has = judged_has (touching by R) rule [] list (i - 1) q within.1 in
        let common = (meeting o anti (sets mine d.request) (sets theirs q)).0 m in
        let here = at_among o anti (sets mine d.request) common.0 common.1 in
        let there = at_among o anti (sets theirs q) common.0 common.2 in
        one_at words tid (Touches theirs) (sets mine d.request) i here.0 common.0 here.1
        (has.0, (low, has.1), (there.0, ap (λ q. slice_get (sets theirs q) there.0) has.2 ∙ there.1))
        (omega arith)

    told : (so : SoFar) (h : Held R V O) → Keeps so h → 1 < so.phase → (tid : ℕ) (d : Judged O) (mine theirs : Bool) → stands tid d
        → least_told tag (words_on theirs h) tid None (sets mine d.request) ≡ least (holds mine theirs d.request) (take (tid - 1) list)
    told so h keeps late tid d mine theirs s =
        let each : (k : K) → LeastOf (Touches theirs k) (tid_under tag (words_on theirs h k))
        = λ k. word_tells (Touches theirs k) tag (first theirs k) (words_on theirs h k) (above theirs k) (small_tid theirs k)
        (all_marked so h keeps late theirs k) (keeps.words theirs k) in
        one_least (AtOne tag (words_on theirs h) tid (Touches theirs) (sets mine d.request)) (Holder (holds mine theirs d.request) (take (tid - 1) list))
        (λ i at. to_holder tid d mine theirs s i (at_one (words_on theirs h) tid (Touches theirs) (sets mine d.request) i at))
        (from_holder (words_on theirs h) tid d mine theirs s)
        _ _ (least_of_keys tag (words_on theirs h) tid (Touches theirs) each (sets mine d.request))
        (least-holder (holds mine theirs d.request) (take (tid - 1) list))

    pub decides : (so : SoFar) (h : Held R V O) → Keeps so h → 1 < so.phase → (i : ℕ) (d : Judged O) → stands i d
        → decide by rule tag h.writers h.readers i d.request ≡ d.verdict
    decides so h keeps late i d s =
        let waw = told so h keeps late i d true true s in
        let raw = told so h keeps late i d false true s in
        let war = told so h keeps late i d true false s in
        (λ t. verdict_by rule (waw t) (raw t) (war t)) ∙ sym (judged_at (touching by R) rule [] list (i - 1) d s.1).1

    -- ---- installs

    row_gives : (i : ℕ) (d : Judged O) (p : ℕ) (w : K × Option V) → stands i d → finishes d.verdict ≡ true → slice_get (by.rows d.request) p ≡ Some w
        → fin.get target w.0 ≡ w.1
    row_gives i d p w s f e =
        let here : Contains (judged (touching by R) rule [] list) d = (
          i - 1,
          get_below (judged (touching by R) rule [] list) (i - 1) d s.1,
          get_or_from_slice_get (judged (touching by R) rule [] list)
              (i - 1) d d s.1,
        ) in
        (after_commit_at o anti by rule start list w.0).by_writer d w.1 here f
        (found_at o anti (by.rows d.request) p w (once (i - 1) d.request (judged_at (touching by R) rule [] list (i - 1) d s.1).0) e)

    row_installed : (db : FinMap R V) (r : Option (K × Option V)) (w : K × Option V) (k : K) → r ≡ Some w → fin.get target w.0 ≡ w.1
        → (fin.get (installed db r) k ≡ fin.get target k) ⊎ (fin.get (installed db r) k ≡ fin.get db k)
    row_installed db r w k e gives = subst (λ r. (fin.get (installed db r) k ≡ fin.get target k) ⊎ (fin.get (installed db r) k ≡ fin.get db k)) (sym e)
        (elim (eq_by_cmp R k w.0) as (λ b. eq_by_cmp R k w.0 ≡ b
        → (fin.get (set_at db w.0 w.1) k ≡ fin.get target k) ⊎ (fin.get (set_at db w.0 w.1) k ≡ fin.get db k)) [
          | true ↦ λ t. inl (get-set_at o db w.0 w.1 k ∙ ap (λ b. cond b w.1 (fin.get db k)) t ∙ sym gives ∙ ap (fin.get target) (sym (same_key anti k w.0 t)))
          | false ↦ λ t. inr (get-set_at o db w.0 w.1 k ∙ ap (λ b. cond b w.1 (fin.get db k)) t)
        ] refl)

    row_stands : (db : FinMap R V) (r : Option (K × Option V)) (w : K × Option V) → r ≡ Some w → fin.get (installed db r) w.0 ≡ w.1
    row_stands db r w e = subst (λ r. fin.get (installed db r) w.0 ≡ w.1) (sym e) (get-set_at o db w.0 w.1 w.0
        ∙ ap (λ b. cond (is_eq b) w.1 (fin.get db w.0)) (tied_itself o w.0))

    -- ---- an event has its effect, and the effects of those before it stay

    has_effect : (so : SoFar) (h : Held R V O) → Keeps so h → (e : Event) → due so e → Effect (does h e) e
    has_effect so h keeps (Execute i) now = λ d s. put_here h.outcomes i _ ∙ (judged_at (touching by R) rule [] list (i - 1) d s.1).0
    has_effect so h keeps (MarkRead i p) now = λ d k s e. let at = now.0 in
        lowers o anti h.readers (number_under tag i) k (and_then (h.outcomes i) (λ q. slice_get (by.reads q) p))
        (ap (λ r. and_then r (λ q. slice_get (by.reads q) p)) (known so h keeps (omega arith) i d s) ∙ e)
    has_effect so h keeps (MarkWrite i p) now = λ d k s e. let at = now.0 in
        lowers o anti h.writers (number_under tag i) k (and_then (h.outcomes i) (λ q. slice_get (written by q) p))
        (ap (λ r. and_then r (λ q. slice_get (written by q) p)) (known so h keeps (omega arith) i d s) ∙ e)
    has_effect so h keeps (Decide i) now = λ d s. let at = now.0 in
        put_here h.verdicts i _ ∙ ap (option_map (decide by rule tag h.writers h.readers i)) (known so h keeps (omega arith) i d s)
        ∙ ap (λ (v : Verdict). Some v) (decides so h keeps (omega arith) i d s)
    has_effect so h keeps (Install i p) now = λ d w s f e. let at = now.0 in
        row_stands h.map (and_then (h.outcomes i) (λ q. slice_get (by.rows q) p)) w
        (ap (λ r. and_then r (λ q. slice_get (by.rows q) p)) (known so h keeps (omega arith) i d s) ∙ e) ∙ sym (row_gives i d p w s f e)
    has_effect so h keeps Turn now = tt

    outcome_stays : (so : SoFar) (h : Held R V O) → Keeps so h → (e : Event) → due so e → (i : ℕ) (d : Judged O) → stands i d → h.outcomes i ≡ Some d.request
        → (does h e).outcomes i ≡ Some d.request
    outcome_stays so h keeps (Execute j) now i d s is = ⊎_elim
        (λ same. subst (λ j. (does h (Execute j)).outcomes i ≡ Some d.request) same (put_here h.outcomes i _
        ∙ (judged_at (touching by R) rule [] list (i - 1) d s.1).0))
        (λ off. put_else h.outcomes j i _ off ∙ is)
        (cases_eq i j)
    outcome_stays so h keeps (MarkRead j p) now i d s is = is
    outcome_stays so h keeps (MarkWrite j p) now i d s is = is
    outcome_stays so h keeps (Decide j) now i d s is = is
    outcome_stays so h keeps (Install j p) now i d s is = is
    outcome_stays so h keeps Turn now i d s is = is

    word_falls : (h : Held R V O) (e : Event) (writes : Bool) (k : K) (n : ℕ) → words_on writes h k ≤ n → words_on writes (does h e) k ≤ n
    word_falls h (MarkRead j p) false k n le = let falls = falls o anti h.readers (number_under tag j)
        (and_then (h.outcomes j) (λ q. slice_get (by.reads q) p)) k in omega arith
    word_falls h (MarkWrite j p) true k n le = let falls = falls o anti h.writers (number_under tag j)
        (and_then (h.outcomes j) (λ q. slice_get (written by q) p)) k in omega arith
    word_falls h (MarkRead j p) true k n le = le
    word_falls h (MarkWrite j p) false k n le = le
    word_falls h (Execute j) true k n le = le
    word_falls h (Execute j) false k n le = le
    word_falls h (Decide j) true k n le = le
    word_falls h (Decide j) false k n le = le
    word_falls h (Install j p) true k n le = le
    word_falls h (Install j p) false k n le = le
    word_falls h Turn writes k n le = le

    verdict_stays : (so : SoFar) (h : Held R V O) → Keeps so h → (e : Event) → due so e → (i : ℕ) (d : Judged O) → stands i d → h.verdicts i ≡ Some d.verdict
        → (does h e).verdicts i ≡ Some d.verdict
    verdict_stays so h keeps (Decide j) now i d s is = ⊎_elim
        (λ same. subst (λ n. (does h (Decide j)).verdicts n ≡ Some d.verdict) (sym same)
        (has_effect so h keeps (Decide j) now d (subst (λ j. stands j d) same s)))
        (λ off. put_else h.verdicts j i _ off ∙ is)
        (cases_eq i j)
    verdict_stays so h keeps (Execute j) now i d s is = is
    verdict_stays so h keeps (MarkRead j p) now i d s is = is
    verdict_stays so h keeps (MarkWrite j p) now i d s is = is
    verdict_stays so h keeps (Install j p) now i d s is = is
    verdict_stays so h keeps Turn now i d s is = is

    -- at each key the map stays or becomes the target
    row_moves : (so : SoFar) (h : Held R V O) → Keeps so h → (e : Event) → due so e → (k : K)
        → (fin.get (does h e).map k ≡ fin.get target k) ⊎ (fin.get (does h e).map k ≡ fin.get h.map k)
    row_moves so h keeps (Install i p) (at, (d, s, f, (w, e)), new) k =
        row_installed h.map (and_then (h.outcomes i) (λ q. slice_get (by.rows q) p)) w k
        (ap (λ r. and_then r (λ q. slice_get (by.rows q) p)) (known so h keeps (omega arith) i d s) ∙ e) (row_gives i d p w s f e)
    row_moves so h keeps (Execute j) now k = inr refl
    row_moves so h keeps (MarkRead j p) now k = inr refl
    row_moves so h keeps (MarkWrite j p) now k = inr refl
    row_moves so h keeps (Decide j) now k = inr refl
    row_moves so h keeps Turn now k = inr refl

    effect_stays : (so : SoFar) (h : Held R V O) → Keeps so h → (e : Event) → due so e → (x : Event) → Effect h x → Effect (does h e) x
    effect_stays so h keeps e now (Execute i) is = λ d s. outcome_stays so h keeps e now i d s (is d s)
    effect_stays so h keeps e now (MarkRead i p) is = λ d k s f. word_falls h e false k (number_under tag i) (is d k s f)
    effect_stays so h keeps e now (MarkWrite i p) is = λ d k s f. word_falls h e true k (number_under tag i) (is d k s f)
    effect_stays so h keeps e now (Decide i) is = λ d s. verdict_stays so h keeps e now i d s (is d s)
    effect_stays so h keeps e now (Install i p) is = λ d w s f g. ⊎_elim (λ t. t) (λ t. t ∙ is d w s f g) (row_moves so h keeps e now w.0)
    effect_stays so h keeps e now Turn is = tt

    mark_made : (h : Held R V O) (writes : Bool) (i p : ℕ) (d : Judged O) (k : K) → stands i d → slice_get (sets writes d.request) p ≡ Some k
        → h.outcomes i ≡ Some d.request → (q : K)
        → MadeAt h writes q → let word : ℕ = marked R (words_on writes h) (and_then (h.outcomes i) (λ q. slice_get (sets writes q) p))
        (number_under tag i) q in (word ≡ first writes q) ⊎ ((n : ℕ) × Touches writes q n × (word ≡ number_under tag n))
    mark_made h writes i p d k s e is q so_far = ⊎_elim
        (λ same. ⊎_elim (λ at_first. inl (same ∙ at_first)) (λ by_one. inr (by_one.0, by_one.1, same ∙ by_one.2)) so_far)
        (λ new. inr (i, (d, s, (p, e ∙ ap (λ (k : K). Some k) new.0)), new.1))
        (made o anti (words_on writes h) (number_under tag i) k (and_then (h.outcomes i) (λ q. slice_get (sets writes q) p)) q
        (ap (λ r. and_then r (λ q. slice_get (sets writes q) p)) is ∙ e))

    words_made : (so : SoFar) (h : Held R V O) → Keeps so h → (e : Event) → due so e → (writes : Bool) (q : K) → MadeAt (does h e) writes q
    words_made so h keeps (MarkRead i p) (at, (d, s, (k, e)), new) false q =
        mark_made h false i p d k s e (known so h keeps (omega arith) i d s) q (keeps.words false q)
    words_made so h keeps (MarkWrite i p) (at, (d, s, (k, e)), new) true q =
        mark_made h true i p d k s e (known so h keeps (omega arith) i d s) q (keeps.words true q)
    words_made so h keeps (MarkRead i p) now true q = keeps.words true q
    words_made so h keeps (MarkWrite i p) now false q = keeps.words false q
    words_made so h keeps (Execute i) now true q = keeps.words true q
    words_made so h keeps (Execute i) now false q = keeps.words false q
    words_made so h keeps (Decide i) now true q = keeps.words true q
    words_made so h keeps (Decide i) now false q = keeps.words false q
    words_made so h keeps (Install i p) now true q = keeps.words true q
    words_made so h keeps (Install i p) now false q = keeps.words false q
    words_made so h keeps Turn now writes q = keeps.words writes q

    past_kept : (so : SoFar) (h : Held R V O) → Keeps so h → (e : Event) → due so e → (x : Event) → phase_of x < turned so.phase e → asked x
        → Contains so.came x
    past_kept so h keeps Turn now x lt a = ⊎_elim (λ under. keeps.past x under a) (λ over. now.1 x (omega arith) a) (cases_lt (phase_of x) so.phase)
    past_kept so h keeps (Execute i) now x lt a = keeps.past x lt a
    past_kept so h keeps (MarkRead i p) now x lt a = keeps.past x lt a
    past_kept so h keeps (MarkWrite i p) now x lt a = keeps.past x lt a
    past_kept so h keeps (Decide i) now x lt a = keeps.past x lt a
    past_kept so h keeps (Install i p) now x lt a = keeps.past x lt a

    pub kept_along : (so : SoFar) (h : Held R V O) → Keeps so h → (e : Event) → due so e → Keeps (along so e) (does h e)
    kept_along so h keeps e now = record {
      effects = λ x came. ⊎_elim (λ same. subst (Effect (does h e)) same (has_effect so h keeps e now))
          (λ older. effect_stays so h keeps e now x (keeps.effects x older)) (came_cases e x so.came came);
      past = λ x lt a. came_before e x so.came (past_kept so h keeps e now x lt a);
      words = words_made so h keeps e now;
      rows = λ k. ⊎_elim (λ t. inr t) (λ t. ⊎_elim (λ f. inl (t ∙ f)) (λ f. inr (t ∙ f)) (keeps.rows k)) (row_moves so h keeps e now k);
    }

    pub kept_all_along : (es : List Event) (so : SoFar) (h : Held R V O) → Keeps so h → IsLegal R by rule list so es
        → Keeps (all_along so es) (steps by rule tag start list first h es)
    kept_all_along [] so h keeps legal = keeps
    kept_all_along (e ∷ es) so h keeps legal = kept_all_along es (along so e) (does h e) (kept_along so h keeps e legal.0) legal.1

    pub at_begin : Keeps at_first (begun by rule tag start list first)
    at_begin = record {
      effects = λ e came. let lt = came.1 in absurd (omega arith);
      past = λ e lt a. absurd (omega arith);
      words = λ writes k. elim writes as (λ b. MadeAt (begun by rule tag start list first) b k) [ true ↦ inl refl | false ↦ inl refl ];
      rows = λ k. inl refl;
    }

    -- ---- when it has settled

    abbrev Untouched : K → Judged O → Type 0
    Untouched k d = finishes d.verdict ≡ true → is_among R (written by d.request) k ≡ false

    -- a finishing request writes the key
    abbrev Writer : K → List (Judged O) → Type 0
    Writer k ds = (n : ℕ) × (d : Judged O) × (row : Option V) × (slice_get ds n ≡ Some d) × (finishes d.verdict ≡ true)
        × (find R k (by.rows d.request) ≡ Some row)

    -- or none does
    writer_cases : (k : K) (ds : List (Judged O)) → Writer k ds ⊎ All (Untouched k) ds
    writer_cases k [] = inr (All-nil (Untouched k))
    writer_cases k (d ∷ ds) = ⊎_elim
        (λ w. inl (suc w.0, w.1, w.2, w.3, w.4, w.5))
        (λ none. elim (finishes d.verdict) as (λ b. finishes d.verdict ≡ b → Writer k (d ∷ ds) ⊎ All (Untouched k) (d ∷ ds)) [
          | false ↦ λ e. inr (All-cons (Untouched k) d ds (λ f. absurd (false≢true (sym e ∙ f))) none)
          | true ↦ λ e. elim (find R k (by.rows d.request)) as (λ r. find R k (by.rows d.request) ≡ r → Writer k (d ∷ ds) ⊎ All (Untouched k) (d ∷ ds)) [
            | None ↦ λ r. inr (All-cons (Untouched k) d ds (λ f. sym (fin.Entries.is_some-find R k (by.rows d.request)) ∙ ap is_some r) none)
            | Some row ↦ λ r. inl (0, d, row, refl, e, r)
          ] refl
        ] refl)
        (writer_cases k ds)

    settled_row : (so : SoFar) (h : Held R V O) → Keeps so h → so.phase ≡ 4 → (k : K) → fin.get h.map k ≡ fin.get target k
    settled_row so h keeps end k = ⊎_elim
        (λ w. let n : ℕ = w.0 in
        let one : n ≡ suc n - 1 = omega arith in
        let s : stands (suc n) w.1 = (omega arith, ap (slice_get (judged (touching by R) rule [] list)) (sym one) ∙ w.3) in
        let at = at_found o anti (by.rows w.1.request) k w.2 w.5 in
        keeps.effects (Install (suc n) at.0) (keeps.past (Install (suc n) at.0) (omega (arith, end)) (w.1, s, w.4, ((k, w.2), at.1))) w.1 (k, w.2) s w.4 at.1)
        (λ none. ⊎_elim (λ e. e ∙ sym ((after_commit_at o anti by rule start list k).kept none)) (λ e. e) (keeps.rows k))
        (writer_cases k (judged (touching by R) rule [] list))

    pub settled : (so : SoFar) (h : Held R V O) → Keeps so h → so.phase ≡ 4 → IsCommitted by rule tag start list first h
    settled so h keeps end = record {
      verdicts = λ i d s. keeps.effects (Decide i) (keeps.past (Decide i) (omega (arith, end)) (d, s)) d s;
      map = same_map o anti _ _ (settled_row so h keeps end);
    }

module _ {K V Q A : Type 0} {R : K → K → Ordering} (o : IsTotalOrder R) (anti : IsAntisymmetric R) (is_done : A → Bool) (tree : Q → Tree K V A) (rule : Rule)
    (start : FinMap R V) (list : List Q) (tag : ℕ) (first : Bool → K → ℕ) where
  -- the rows that a run leaves have each key once
  pub rows_once : (n : ℕ) (q : Q) → slice_get list n ≡ Some q → Once o anti ((on_start is_done tree start).rows q)
  rows_once n q e = once_writes o anti is_done (tree q) start

  pub core_law : (es : List Event) → Commits is_done tree rule start list tag first es
  core_law es few above legal end =
      let by : Carrier K V A Q = on_start is_done tree start in
      settled o anti by rule tag start list first few above rows_once _ _
      (kept_all_along o anti by rule tag start list first few above rows_once es at_first _
      (at_begin o anti by rule tag start list first few above rows_once) legal) end
