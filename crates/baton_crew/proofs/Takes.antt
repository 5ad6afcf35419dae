-- A seat that takes an item's slots keeps the rule.
use Rattle.std.proofs.Common.{◌≡◌, ◌≢◌, ℕ, zero, suc, ◌+◌, ◌<◌, ◌≤◌, ⊎_elim, Bool, true, false, List, [], ◌∷◌, ◌++◌, length, set, sum_by, cond, eqb, subst, sym, refl, ap, ◌∙◌, arith, length-set, append-nil}
use Rattle.std.proofs.lemmas.Bool.{cases_eq, cases_lt, eq-eqb, ne_eqb}
use mathlib.Core.Option.{Option, some, none}
use lib.ListN.{get_elem?}
use Rattle.atomic_table.specs.Table.{State, Me, Allows, homes_after}
use Rattle.aria_base.proofs.Shares.{each-set, sum_by-set, sum_by-at}
use Rattle.work_claim.specs.Rule.{times}
use Rattle.baton_crew.specs.Courses.{Course, IsCourse}
use Rattle.baton_crew.specs.Rule.{gone, word_of, is_taken, is_ready, home_at, Waits, Kept, KeptAt, Holds, Idle, fewer_ready, with_taken, took_at}
use Rattle.baton_crew.specs.declared.rules.View.{View}
use Rattle.baton_crew.proofs.Counts.{times-push, count-some}
use Rattle.baton_crew.proofs.Homes.{there_below, takes_all, pairs, carried-all, homes-else, homes-here, takes-valid}
use Rattle.baton_crew.proofs.Seats.{taken_of, ready_of, none_there}
use Rattle.baton_crew.proofs.Words.{one_if, ready_number, left_number, is_below, word_here, word_else, taken_else, ready_else}

module _ {S W : Type 0} (course : Course S) (is : IsCourse course) (slots id : ℕ) (me : Me S (View W)) (x : ℕ) where
  abbrev ready : List ℕ
  ready = fewer_ready me.0

  abbrev next : View W
  next = with_taken x (course.touches x) me.0

  abbrev before_x : ℕ → S
  before_x k = course.before x k

  module _ (has_share : 0 < me.0.share) (ready_last : me.0.ready ≡ ready ++ x ∷ []) (free : me.0.held ≡ [])
      (s : State S (View W)) (turn : ℕ → ℕ) (kept : KeptAt {W = W} course turn s) (at : get_elem? s.views id ≡ some me.0) where
    abbrev words' : List ℕ
    words' = set s.words (suc x) gone

    in_ready : (y : ℕ) → times y me.0.ready ≡ times y ready + cond (eqb x y) 1 0
    in_ready y = ap (times y) ready_last ∙ times-push y ready x

    here_one : ◌≡◌ {A = ℕ} (cond (eqb x x) 1 0) 1
    here_one = ap (λ b. cond b 1 0) (eq-eqb x x refl)

    else_none : (y : ℕ) → y ≢ x → ◌≡◌ {A = ℕ} (cond (eqb x y) 1 0) 0
    else_none y ne = ap (λ b. cond b 1 0) (ne_eqb x y (λ e. ne (sym e)))

    is_ready_x : is_ready course.items s.words x ≡ true
    is_ready_x = one_if (is_ready course.items s.words x) (
        let mine = sum_by-at (ready_of x) s.views id me.0 at in
        let all = kept.ready x in
        let here = in_ready x in
        let one = here_one in
        omega arith)

    within : x < course.items
    within = (ready_number course.items x (word_of s.words x) is_ready_x).0

    word_is : word_of s.words x ≡ 0
    word_is = (ready_number course.items x (word_of s.words x) is_ready_x).1

    untaken : is_taken s.words x ≡ false
    untaken = left_number (word_of s.words x) (omega (arith, word_is))

    waits_x : Waits course turn s.words x
    waits_x = kept.waits x within untaken

    turn_is : (k : ℕ) → 1 ≤ times k (course.touches x) → turn k ≡ x
    turn_is k touched = ⊎_elim
        (λ (lt : turn k < x). absurd (let some_open = count-some (λ q. Rattle.std.specs.Prelude.nat_lt (turn q) x) k (course.touches x) touched
        (is_below (turn k) x lt) in let count = waits_x.count in let none = word_is in omega arith))
        (λ ge. let le = waits_x.behind k touched in omega arith)
        (cases_lt (turn k) x)

    room : suc x < length s.words
    room = let all = kept.words in let lt = within in omega arith

    here : word_of words' x ≡ gone
    here = word_here s.words x gone room

    here_taken : is_taken words' x ≡ true
    here_taken = ap (λ n. Rattle.std.specs.Prelude.nat_eq n gone) here

    none_taken : times x me.0.taken ≡ 0
    none_taken =
        let mine = sum_by-at (taken_of x) s.views id me.0 at in
        let all : sum_by (taken_of x) s.views ≡ 0 = kept.taken x ∙ ap (λ b. cond b 1 0) untaken in
        omega arith

    at_home : (k : ℕ) → 1 ≤ times k (course.touches x) → get_elem? s.homes k ≡ some (some (before_x k))
    at_home k touched =
        kept.homes k (is.within x k within touched)
        ∙ ap (λ (y : ℕ). some (cond (is_taken s.words y) none (some (course.before y k)))) (turn_is k touched)
        ∙ ap (λ b. some (cond b none (some (course.before x k)))) untaken

    kept_taken : (y : ℕ) → sum_by (taken_of y) (set s.views id next) ≡ cond (is_taken words' y) 1 0
    kept_taken y =
        let sum = sum_by-set (taken_of y) s.views id me.0 next at in
        let all = kept.taken y in
        let push = times-push y me.0.taken x in
        ⊎_elim
        (λ (e : y ≡ x).
        let one : ◌≡◌ {A = ℕ} (cond (eqb x y) 1 0) 1 = subst (λ (z : ℕ). ◌≡◌ {A = ℕ} (cond (eqb x z) 1 0) 1) (sym e) here_one in
        let before : ◌≡◌ {A = ℕ} (cond (is_taken s.words y) 1 0) 0 =
        subst (λ (z : ℕ). ◌≡◌ {A = ℕ} (cond (is_taken s.words z) 1 0) 0) (sym e) (ap (λ b. cond b 1 0) untaken) in
        let after : ◌≡◌ {A = ℕ} (cond (is_taken words' y) 1 0) 1 =
        subst (λ (z : ℕ). ◌≡◌ {A = ℕ} (cond (is_taken words' z) 1 0) 1) (sym e) (ap (λ b. cond b 1 0) here_taken) in
        omega arith)
        (λ ne.
        let none_more = else_none y ne in
        let same : ◌≡◌ {A = ℕ} (cond (is_taken words' y) 1 0) (cond (is_taken s.words y) 1 0) = ap (λ b. cond b 1 0) (taken_else s.words x gone y ne) in
        omega arith)
        (cases_eq y x)

    kept_ready : (y : ℕ) → sum_by (ready_of y) (set s.views id next) ≡ cond (is_ready course.items words' y) 1 0
    kept_ready y =
        let sum = sum_by-set (ready_of y) s.views id me.0 next at in
        let all = kept.ready y in
        let last = in_ready y in
        ⊎_elim
        (λ (e : y ≡ x).
        let one : ◌≡◌ {A = ℕ} (cond (eqb x y) 1 0) 1 = subst (λ (z : ℕ). ◌≡◌ {A = ℕ} (cond (eqb x z) 1 0) 1) (sym e) here_one in
        let before : ◌≡◌ {A = ℕ} (cond (is_ready course.items s.words y) 1 0) 1 =
        subst (λ (z : ℕ). ◌≡◌ {A = ℕ} (cond (is_ready course.items s.words z) 1 0) 1) (sym e) (ap (λ b. cond b 1 0) is_ready_x) in
        let not : is_ready course.items words' x ≡ false = Rattle.baton_crew.proofs.Words.unready_is course.items x (word_of words' x)
        (let h = here in omega arith) in
        let after : ◌≡◌ {A = ℕ} (cond (is_ready course.items words' y) 1 0) 0 =
        subst (λ (z : ℕ). ◌≡◌ {A = ℕ} (cond (is_ready course.items words' z) 1 0) 0) (sym e) (ap (λ b. cond b 1 0) not) in
        omega arith)
        (λ ne.
        let none_more = else_none y ne in
        let same : ◌≡◌ {A = ℕ} (cond (is_ready course.items words' y) 1 0) (cond (is_ready course.items s.words y) 1 0) =
        ap (λ b. cond b 1 0) (ready_else s.words x gone course.items y ne) in
        omega arith)
        (cases_eq y x)

    kept_waits : (y : ℕ) → y < course.items → is_taken words' y ≡ false → Waits course turn words' y
    kept_waits y lt not =
        let ne : y ≢ x = λ e. absurd (Rattle.std.proofs.lemmas.Bool.true≢false (sym here_taken ∙ subst (λ (z : ℕ). is_taken words' z ≡ false) e not)) in
        let old = kept.waits y lt (sym (taken_else s.words x gone y ne) ∙ not) in
        record { count = word_else s.words x gone y ne ∙ old.count; behind = old.behind }

    kept_passes : (y k : ℕ) → is_taken words' y ≡ true → 1 ≤ times k (course.touches y) → y ≤ turn k
    kept_passes y k was touched = ⊎_elim
        (λ (e : y ≡ x). let t = turn_is k (subst (λ (z : ℕ). 1 ≤ times k (course.touches z)) e touched) in omega arith)
        (λ ne. kept.passes y k (sym (taken_else s.words x gone y ne) ∙ was) touched)
        (cases_eq y x)

    kept_homes : (c : List (ℕ × S)) (k : ℕ) → k < course.slots
        → get_elem? (homes_after s.homes c (takes_all before_x (course.touches x))) k ≡ some (home_at course turn words' k)
    kept_homes c k lt = ⊎_elim
        (λ (touched : 0 < times k (course.touches x)).
        homes-here before_x (course.touches x) s.homes c k (omega arith) (there_below s.homes k _ (kept.homes k lt))
        ∙ sym (ap (λ (b : Bool). some (cond b none (some (course.before (turn k) k))))
        (subst (λ (z : ℕ). is_taken words' z ≡ true) (sym (turn_is k (omega arith))) here_taken)))
        (λ else.
        let ne : turn k ≢ x = λ e. absurd (let q = kept.queued k (let lt' = within in omega arith) in let q' : 1 ≤ times k (course.touches x) =
        subst (λ (z : ℕ). 1 ≤ times k (course.touches z)) e q in omega arith) in
        homes-else before_x (course.touches x) s.homes c k (omega arith) ∙ kept.homes k lt
        ∙ sym (ap (λ (b : Bool). some (cond b none (some (course.before (turn k) k)))) (taken_else s.words x gone (turn k) ne)))
        (cases_lt 0 (times k (course.touches x)))

    holds_next : Holds course turn next
    holds_next = record {
      turns = turn_is;
      once = λ k. is.once x k within;
      mine = λ k there. (let one = here_one in omega (arith, times-push x me.0.taken x));
      passed = λ y k there touched turns. ⊎_elim
          (λ (e : y ≡ x). (e, subst (λ (z : ℕ). 1 ≤ times k (course.touches z)) e touched))
          (λ ne. none_there me.0.held k free ((kept.holders id me.0 at).passed y k (let none_more = else_none y ne in omega (arith, times-push y me.0.taken x))
          touched turns).1)
          (cases_eq y x);
    }

  -- Item x, which is ready, is taken: its slots come to the seat, each with what is there before x.
  pub takes : 0 < me.0.share → me.0.ready ≡ ready ++ x ∷ [] → me.0.held ≡ [] → me.1 ≡ []
      → Allows (Kept course) slots id me (suc x) (λ _. gone) (λ _ me'. took_at course x me me')
  takes has_share ready_last free empty s (turn, kept) homes at small = (
    next,
    takes_all before_x (course.touches x),
    takes-valid before_x (course.touches x) s.homes me.1 (at_home has_share ready_last free s turn kept at)
        (λ k. is.once x k (within has_share ready_last free s turn kept at)),
    (
      turn,
      record {
        words = length-set s.words (suc x) gone ∙ kept.words;
        shares = (let sum = sum_by-set (λ (v : View W). v.share) s.views id me.0 next at in omega arith) ∙ kept.shares;
        turns = kept.turns;
        queued = kept.queued;
        taken = kept_taken has_share ready_last free s turn kept at;
        ready = kept_ready has_share ready_last free s turn kept at;
        waits = kept_waits has_share ready_last free s turn kept at;
        passes = kept_passes has_share ready_last free s turn kept at;
        homes = kept_homes has_share ready_last free s turn kept at me.1;
        holders = each-set (Holds course turn) s.views id next (holds_next has_share ready_last free s turn kept at) kept.holders;
        idle = each-set Idle s.views id next (record {
          nothing_ready = λ none. absurd (omega arith);
          nothing_taken = λ none. absurd (omega arith);
          nothing_held = λ none. absurd (omega arith);
        }) kept.idle;
      },
    ),
    (
      ap (λ c. (next, c)) (carried-all before_x (course.touches x) me.1 ∙ ap (λ c. pairs before_x (course.touches x) ++ c) empty
          ∙ append-nil (pairs before_x (course.touches x))),
      none_taken has_share ready_last free s turn kept at,
    ),
  )
