-- Seats that have exactly the marks of the requests at some places, and what each step adds to them.
use Rattle.std.proofs.Common.{◌≡◌, refl, sym, ap, subst, ◌∙◌, ℕ, ◌+◌, ◌-◌, ◌<◌, ◌≤◌, Bool, true, false, cond, List, [], ◌∷◌, ◌++◌, map, length, arith, All, Contains, ⊎_elim}
use Rattle.std.proofs.lemmas.List.{get_or-map, length-map}
use Rattle.std.proofs.lemmas.List.Elements.{All-append, All-map, All-contains, Contains-push, Contains-get_or, Contains-append_left, Contains-append_right, Contains-append_cases, Contains-push_cases}
use Rattle.std.specs.declared.result.Result.{Result}
use Rattle.std.specs.declared.result.Result.TheVariants.{Ok, Err}
use Rattle.std.specs.Result.{IfOk}
use Rattle.atomic_table.specs.Seated.{TableId}
use Rattle.aria_base.specs.declared.marks.Mark.{Mark}
use Rattle.aria_base.specs.declared.memory.Memory.{Memory}
use Rattle.aria_base.specs.Reserved.{StandFor}
use Rattle.aria_base.specs.Shares.{all_shares}
use Rattle.dep_rules.specs.Sheets.{Sheet, IsTid, IsMarkOf, AreMarksOf, reads_at, writes_at}
use Rattle.resv_words.specs.Seats.{Marker, Laid, ClosedWords, closed_of, Tells}
use Rattle.resv_words.specs.declared.words.Closed.{Closed}
use Rattle.work_crew.specs.Hands.{HasDoneAll}
use Rattle.work_crew.proofs.Draws.{drawn_below}
use Rattle.resv_phase.specs.Marked.{marks_on, marks_at, with_marks, HasMarked}

contains-map : {X Y : Type 0} (f : X → Y) (xs : List X) (x : X) → Contains xs x → Contains (map f xs) (f x)
contains-map f xs x c = (c.0, rw (length-map xs f) c.1, get_or-map f xs c.0 x (f x) c.1 ∙ ap f c.2)

-- it is a mark of the batch, by the request with this TID
abbrev IsMarkBy : Sheet → ℕ → Mark → Type 0
IsMarkBy sheet tid m = IsMarkOf sheet m × (m.tid ≡ tid)

marks_sound : (sheet : Sheet) (tid : ℕ) → IsTid sheet tid → All (IsMarkBy sheet tid) (marks_at sheet tid)
marks_sound sheet tid is = All-append (IsMarkBy sheet tid) (marks_on tid false (reads_at sheet tid)) (marks_on tid true (writes_at sheet tid))
    (All-map (IsMarkBy sheet tid) (λ key. record { tid = tid; key = key; writes = false }) (reads_at sheet tid)
    (λ k d lt. ((is, Contains-get_or (reads_at sheet tid) k d lt), refl)))
    (All-map (IsMarkBy sheet tid) (λ key. record { tid = tid; key = key; writes = true }) (writes_at sheet tid)
    (λ k d lt. ((is, Contains-get_or (writes_at sheet tid) k d lt), refl)))

marks_whole : (sheet : Sheet) (tid key : ℕ) (writes : Bool) → Contains (cond writes (writes_at sheet tid) (reads_at sheet tid)) key
    → Contains (marks_at sheet tid) (record { tid = tid; key = key; writes = writes })
marks_whole sheet tid key true c = Contains-append_right (marks_on tid false (reads_at sheet tid)) (marks_on tid true (writes_at sheet tid)) _
    (contains-map (λ key. record { tid = tid; key = key; writes = true }) (writes_at sheet tid) key c)
marks_whole sheet tid key false c = Contains-append_left (marks_on tid false (reads_at sheet tid)) (marks_on tid true (writes_at sheet tid)) _
    (contains-map (λ key. record { tid = tid; key = key; writes = false }) (reads_at sheet tid) key c)

-- these are exactly the batch's marks of the requests at these places
abbrev AreMarksAt : Sheet → List Mark → List ℕ → Type 0
AreMarksAt sheet marks places = (m : Mark) → (Contains marks m → IsMarkOf sheet m × Contains places (m.tid - 1))
    × (IsMarkOf sheet m × Contains places (m.tid - 1) → Contains marks m)

marks_more : (sheet : Sheet) (marks : List Mark) (places : List ℕ) (x : ℕ) → IsTid sheet (x + 1) → AreMarksAt sheet marks places
    → AreMarksAt sheet (marks ++ marks_at sheet (x + 1)) (places ++ x ∷ [])
marks_more sheet marks places x is are m = (
  (λ has. ⊎_elim
      (λ (old : Contains marks m). let was = (are m).0 old in (was.0, Contains-append_left places (x ∷ []) (m.tid - 1) was.1))
      (λ (new : Contains (marks_at sheet (x + 1)) m).
      let by : IsMarkBy sheet (x + 1) m = All-contains (IsMarkBy sheet (x + 1)) (marks_at sheet (x + 1)) m (marks_sound sheet (x + 1) is) new in
      let tid = by.1 in
      let at : x ≡ m.tid - 1 = omega arith in (by.0, subst (Contains (places ++ x ∷ [])) at (Contains-push places x)))
      (Contains-append_cases marks (marks_at sheet (x + 1)) m has)),
  (λ has. ⊎_elim
      (λ (before : Contains places (m.tid - 1)). Contains-append_left marks (marks_at sheet (x + 1)) m ((are m).1 (has.0, before)))
      (λ (now : x ≡ m.tid - 1).
      let one : 1 ≤ m.tid = has.0.0.0 in
      let tid : m.tid ≡ x + 1 = omega arith in
      Contains-append_right marks (marks_at sheet (x + 1)) m (subst (λ t. Contains (marks_at sheet t) m) tid (marks_whole sheet m.tid m.key m.writes has.0.1)))
      (Contains-push_cases places x (m.tid - 1) has.1)),
)

marks_both : (sheet : Sheet) (marks others : List Mark) (places more : List ℕ) → AreMarksAt sheet marks places → AreMarksAt sheet others more
    → AreMarksAt sheet (marks ++ others) (places ++ more)
marks_both sheet marks others places more are too m = (
  (λ has. ⊎_elim
      (λ (mine : Contains marks m). let was = (are m).0 mine in (was.0, Contains-append_left places more (m.tid - 1) was.1))
      (λ (theirs : Contains others m). let was = (too m).0 theirs in (was.0, Contains-append_right places more (m.tid - 1) was.1))
      (Contains-append_cases marks others m has)),
  (λ has. ⊎_elim
      (λ (mine : Contains places (m.tid - 1)). Contains-append_left marks others m ((are m).1 (has.0, mine)))
      (λ (theirs : Contains more (m.tid - 1)). Contains-append_right marks others m ((too m).1 (has.0, theirs)))
      (Contains-append_cases places more (m.tid - 1) has.1)),
)

-- ---- seats

pub none_marked : (sheet : Sheet) (table : TableId) (seat : Marker) → seat ≡ record { table = table; share = all_shares; marks = [] }
    → HasMarked sheet table seat all_shares []
none_marked sheet table seat is = record {
  same_table = ap (λ (s : Marker). s.table) is;
  same_share = ap (λ (s : Marker). s.share) is;
  marked = subst (λ (s : Marker). AreMarksAt sheet s.marks []) (sym is)
      (λ m. ((λ has. absurd (let lt = has.1 in omega arith)), (λ has. absurd (let lt = has.1.1 in omega arith))));
}

pub marked_after : (sheet : Sheet) (table : TableId) (seat seat' : Marker) (x shares : ℕ) (places : List ℕ) → seat' ≡ with_marks seat (marks_at sheet (x + 1))
    → x < length sheet.reads
    → HasMarked sheet table seat shares places → HasMarked sheet table seat' shares (places ++ x ∷ [])
marked_after sheet table seat seat' x shares places e lt has = record {
  same_table = ap (λ (s : Marker). s.table) e ∙ has.same_table;
  same_share = ap (λ (s : Marker). s.share) e ∙ has.same_share;
  marked = subst (λ (s : Marker). AreMarksAt sheet s.marks (places ++ x ∷ [])) (sym e)
      (marks_more sheet seat.marks places x (omega arith, omega arith) has.marked);
}

-- with another share
pub marked_share : (sheet : Sheet) (table : TableId) (seat seat' : Marker) (shares share : ℕ) (places : List ℕ) → seat' ≡ record seat { share = share }
    → HasMarked sheet table seat shares places → HasMarked sheet table seat' share places
marked_share sheet table seat seat' shares share places e has = record {
  same_table = ap (λ (s : Marker). s.table) e ∙ has.same_table;
  same_share = ap (λ (s : Marker). s.share) e;
  marked = subst (λ (s : Marker). AreMarksAt sheet s.marks places) (sym e) has.marked;
}

pub marked_both : (sheet : Sheet) (table : TableId) (seat other seat' : Marker) (shares more : ℕ) (places others : List ℕ)
    → seat' ≡ record { table = seat.table; share = seat.share + other.share; marks = seat.marks ++ other.marks }
    → HasMarked sheet table seat shares places → HasMarked sheet table other more others → HasMarked sheet table seat' (shares + more) (places ++ others)
marked_both sheet table seat other seat' shares more places others e mine theirs =
    let a = mine.same_share in
    let b = theirs.same_share in
    let sum : seat'.share ≡ seat.share + other.share = ap (λ (s : Marker). s.share) e in
    record {
      same_table = ap (λ (s : Marker). s.table) e ∙ mine.same_table;
      same_share = omega arith;
      marked = subst (λ (s : Marker). AreMarksAt sheet s.marks (places ++ others)) (sym e)
          (marks_both sheet seat.marks other.marks places others mine.marked theirs.marked);
    }

-- the first seat, once all requests were marked
pub marked_all : (sheet : Sheet) (table : TableId) (seat : Marker) → HasDoneAll (HasMarked sheet table) (length sheet.reads) seat → AreMarksOf sheet seat.marks
marked_all sheet table seat all m = (
  (λ has. ((all.2.marked m).0 has).0),
  (λ is.
      let first = is.0.0 in
      let last = is.0.1 in
      let within : m.tid - 1 < length sheet.reads = omega arith in (all.2.marked m).1 (is, drawn_below all.0 (length sheet.reads) (m.tid - 1) all.1 within)),
)

-- ---- the closed words

-- what is so of the words' tag, keys and marks is so of what they are when they are closed
pub as_closed : (P : ℕ → ℕ → List Mark → Type 0) (laid : Laid) (seat : Marker) (result : Result Closed Memory) → P laid.tag laid.keys seat.marks
    → IfOk result (λ closed. closed ≡ closed_of laid seat) → IfOk result (λ closed. P closed.tag closed.keys closed.marks)
as_closed P laid seat (Ok closed) are is = subst (λ (c : ClosedWords). P c.tag c.keys c.marks) (sym is) are
as_closed P laid seat (Err e) are is = tt

-- what words that stand for marks tell is told by the closed words
pub as_told : (Q : List ℕ → Type 0) (result : Result Closed Memory)
    → IfOk result (λ closed. (words : List ℕ) → StandFor closed.tag closed.keys closed.marks words → Q words)
    → IfOk result (λ closed. (words : List ℕ) → Tells closed words → Q words)
as_told Q (Ok closed) then = λ words tells. then words tells.stand
as_told Q (Err e) then = tt
