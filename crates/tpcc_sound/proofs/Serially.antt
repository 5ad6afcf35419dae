-- Works one after the other leave sound rows.
use Rattle.std.proofs.Common.{◌≡◌, refl, sym, ap, subst, ◌∙◌, ℕ, Bool, true, false, cond, ◌==◌, List, [], ◌∷◌, Option, Some, None, is_none, true≢false, lit≤}
use Rattle.std.specs.List.{All, find, cons_option}
use Rattle.std.proofs.lemmas.List.Elements.{All-nil, All-cons, All-head, All-tail}
use Rattle.aria_base.specs.Orders.{Database}
use Rattle.aria_base.specs.Schemas.{IsConsistent}
use Rattle.batch_core.specs.declared.answers.Answer.{Answer}
use Rattle.batch_rules.specs.Runs.{map_in_turn}
use Rattle.cat_builtin.specs.Tpcc.{tpcc}
use Rattle.proc_lang.specs.Catalogs.{IsCatalog, run_of}
use Rattle.proc_sound.proofs.Runs.{catalog_stays_consistent_is}
use Rattle.range_rules.specs.Courses.{left_of, left_on, request_for}
use Rattle.range_rules.specs.Serials.{IsSerialAnswer, named, numbered_as, works}
use Rattle.range_rules.specs.declared.routines.NumberedWork.{NumberedWork}
use Rattle.range_rules.specs.declared.routines.Work.{Work}
use Rattle.range_rules.specs.declared.routines.Work.TheVariants as work
use Rattle.range_suits.specs.Laws.{Behaves}
use Rattle.range_suits.specs.Suits.{Suits, is_taken}
use Rattle.tpcc_routines.specs.Routines.{is_more}
use Rattle.tpcc_routines.specs.Sound.{IsSound}
use Rattle.tpcc_sound.specs.Laws.{act}
use Rattle.tpcc_sound.proofs.Working.{work-keeps}

-- ---- what holds of each work of a list holds of those that are named

some-work : (x y : NumberedWork) → Some x ≡ Some y → x ≡ y
some-work x y e = ap (or_this x) e
  where
    or_this : NumberedWork → Option NumberedWork → NumberedWork
    or_this x None = x
    or_this x (Some z) = z

found-holds : (P : NumberedWork → Type 0) (p : NumberedWork → Bool) (ws : List NumberedWork) → All P ws → (w : NumberedWork) → find p ws ≡ Some w → P w
found-holds P p [] all w found = absurd (true≢false (ap is_none found))
found-holds P p (x ∷ xs) all w found =
    elim (p x) as (λ b. cond b (Some x) (find p xs) ≡ Some w → P w) [
      | true ↦ λ some. subst P (some-work x w some) (All-head P x xs all)
      | false ↦ λ later. found-holds P p xs (All-tail P x xs all) w later
    ] found

cons-holds : (P : NumberedWork → Type 0) (o : Option NumberedWork) (ws : List NumberedWork) → ((w : NumberedWork) → o ≡ Some w → P w) → All P ws
    → All P (cons_option o ws)
cons-holds P None ws one all = all
cons-holds P (Some w) ws one all = All-cons P w ws (one w refl) all

named-hold : (P : NumberedWork → Type 0) (list : List NumberedWork) (order : List ℕ) → All P list → All P (named list order)
named-hold P list [] all = All-nil P
named-hold P list (q ∷ qs) all = cons-holds P (numbered_as list q) (named list qs) (found-holds P (λ w. w.q == q) list all) (named-hold P list qs all)

-- ---- one work after the other

abbrev Taken : NumberedWork → Type 0
Taken w = is_taken tpcc is_more w.work ≡ true

module _ (behave : (w : NumberedWork) (db : Database) → Behaves tpcc is_more act w db) (suits : Suits tpcc.tables is_more act) (whole : IsCatalog tpcc) where
  -- no routine looks at its request number
  work-consistent : (q : ℕ) (w : Work) (db : Database) → is_taken tpcc is_more w ≡ true → IsConsistent tpcc.tables db
      → IsConsistent tpcc.tables (left_of (run_of tpcc) act q w db)
  work-consistent q (work.Proc call) db taken fits = (catalog_stays_consistent_is tpcc (request_for q call) db whole taken fits).after
  work-consistent q (work.Routine call) db taken fits =
      (behave (record { q = 1; work = work.Routine call }) db whole suits taken (lit≤ tt) (lit≤ tt) fits).leaves

  serially : (db : Database) (ws : List NumberedWork) → All Taken ws → IsConsistent tpcc.tables db → IsSound db
      → IsSound (map_in_turn (works (run_of tpcc) act) db ws)
  serially db [] all fits sound = sound
  serially db (w ∷ ws) all fits sound =
      let taken = All-head Taken w ws all in
      serially (left_on (run_of tpcc) act db w) ws (All-tail Taken w ws all) (work-consistent w.q w.work db taken fits)
      (work-keeps db fits sound w.q w.work taken)

  pub stays-sound : (start : Database) (list : List NumberedWork) (answer : Answer) (rows : Database) (carried : List NumberedWork) → All Taken list
      → IsConsistent tpcc.tables start → IsSound start → IsSerialAnswer (run_of tpcc) act start list answer rows carried → IsSound rows
  stays-sound start list answer rows carried taken fits sound serial =
      subst IsSound (sym serial.left) (serially start (named list answer.order) (named-hold Taken list answer.order taken) fits sound)
