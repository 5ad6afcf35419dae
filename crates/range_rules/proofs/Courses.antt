-- What a routine's run depends on, and what it leaves.
use Rattle.std.proofs.Common.{◌≡◌, ◌≤◌, ◌+◌, ◌-◌, arith, ℕ, zero, suc, List, [], ◌∷◌, ◌++◌, map, Bool, true, false, Some, None, refl, sym, ap, subst, ◌∙◌}
use Rattle.std.specs.Prelude.{◌||◌, if◌then◌else◌}
use Rattle.std.specs.Ordering.{eq_by_cmp}
use Rattle.std.specs.FinMap as fin
use Rattle.std.specs.FinMap.{same_map}
use Rattle.std.proofs.lemmas.Bool.{or_left, or_right}
use Rattle.std.proofs.lemmas.List.Folds.{list_any-append}
use Rattle.aria_base.specs.Orders.{key_cmp, Database}
use Rattle.aria_base.specs.declared.keys.Key.{Key}
use Rattle.aria_base.proofs.Orders.{key_cmp_total, key_cmp-IsAntisymmetric}
use Rattle.proc_lang.specs.declared.ends.End.{End}
use Rattle.batch_rules.specs.Trees.{Read as visit_read, set_at}
use Rattle.batch_rules.specs.Touches.{is_among, keys_of, overwritten}
use Rattle.batch_rules.proofs.Agree.{weaker, among_noted, has_read, set_agree}
use Rattle.batch_rules.proofs.Maps.{same_key, is_among-with_write, overwritten-with_write}
use Rattle.range_rules.specs.declared.routines.Action.{Action}
use Rattle.range_rules.specs.declared.routines.Action.TheVariants.{Read, Write, Scan, Stop}
use Rattle.range_rules.specs.declared.routines.Seen.{Seen}
use Rattle.range_rules.specs.declared.routines.Seen.TheVariants.{One, Many}
use Rattle.range_rules.specs.declared.routines.Prefix.{Prefix}
use Rattle.range_rules.specs.declared.routines.TheConstants.{MOST_ACTIONS}
use Rattle.range_rules.specs.Scans.{is_under, is_under_any, scan, key_of, with_scan}
use Rattle.range_rules.specs.Courses.{Course, Ended, at_start, after_action, stop_of, too_many, ended_by, run_from, run_routine}

-- a prefix that was scanned covers its keys, and stays scanned
under_scanned : (scans : List Prefix) (p : Prefix) (k : Key) → is_among key_cmp (map key_of scans) (key_of p) ≡ true → is_under p k ≡ true
    → is_under_any scans k ≡ true
under_scanned [] p k e u = cc
under_scanned (q ∷ qs) p k e u = elim (eq_by_cmp key_cmp (key_of p) (key_of q)) as (λ b. eq_by_cmp key_cmp (key_of p) (key_of q) ≡ b
    → (b || is_among key_cmp (map key_of qs) (key_of p)) ≡ true → (is_under q k || is_under_any qs k) ≡ true) [
      | true ↦ λ t _. or_left _ _
          (sym (ap (λ (x : Key). is_under (record { table = x.table; parts = x.parts }) k) (same_key key_cmp-IsAntisymmetric (key_of p) (key_of q) t)) ∙ u)
      | false ↦ λ t rest. or_right _ _ (under_scanned qs p k rest u)
    ] refl e

scan_kept : (scans : List Prefix) (p : Prefix) (k : Key) → is_under_any scans k ≡ true → is_under_any (with_scan scans p) k ≡ true
scan_kept scans p k e = elim (is_among key_cmp (map key_of scans) (key_of p)) as (λ b. is_under_any (if b then scans else scans ++ p ∷ []) k ≡ true) [
  | true ↦ e
  | false ↦ list_any-append (λ q. is_under q k) scans (p ∷ []) ∙ or_left _ _ e
]

scan_covers : (scans : List Prefix) (p : Prefix) (k : Key) → is_under p k ≡ true → is_under_any (with_scan scans p) k ≡ true
scan_covers scans p k u = elim (is_among key_cmp (map key_of scans) (key_of p)) as (λ b. is_among key_cmp (map key_of scans) (key_of p) ≡ b
    → is_under_any (if b then scans else scans ++ p ∷ []) k ≡ true) [
      | true ↦ λ e. under_scanned scans p k e u
      | false ↦ λ e. list_any-append (λ q. is_under q k) scans (p ∷ []) ∙ or_right _ _ (or_left _ _ u)
    ] refl

-- maps that agree under a prefix have the same rows there
pub scan_agrees : (x y : Database) (p : Prefix) → ((k : Key) → is_under p k ≡ true → fin.get x k ≡ fin.get y k) → scan x p ≡ scan y p
scan_agrees x y p h = ap fin.entries (same_map key_cmp_total key_cmp-IsAntisymmetric (fin.retain_keys x (is_under p)) (fin.retain_keys y (is_under p)) (λ k.
    fin.get-retain_keys x (is_under p) k (λ z t. ap (is_under p) (sym (key_cmp-IsAntisymmetric k z t)))
    ∙ elim (is_under p k) as (λ b. is_under p k ≡ b → (if b then fin.get x k else None) ≡ (if b then fin.get y k else None))
    [ true ↦ λ u. h k u | false ↦ λ u. refl ] refl
    ∙ sym (fin.get-retain_keys y (is_under p) k (λ z t. ap (is_under p) (sym (key_cmp-IsAntisymmetric k z t))))))

module _ (act : List Seen → Action) where
  -- ---- what was read and scanned stays so

  module _ (P : Course → Type 0) (kept : (c : Course) → P c → P (after_action c (act c.seen))) where
    pub kept_on : (n : ℕ) (c : Course) → P c → P (run_from act n c).course
    kept_on zero c p = elim (stop_of (act c.seen)) as (λ s. P (ended_by s c (record { end = too_many; course = c })).course) [ None ↦ p | Some e ↦ p ]
    kept_on (suc n) c p = elim (stop_of (act c.seen)) as (λ s. P (ended_by s c (run_from act n (after_action c (act c.seen)))).course) [
      | None ↦ kept_on n (after_action c (act c.seen)) (kept c p)
      | Some e ↦ p
    ]

pub record HasRead (k : Key) (c : Course) : Type 0 where
  pub is : is_among key_cmp c.noted.reads k ≡ true

read_kept : (k : Key) (c : Course) (a : Action) → HasRead k c → HasRead k (after_action c a)
read_kept k c (Read q) h = record { is = among_noted key_cmp c.noted (visit_read q) k h.is }
read_kept k c (Write q row) h = record { is = h.is }
read_kept k c (Scan p) h = record { is = h.is }
read_kept k c (Stop e) h = h

pub record HasScanned (k : Key) (c : Course) : Type 0 where
  pub is : is_under_any c.scans k ≡ true

scanned_kept : (k : Key) (c : Course) (a : Action) → HasScanned k c → HasScanned k (after_action c a)
scanned_kept k c (Read q) h = record { is = h.is }
scanned_kept k c (Write q row) h = record { is = h.is }
scanned_kept k c (Scan p) h = record { is = scan_kept c.scans p k h.is }
scanned_kept k c (Stop e) h = h

-- the map as it is now is the start with the rows written so far
pub record IsOver (db : Database) (c : Course) : Type 0 where
  pub is : c.map ≡ overwritten db c.noted.writes

over_kept : (db : Database) (c : Course) (a : Action) → IsOver db c → IsOver db (after_action c a)
over_kept db c (Read q) h = record { is = h.is }
over_kept db c (Write q row)
    h = record { is = ap (λ m. set_at m q row) h.is ∙ sym (overwritten-with_write key_cmp_total key_cmp-IsAntisymmetric db c.noted.writes q row) }
over_kept db c (Scan p) h = record { is = h.is }
over_kept db c (Stop e) h = h

-- ---- what it saw decides it

-- the same run on another map
abbrev on_map : Course → Database → Course
on_map c y = record { map = y; noted = c.noted; scans = c.scans; seen = c.seen }

pub record SameEnded (r s : Ended) : Type 0 where
  pub end : r.end ≡ s.end
  pub noted : r.course.noted ≡ s.course.noted
  pub scans : r.course.scans ≡ s.course.scans

-- whether it read the key before it wrote it, or scanned it
abbrev seen_by : Ended → Key → Bool
seen_by r k = is_among key_cmp r.course.noted.reads k || is_under_any r.course.scans k

module _ (act : List Seen → Action) where
  -- the databases agree where the run saw, and where it wrote before
  abbrev Agree : Ended → Course → Database → Type 0
  Agree r c y = (k : Key) → (seen_by r k || is_among key_cmp (keys_of c.noted.writes) k) ≡ true → fin.get c.map k ≡ fin.get y k

  abbrev step : ℕ → Course → Action → Ended
  step n c a = ended_by (stop_of a) c (run_from act n (after_action c a))

  agree : (n : ℕ) (c : Course) (y : Database) → Agree (run_from act n c) c y → SameEnded (run_from act n c) (run_from act n (on_map c y))
  agree zero c y h = elim (stop_of (act c.seen))
      as (λ s. SameEnded (ended_by s c (record { end = too_many; course = c })) (ended_by s (on_map c y) (record { end = too_many; course = on_map c y }))) [
        | None ↦ record { end = refl; noted = refl; scans = refl }
        | Some e ↦ record { end = refl; noted = refl; scans = refl }
      ]
  agree (suc n) c y h = elim (act c.seen) as (λ a. Agree (step n c a) c y → SameEnded (step n c a) (step n (on_map c y) a)) [
    | Read k ↦ λ h.
        let next = after_action c (Read k) in
        let same : fin.get c.map k
        ≡ fin.get y k = h k (weaker _ _ _ (λ e. or_left _ _ (kept_on act (HasRead k) (λ c. read_kept k c (act c.seen)) n next (record { is = e })).is)
        (has_read key_cmp_total c.noted k)) in
        let other : on_map next y
        ≡ after_action (on_map c y) (Read k) = λ i. record { map = y; noted = next.noted; scans = c.scans; seen = c.seen ++ One (same i) ∷ [] } in
        subst (λ d. SameEnded (run_from act n next) (run_from act n d)) other (agree n next y h)
    | Write k row ↦ λ h.
        let next = after_action c (Write k row) in
        let r = run_from act n next in
        agree n next (set_at y k row) (λ q e. set_agree key_cmp_total c.map y k row q (λ apart. h q (
        sym (ap (λ b. seen_by r q || b) (is_among-with_write key_cmp_total key_cmp-IsAntisymmetric c.noted.writes k row q
        ∙ ap (λ b. b || is_among key_cmp (keys_of c.noted.writes) q) apart)) ∙ e)))
    | Scan p ↦ λ h.
        let next = after_action c (Scan p) in
        let same : scan c.map p
        ≡ scan y p = scan_agrees c.map y p
        (λ k u. h k (or_left _ _
        (or_right _ _ (kept_on act (HasScanned k) (λ c. scanned_kept k c (act c.seen)) n next (record { is = scan_covers c.scans p k u })).is))) in
        let other : on_map next y
        ≡ after_action (on_map c y) (Scan p) = λ i. record { map = y; noted = c.noted; scans = next.scans; seen = c.seen ++ Many (same i) ∷ [] } in
        subst (λ d. SameEnded (run_from act n next) (run_from act n d)) other (agree n next y h)
    | Stop e ↦ λ h. record { end = refl; noted = refl; scans = refl }
  ] h

  pub routine_agrees : (m n : Database) → ((k : Key) → seen_by (run_routine act m) k ≡ true → fin.get m k ≡ fin.get n k)
      → SameEnded (run_routine act m) (run_routine act n)
  unfolding run_routine
  routine_agrees m n h = agree MOST_ACTIONS (at_start m) n (λ k e. h k (alone _ e))
    where
      alone : (b : Bool) → (b || false) ≡ true → b ≡ true
      alone true e = refl
      alone false e = e

  -- what each action keeps holds where the run ends
  pub routine_keeps : (P : Course → Type 0) → ((c : Course) → P c → P (after_action c (act c.seen))) → (db : Database) → P (at_start db)
      → P (run_routine act db).course
  unfolding run_routine
  routine_keeps P kept db p = kept_on act P kept MOST_ACTIONS (at_start db) p

  pub routine_over : (db : Database) → IsOver db (run_routine act db).course
  unfolding run_routine
  routine_over db = kept_on act (IsOver db) (λ c. over_kept db c (act c.seen)) MOST_ACTIONS (at_start db) (record { is = refl })

-- ---- action by action, as code runs it

module _ (act : List Seen → Action) where
  pub run_stops : (n : ℕ) (c : Course) (e : End) → stop_of (act c.seen) ≡ Some e → run_from act n c ≡ record { end = e; course = c }
  run_stops zero c e s = ap (λ s. ended_by s c (record { end = too_many; course = c })) s
  run_stops (suc n) c e s = ap (λ s. ended_by s c (run_from act n (after_action c (act c.seen)))) s

  pub run_goes_on : (n : ℕ) (c : Course) → stop_of (act c.seen) ≡ None → run_from act (suc n) c ≡ run_from act n (after_action c (act c.seen))
  run_goes_on n c s = ap (λ s. ended_by s c (run_from act n (after_action c (act c.seen)))) s

  pub run_out : (c : Course) → stop_of (act c.seen) ≡ None → run_from act zero c ≡ record { end = too_many; course = c }
  run_out c s = ap (λ s. ended_by s c (record { end = too_many; course = c })) s

  -- from here so many actions less lead to the end of the run
  pub record Leads (db : Database) (made : ℕ) (c : Course) : Type 0 where
    pub on : (n : ℕ) → n + made ≡ MOST_ACTIONS → run_from act n c ≡ run_routine act db

  pub leads_from : (db : Database) → Leads db 0 (at_start db)
  unfolding run_routine
  leads_from db = record { on = λ n e. let same : n ≡ MOST_ACTIONS = omega arith in ap (λ n. run_from act n (at_start db)) same }

  pub leads_on : (db : Database) (made : ℕ) (c d : Course) (a : Action) → Leads db made c → a ≡ act c.seen → stop_of a ≡ None → d ≡ after_action c a
      → Leads db (made + 1) d
  leads_on db made c d a before is going next = record {
    on = λ n e.
        let more : suc n + made ≡ MOST_ACTIONS = omega arith in
        ap (run_from act n) (next ∙ ap (after_action c) is) ∙ sym (run_goes_on n c (ap stop_of (sym is) ∙ going)) ∙ before.on (suc n) more;
  }

  pub leads_to : (db : Database) (made : ℕ) (c : Course) (e : End) → made ≤ MOST_ACTIONS → Leads db made c → act c.seen ≡ Stop e → run_routine act db
      ≡ record { end = e; course = c }
  leads_to db made c e few before is =
      let left : (MOST_ACTIONS - made) + made ≡ MOST_ACTIONS = omega arith in
      sym (before.on (MOST_ACTIONS - made) left) ∙ run_stops (MOST_ACTIONS - made) c e (ap stop_of is)

  pub leads_out : (db : Database) (c : Course) → Leads db MOST_ACTIONS c → stop_of (act c.seen) ≡ None → run_routine act db
      ≡ record { end = too_many; course = c }
  leads_out db c before going = let none : 0 + MOST_ACTIONS ≡ MOST_ACTIONS = omega arith in sym (before.on 0 none) ∙ run_out c going
