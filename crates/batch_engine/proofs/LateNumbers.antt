-- Those that wait, by the numbers of their keys.
use Rattle.std.proofs.Common.{◌≡◌, refl, sym, ap, ◌∙◌, ℕ, suc, ◌+◌, ◌-◌, ◌≤◌, List, [], ◌∷◌, ◌++◌, map, length, true, arith, append_assoc, length-append, subst}
use Rattle.std.specs.List.{All}
use Rattle.std.specs.Prelude.{slice_index_or}
use Rattle.std.proofs.Math.Seq.{get_or-append_seam}
use Rattle.std.proofs.lemmas.List.{length-map}
use Rattle.std.proofs.lemmas.List.Elements.{All-nil, All-cons, All-head, All-tail}
use Rattle.aria_base.specs.Orders.{key_cmp}
use Rattle.aria_base.specs.declared.calls.Request.{Request}
use Rattle.aria_base.specs.declared.keys.Key.{Key}
use Rattle.batch_rules.specs.Touches.{Declared, is_among}
use Rattle.batch_rules.specs.declared.verdicts.Verdict.{Verdict}
use Rattle.batch_rules.specs.declared.verdicts.Verdict.TheVariants.{Finish, Wait}
use Rattle.dep_rules.specs.Decisions.{reads_of, writes_of}
use Rattle.dep_rules.specs.Sheets.{Sheet, IsTid}
use Rattle.dep_rules.specs.declared.sets.Sets.{Sets}
use Rattle.fallback_locks.specs.Numbers.{numbers_at, numbers_in, StandFor}
use Rattle.proc_exec.specs.declared.outcomes.Waiting.{Waiting}
use Rattle.batch_engine.specs.Lists.{waiting_with, waiting_among, tids_among}
use Rattle.batch_engine.specs.Marks.{NumbersKeys}

-- the TIDs of those that wait are among those of all
pub tids_within : (most tid : ℕ) (verdicts : List Verdict) → 1 ≤ tid → tid + length verdicts ≤ suc most
    → All (λ t. (1 ≤ t) × (t ≤ most)) (tids_among tid verdicts)
tids_within most tid [] low high = All-nil (λ t. (1 ≤ t) × (t ≤ most))
tids_within most tid (Finish raw ∷ vs) low high = tids_within most (tid + 1) vs (omega (arith, low)) (omega (arith, high))
tids_within most tid (Wait cause ∷ vs) low high = All-cons (λ t. (1 ≤ t) × (t ≤ most)) tid (tids_among (tid + 1) vs) (low, omega (arith, high))
    (tids_within most (tid + 1) vs (omega (arith, low)) (omega (arith, high)))

-- what holds of all sets holds of those that wait
waiting_have : (P : List Key → Type 0) (of : Sets → List Key) (side : Waiting → List Key) → ((q : Request) (s : Sets) → side (waiting_with q s) ≡ of s)
    → (list : List Request) (sets : List Sets) (verdicts : List Verdict) → All (λ s. P (of s)) sets → All (λ w. P (side w)) (waiting_among list sets verdicts)
waiting_have P of side same [] sets verdicts all = All-nil (λ w. P (side w))
waiting_have P of side same (q ∷ qs) [] verdicts all = All-nil (λ w. P (side w))
waiting_have P of side same (q ∷ qs) (s ∷ ss) [] all = All-nil (λ w. P (side w))
waiting_have P of side same (q ∷ qs) (s ∷ ss) (Finish raw ∷ vs) all = waiting_have P of side same qs ss vs (All-tail (λ s. P (of s)) s ss all)
waiting_have P of side same (q ∷ qs) (s ∷ ss) (Wait cause ∷ vs) all =
    All-cons (λ w. P (side w)) (waiting_with q s) (waiting_among qs ss vs) (rw (same q s) (All-head (λ s. P (of s)) s ss all))
    (waiting_have P of side same qs ss vs (All-tail (λ s. P (of s)) s ss all))

pub tids_more : (tid : ℕ) (verdict : Verdict) (rest : List Verdict)
    → tids_among tid (verdict ∷ []) ++ tids_among (tid + 1) rest ≡ tids_among tid (verdict ∷ rest)
tids_more tid (Finish raw) rest = refl
tids_more tid (Wait cause) rest = refl

module _ (number : Key → ℕ) (sheet : Sheet) where
  abbrev shown : Sets → Declared ℕ
  shown s = record { reads = map number s.reads; writes = map number s.writes }

  -- from this TID on the sheet has the numbers of these sets
  abbrev Along : ℕ → List Sets → Type 0
  Along tid [] = Unit
  Along tid (s ∷ ss) = (numbers_at sheet tid ≡ shown s) × Along (tid + 1) ss

  waiting_numbered : (tid : ℕ) (list : List Request) (sets : List Sets) (verdicts : List Verdict) → length sets ≡ length list → length verdicts ≡ length list
      → Along tid sets → map (numbers_at sheet) (tids_among tid verdicts) ≡ map (numbers_in number) (waiting_among list sets verdicts)
  waiting_numbered tid [] [] [] e f h = refl
  waiting_numbered tid [] [] (v ∷ vs) e f h = absurd (omega (arith, f))
  waiting_numbered tid [] (s ∷ ss) vs e f h = absurd (omega (arith, e))
  waiting_numbered tid (q ∷ qs) [] vs e f h = absurd (omega (arith, e))
  waiting_numbered tid (q ∷ qs) (s ∷ ss) [] e f h = absurd (omega (arith, f))
  waiting_numbered tid (q ∷ qs) (s ∷ ss) (Finish raw ∷ vs) e f h = waiting_numbered (tid + 1) qs ss vs (omega (arith, e)) (omega (arith, f)) h.1
  waiting_numbered tid (q ∷ qs) (s ∷ ss) (Wait cause ∷ vs) e f h =
      let rest = waiting_numbered (tid + 1) qs ss vs (omega (arith, e)) (omega (arith, f)) h.1 in
      λ i. h.0 i ∷ rest i

  -- what the lists have at the TID of the set behind these
  at_behind : (lists : List (List ℕ)) (of : Sets → List Key) (done : List Sets) (s : Sets) (ss : List Sets)
      → lists ≡ map (λ s. map number (of s)) (done ++ s ∷ ss)
      → slice_index_or lists (length done + 1 - 1) [] ≡ map number (of s)
  at_behind lists of done s ss are =
      let at : length done + 1 - 1 ≡ length (map (λ s. map number (of s)) done) = let l = length-map done (λ s. map number (of s)) in omega (arith, l) in
      (λ i. slice_index_or ((are ∙ map_both done s ss) i) (at i) [])
      ∙ get_or-append_seam (map (λ s. map number (of s)) done) (map number (of s)) (map (λ s. map number (of s)) ss) []
    where
      map_both : (done : List Sets) (s : Sets) (ss : List Sets)
          → map (λ s. map number (of s)) (done ++ s ∷ ss) ≡ map (λ s. map number (of s)) done ++ map number (of s) ∷ map (λ s. map number (of s)) ss
      map_both [] s ss = refl
      map_both (d ∷ ds) s ss = ap (λ l. map number (of d) ∷ l) (map_both ds s ss)

  along : (done rest : List Sets) → sheet.reads ≡ map (λ s. map number s.reads) (done ++ rest) → sheet.writes ≡ map (λ s. map number s.writes) (done ++ rest)
      → Along (length done + 1) rest
  along done [] reads writes = tt
  along done (s ∷ ss) reads writes =
      let one = s ∷ [] in
      let next : length (done ++ one) + 1 ≡ length done + 1 + 1 = let l = length-append done one in omega (arith, l) in
      let r = at_behind sheet.reads (λ s. s.reads) done s ss reads in
      let w = at_behind sheet.writes (λ s. s.writes) done s ss writes in
      let cut = append_assoc done one ss in (
        (λ i. record { reads = r i; writes = w i }),
        subst (λ n. Along n ss) next (along (done ++ one) ss (reads ∙ ap (map (λ s. map number s.reads)) (sym cut)) (writes
            ∙ ap (map (λ s. map number s.writes)) (sym cut))),
      )

-- the sheet stands for those that wait
pub stands : (sheet : Sheet) (list : List Request) (sets : List Sets) (verdicts : List Verdict) → length sets ≡ length list → length verdicts ≡ length list
    → NumbersKeys reads_of writes_of sets sheet → StandFor sheet (tids_among 1 verdicts) (waiting_among list sets verdicts)
stands sheet list sets verdicts e f n = record {
  keys = n.keys;
  number = n.number;
  one_to_one = n.one_to_one;
  reads_among = waiting_have (All (λ k. is_among key_cmp n.keys k ≡ true)) (λ s. s.reads) (λ w. w.declared.reads)
      (λ q s. refl) list sets verdicts n.lists.reads_among;
  writes_among = waiting_have (All (λ k. is_among key_cmp n.keys k ≡ true)) (λ s. s.writes) (λ w. w.declared.writes)
      (λ q s. refl) list sets verdicts n.lists.writes_among;
  lists = waiting_numbered n.number sheet 1 list sets verdicts e f (along n.number sheet [] sets n.lists.reads_are n.lists.writes_are);
}

-- and each of their TIDs is one of the sheet's
pub tids_are : (sheet : Sheet) (sets : List Sets) (verdicts : List Verdict) → length verdicts ≡ length sets → NumbersKeys reads_of writes_of sets sheet
    → All (λ tid. IsTid sheet tid) (tids_among 1 verdicts)
tids_are sheet sets verdicts e n =
    let many : length sheet.reads ≡ length sets = ap length n.lists.reads_are ∙ length-map sets (λ s. map n.number (reads_of s)) in
    tids_within (length sheet.reads) 1 verdicts (omega arith) (omega (arith, many, e))
