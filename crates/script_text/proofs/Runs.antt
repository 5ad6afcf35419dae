-- A run of bytes without a line feed is taken at once, or refused at its first byte past a bound.
use Rattle.std.proofs.Common.{◌≡◌, ℕ, suc, ◌+◌, ◌-◌, ◌<◌, ◌≤◌, List, [], ◌∷◌, ◌++◌, length, Some, None, Bool, true, false, refl, ap, sym, subst, ◌∙◌, arith, append_assoc, length-append, add-zero}
use Rattle.std.specs.Prelude.{◌==◌, not, nat_le}
use Rattle.std.specs.List.{list_all}
use Rattle.std.proofs.lemmas.Bool.{and_parts, lt-leb, leb-false, leb-true}
use Rattle.std.proofs.lemmas.List.{append-nil}
use Rattle.std.proofs.lemmas.Bool.Decides.{nat_tests}
use Rattle.std.proofs.lemmas.Grind.{common_steps}
use Rattle.script_text.specs.declared.refusals.RefusalKind.{RefusalKind}
use Rattle.script_text.specs.declared.refusals.RefusalKind.TheVariants.{Long, Size}
use Rattle.script_text.specs.Cuts.{Lacks, IsCutAt}
use Rattle.script_text.specs.Lines.{Feed, Scan, scan_after, with_byte, unreturned, refused_at}
use Rattle.script_text.specs.Runs.{counted, first_past}

abbrev pub taken_by : Feed → List ℕ → Feed
taken_by feed run = record feed { taken = feed.taken + length run; begun = feed.begun ++ run }

-- a byte that is no line feed and past no bound
one : (done : List (List ℕ)) (feed : Feed) (b : ℕ) (bs : List ℕ) → (b == 10) ≡ false → nat_le feed.longest (length feed.begun) ≡ false
    → nat_le feed.limit feed.taken ≡ false
    → scan_after done feed (b ∷ bs) ≡ scan_after done (with_byte feed b) bs
one done feed b bs other line limit = rw (other, line, limit)

pub run_taken : (done : List (List ℕ)) (feed : Feed) (run more : List ℕ) → Lacks 10 run → length feed.begun + length run ≤ feed.longest
    → feed.taken + length run ≤ feed.limit
    → scan_after done feed (run ++ more) ≡ scan_after done (taken_by feed run) more
run_taken done feed [] more lacks line limit =
    let n = add-zero feed.taken in
    let b = append-nil feed.begun in
    rw (n, b) refl
run_taken done feed (b ∷ run) more lacks line limit =
    let parts = and_parts (not (b == 10)) (list_all (λ c. not (c == 10)) run) lacks in
    let other : (b == 10) ≡ false = grind (arith, common_steps, parts.0) in
    let short : nat_le feed.longest (length feed.begun) ≡ false = lt-leb feed.longest (length feed.begun) (omega arith) in
    let few : nat_le feed.limit feed.taken ≡ false = lt-leb feed.limit feed.taken (omega arith) in
    let n : feed.taken + 1 + length run ≡ feed.taken + length (b ∷ run) = omega arith in
    one done feed b (run ++ more) other short few
    ∙ run_taken done (with_byte feed b) run more parts.1 (omega (arith, length-append feed.begun (b ∷ []))) (omega arith)
    ∙ rw (n, append_assoc feed.begun (b ∷ []) run) refl

-- a line with its line feed
pub line_taken : (done : List (List ℕ)) (feed : Feed) (rest run behind line : List ℕ) (next : ℕ) (whole : Scan) → IsCutAt 10 rest (Some (run, behind))
    → scan_after done feed rest ≡ whole
    → line ≡ unreturned (feed.begun ++ run) → length feed.begun + length run ≤ feed.longest → next ≡ feed.taken + (length run + 1) → next ≤ feed.limit
    → scan_after (done ++ line ∷ []) (record feed { taken = next; count = feed.count + 1; begun = [] }) behind ≡ whole
line_taken done feed rest run behind line next whole cut e is short taken limit =
    let few : nat_le feed.limit (feed.taken + length run) ≡ false = lt-leb feed.limit (feed.taken + length run) (omega arith) in
    let after : feed.taken + length run + 1 ≡ next = omega arith in
    sym (sym e ∙ ap (scan_after done feed) cut.1 ∙ run_taken done feed run (10 ∷ behind) cut.0 short (omega arith) ∙ rw (few, after, is) refl)

-- what stands behind the last line feed
pub rest_taken : (done : List (List ℕ)) (feed : Feed) (rest : List ℕ) (next : ℕ) (whole : Scan) → Lacks 10 rest → scan_after done feed rest ≡ whole
    → length feed.begun + length rest ≤ feed.longest → next ≡ feed.taken + (length rest + 0) → next ≤ feed.limit
    → whole ≡ record { lines = done; feed = record feed { taken = next; begun = feed.begun ++ rest }; fault = None }
rest_taken done feed rest next whole lacks e line taken limit =
    let n : feed.taken + length rest ≡ next = omega arith in
    sym e ∙ ap (scan_after done feed) (sym (append-nil rest)) ∙ run_taken done feed rest [] lacks line (omega arith) ∙ rw n refl

-- ---- refusals

pub record IsStopped (s : Scan) (done : List (List ℕ)) (count : ℕ) (kind : RefusalKind) : Type 0 where
  pub lines : s.lines ≡ done
  pub fault : s.fault ≡ Some (refused_at count kind)

some_same : (a b : RefusalKind) → Some a ≡ Some b → a ≡ b
some_same a b e = cc

past_long : (room left run whole : ℕ) → room < run → room ≤ left → first_past room left run whole ≡ Some Long
past_long room left run whole h k = grind (arith, nat_tests)

past_size : (room left run whole : ℕ) → left < room → left < whole → first_past room left run whole ≡ Some Size
past_size room left run whole h k = grind (arith, nat_tests)

past_none : (room left : ℕ) → 0 < left → first_past room left 0 1 ≡ None
past_none room left h = grind (arith, nat_tests)

past_less : (room left run whole r l : ℕ) → room ≡ suc r → left ≡ suc l → first_past room left (suc run) (suc whole) ≡ first_past r l run whole
past_less room left run whole r l h k = grind (arith, nat_tests)

-- the line feed behind a run, or nothing
abbrev pub tail : Bool → List ℕ → List ℕ
tail true rest = 10 ∷ rest
tail false rest = []

pub refused : (feeds : Bool) (rest : List ℕ) (done : List (List ℕ)) (feed : Feed) (run : List ℕ) (kind : RefusalKind) → Lacks 10 run
    → length feed.begun ≤ feed.longest → feed.taken ≤ feed.limit
    → first_past (feed.longest - length feed.begun) (feed.limit - feed.taken) (length run) (length run + counted feeds) ≡ Some kind
    → IsStopped (scan_after done feed (run ++ tail feeds rest)) done feed.count kind
refused true rest done feed [] kind lacks line limit e = by (nat_le feed.limit feed.taken) refl
  where
    by : (q : Bool) → nat_le feed.limit feed.taken ≡ q → IsStopped (scan_after done feed (10 ∷ rest)) done feed.count kind
    by true h =
        let none : feed.limit - feed.taken ≡ 0 = omega (arith, leb-true feed.limit feed.taken h) in
        let first : first_past (feed.longest - length feed.begun) (feed.limit - feed.taken) 0 1 ≡ Some Size = grind (arith, nat_tests, none) in
        let same : Size ≡ kind = some_same Size kind (sym first ∙ e) in
        rw h (record { lines = refl; fault = ap (λ k. Some (refused_at feed.count k)) same })
    by false h =
        let some : 0 < feed.limit - feed.taken = omega (arith, leb-false feed.limit feed.taken h) in
        let none : Some kind ≡ None = sym e ∙ past_none (feed.longest - length feed.begun) (feed.limit - feed.taken) some in
        absurd cc
refused false rest done feed [] kind lacks line limit e = let none : None ≡ Some kind = grind (arith, nat_tests, e) in absurd cc
refused feeds rest done feed (b ∷ run) kind lacks line limit e =
    by (refused feeds rest done (with_byte feed b) run kind parts.1) (nat_le feed.longest (length feed.begun)) refl (nat_le feed.limit feed.taken) refl
  where
    parts : (not (b == 10) ≡ true) × (list_all (λ c. not (c == 10)) run ≡ true)
    parts = and_parts (not (b == 10)) (list_all (λ c. not (c == 10)) run) lacks

    other : (b == 10) ≡ false
    other = grind (arith, common_steps, parts.0)

    by : (length (with_byte feed b).begun ≤ feed.longest → feed.taken + 1 ≤ feed.limit
        → first_past (feed.longest - length (with_byte feed b).begun) (feed.limit - (feed.taken + 1)) (length run) (length run + counted feeds) ≡ Some kind
        → IsStopped (scan_after done (with_byte feed b) (run ++ tail feeds rest)) done feed.count kind)
        → (p : Bool) → nat_le feed.longest (length feed.begun) ≡ p → (q : Bool) → nat_le feed.limit feed.taken ≡ q
        → IsStopped (scan_after done feed (b ∷ run ++ tail feeds rest)) done feed.count kind
    by rec true h q k =
        let none : feed.longest - length feed.begun ≡ 0 = omega (arith, leb-true feed.longest (length feed.begun) h) in
        let first = past_long (feed.longest - length feed.begun) (feed.limit - feed.taken) (length (b ∷ run)) (length (b ∷ run) + counted feeds) (omega arith)
        (omega arith) in
        let same : Long ≡ kind = some_same Long kind (sym first ∙ e) in
        rw (other, h) (record { lines = refl; fault = ap (λ k. Some (refused_at feed.count k)) same })
    by rec false h true k =
        let room : 0 < feed.longest - length feed.begun = omega (arith, leb-false feed.longest (length feed.begun) h) in
        let none : feed.limit - feed.taken ≡ 0 = omega (arith, leb-true feed.limit feed.taken k) in
        let first = past_size (feed.longest - length feed.begun) (feed.limit - feed.taken) (length (b ∷ run)) (length (b ∷ run) + counted feeds) (omega arith)
        (omega arith) in
        let same : Size ≡ kind = some_same Size kind (sym first ∙ e) in
        rw (other, h, k) (record { lines = refl; fault = ap (λ k. Some (refused_at feed.count k)) same })
    by rec false h false k =
        let room : length feed.begun < feed.longest = leb-false feed.longest (length feed.begun) h in
        let left : feed.taken < feed.limit = leb-false feed.limit feed.taken k in
        let n : length (feed.begun ++ b ∷ []) ≡ length feed.begun + 1 = length-append feed.begun (b ∷ []) in
        let r : feed.longest - length feed.begun ≡ suc (feed.longest - length (feed.begun ++ b ∷ [])) = omega (arith, n) in
        let l : feed.limit - feed.taken ≡ suc (feed.limit - (feed.taken + 1)) = omega arith in
        let w : length (b ∷ run) + counted feeds ≡ suc (length run + counted feeds) = omega arith in
        let less = past_less (feed.longest - length feed.begun) (feed.limit - feed.taken) (length run) (length run + counted feeds)
        (feed.longest - length (feed.begun ++ b ∷ [])) (feed.limit - (feed.taken + 1)) r l in
        let again = rec (omega (arith, n)) (omega arith)
        (sym less ∙ ap (first_past (feed.longest - length feed.begun) (feed.limit - feed.taken) (suc (length run))) (sym w) ∙ e) in
        rw (other, h, k) again

-- a refused line with its line feed, and one without
pub line_refused : (done : List (List ℕ)) (feed : Feed) (rest run behind : List ℕ) (kind : RefusalKind) (whole : Scan) → IsCutAt 10 rest (Some (run, behind))
    → scan_after done feed rest ≡ whole
    → length feed.begun ≤ feed.longest → feed.taken ≤ feed.limit
    → Some kind ≡ first_past (feed.longest - length feed.begun) (feed.limit - feed.taken) (length run) (length run + 1)
    → IsStopped whole done feed.count kind
line_refused done feed rest run behind kind whole cut e line limit h =
    subst (λ (s : Scan). IsStopped s done feed.count kind) (sym (ap (scan_after done feed) cut.1) ∙ e)
    (refused true behind done feed run kind cut.0 line limit (sym h))

pub rest_refused : (done : List (List ℕ)) (feed : Feed) (rest : List ℕ) (kind : RefusalKind) (whole : Scan) → Lacks 10 rest → scan_after done feed rest ≡ whole
    → length feed.begun ≤ feed.longest → feed.taken ≤ feed.limit
    → Some kind ≡ first_past (feed.longest - length feed.begun) (feed.limit - feed.taken) (length rest) (length rest + 0)
    → IsStopped whole done feed.count kind
rest_refused done feed rest kind whole lacks e line limit h =
    subst (λ (s : Scan). IsStopped s done feed.count kind) (ap (scan_after done feed) (append-nil rest) ∙ e)
    (refused false [] done feed rest kind lacks line limit (sym h))
