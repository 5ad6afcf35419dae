-- A batch that is too large is one of those that are run.
use Rattle.std.proofs.Common.{◌≡◌, subst, refl, ℕ, zero, suc, ◌+◌, ◌<◌, ◌≤◌, Bool, true, false, cond, List, [], ◌∷◌, length, arith}
use Rattle.std.specs.Prelude.{Result, Ok, Err, nat_lt, nat_le}
use Rattle.aria_base.specs.Orders.{Database}
use Rattle.aria_base.specs.declared.calls.Call.{Call}
use Rattle.aria_base.specs.declared.limits.TheConstants.{MOST_REQUESTS}
use Rattle.proc_lang.specs.Catalogs.{Plan}
use Rattle.proc_lang.specs.declared.ends.End.{End}
use Rattle.aria_base.specs.declared.calls.Request.{Request}
use Rattle.std.specs.Prelude.{Option, Some, None}
use Rattle.serial_check.specs.Lines.{batch_line, end_line, kept_line, state_line, end_state_line}
use Rattle.serial_check.specs.Reports.{◌>>=◌, Ran, after, answer, answer_lines, answered, batch, batches, begun, closed, drained, ended, expect, expect_all, expect_end, failing, finding, finding_of, is_drained, is_line, kept, list_of, listing, may_list, or_failing, order_at, pass, ran_at, replies, reply, row_lines, run, run_from, stands, told_at, whole}
use Rattle.serial_check.specs.declared.findings.Flaw.{Flaw}
use Rattle.serial_check.specs.declared.findings.Flaw.TheVariants as flawed
use Rattle.serial_check.specs.declared.standings.Reading.{Reading}
use Rattle.serial_check.specs.declared.standings.Standing.{Standing}
use Rattle.serial_check.specs.Crowds.{IsOneOf, run_behind}

-- what goes on is so, and where a batch is too large its number is
abbrev Says : {A : Type 0} → (A → Type 0) → (ℕ → Type 0) → Result A Flaw → Type 0
Says Q P (Ok x) = Q x
Says Q P (Err (flawed.Fails line wanted found)) = Unit {0}
Says Q P (Err (flawed.Crowded number)) = P number

abbrev Any : {A : Type 0} → A → Type 0
Any x = Unit {0}

module _ (P : ℕ → Type 0) where
  says_then : {A B : Type 0} (Q : A → Type 0) (R : B → Type 0) (r : Result A Flaw) (go : A → Result B Flaw) → Says Q P r → ((x : A) → Q x → Says R P (go x))
      → Says R P (r >>= go)
  says_then Q R (Ok x) go h more = more x h
  says_then Q R (Err (flawed.Fails line wanted found)) go h more = tt
  says_then Q R (Err (flawed.Crowded number)) go h more = h

  says_if : {A : Type 0} (Q : A → Type 0) (b : Bool) (x y : Result A Flaw) → Says Q P x → Says Q P y → Says Q P (cond b x y)
  says_if Q true x y h k = h
  says_if Q false x y h k = k

  module _ (report : List (List ℕ)) where
    passes : (test : List ℕ → Bool) (wanted : List ℕ) (at : ℕ) → Says Any P (pass report test wanted at)
    passes test wanted at = says_if Any (stands report test at) (Ok (at + 1)) (Err (failing report at wanted)) tt tt

    expects : (wanted : List ℕ) (at : ℕ) → Says Any P (expect report wanted at)
    expects wanted at = passes _ wanted at

    expects_all : (wanted : List (List ℕ)) (at : ℕ) → Says Any P (expect_all report wanted at)
    expects_all [] at = tt
    expects_all (w ∷ more) at = says_then Any Any (expect report w at) (expect_all report more) (expects w at) (λ next h. expects_all more next)

    ends_here : (at : ℕ) → Says Any P (expect_end report at)
    ends_here at = says_if Any (nat_lt at (length report)) (Err (failing report at [])) (Ok at) tt tt

    replied : (q : ℕ) (end : Option End) (at : ℕ) → Says Any P (reply report q end at)
    replied q (Some end) at = expects _ at
    replied q None at = passes _ _ at

    all_replied : (ends : ℕ → Option End) (list : List Request) (at : ℕ) → Says Any P (replies report ends list at)
    all_replied ends [] at = tt
    all_replied ends (r ∷ more) at = says_then Any Any (reply report r.q (ends r.q) at) (replies report ends more) (replied r.q (ends r.q) at)
        (λ next h. all_replied ends more next)

    ordered : (at : ℕ) (order : Option (List Request)) → Says Any P (or_failing report at order)
    ordered at None = tt
    ordered at (Some order) = tt

    answer_told : (number : ℕ) (ends : ℕ → Option End) (list : List Request) (at : ℕ) → Says Any P (answer_lines report number ends list at)
    answer_told number ends list at =
        says_then Any Any (replies report ends list at) (λ at. expect report (end_line number) (at + 1)) (all_replied ends list at)
        (λ next h. expects (end_line number) (next + 1))

    kept_on : (reading : Reading) (number : ℕ) → Says (λ next. next.standing.batches ≡ reading.standing.batches) P (kept report reading number)
    kept_on reading number = says_then Any (λ next. next.standing.batches ≡ reading.standing.batches)
        (expect report (kept_line number) reading.at) (λ at. Ok (record reading { at = at; listed = false })) (expects (kept_line number) reading.at)
        (λ at h. refl)

    module _ (plan : Plan) where
      ran : (rows : Database) (list : List Request) (at : ℕ) → Says Any P (ran_at plan report rows list at)
      ran rows list at = says_then Any Any (order_at report list at) (λ order. Ok (run_from plan rows order)) (ordered at _) (λ order h. tt)

      told : (rows : Database) (number : ℕ) (list : List Request) (at : ℕ) → Says Any P (told_at plan report rows number list at)
      told rows number list at =
          says_then Any Any (ran_at plan report rows list (at + length list)) (λ ran. answer_lines report number ran.0 list at >>= (λ at. Ok (at, ran)))
          (ran rows list (at + length list))
          (λ found h. says_then Any Any (answer_lines report number found.0 list at) (λ at. Ok (at, found)) (answer_told number found.0 list at) (λ next k. tt))

      abbrev Next : Standing → Reading → Type 0
      Next standing next = next.standing.batches ≡ standing.batches + 1

      abbrev behind_told : Standing → List Call → ℕ × Ran → Result Reading Flaw
      behind_told standing calls found = Ok (record { at = found.0; standing = after standing calls found.1; listed = false })

      answers : (standing : Standing) (calls : List Call) (at : ℕ) → Says (Next standing) P (answer plan report standing calls at)
      answers standing calls at =
          says_then Any (Next standing) (expect report (batch_line (standing.batches + 1)) at)
          (λ at. told_at plan report standing.tables (standing.batches + 1) (list_of standing calls) at >>= behind_told standing calls)
          (expects (batch_line (standing.batches + 1)) at)
          (λ at h. says_then Any (Next standing) (told_at plan report standing.tables (standing.batches + 1) (list_of standing calls) at)
          (behind_told standing calls)
          (told standing.tables (standing.batches + 1) (list_of standing calls) at) (λ found k. refl))

      lists : (standing : Standing) (at : ℕ) → Says Any P (listing plan report standing at)
      lists standing at =
          says_then Any Any (expect report (state_line standing.batches) at)
          (λ at. expect_all report (row_lines plan standing.tables) at >>= expect report end_state_line) (expects (state_line standing.batches) at)
          (λ at h. says_then Any Any (expect_all report (row_lines plan standing.tables) at) (expect report end_state_line)
          (expects_all (row_lines plan standing.tables) at) (λ at k. expects end_state_line at))

      may_be_listed : (standing : Standing) (reading : Reading) → Next standing reading → Says (Next standing) P (may_list plan report reading)
      may_be_listed standing reading is =
          says_if (Next standing) (is_line report (state_line reading.standing.batches) reading.at)
          (listing plan report reading.standing reading.at >>= (λ at. Ok (record reading { at = at; listed = true }))) (Ok reading)
          (says_then Any (Next standing) (listing plan report reading.standing reading.at) (λ at. Ok (record reading { at = at; listed = true }))
          (lists reading.standing reading.at) (λ at h. is)) is

      is_answered : (reading : Reading) (calls : List Call) → Says (Next reading.standing) P (answered plan report reading calls)
      is_answered reading calls =
          says_then (Next reading.standing) (Next reading.standing) (answer plan report reading.standing calls reading.at) (may_list plan report)
          (answers reading.standing calls reading.at)
          (λ next h. may_be_listed reading.standing next h)

      drains : (n : ℕ) (reading : Reading) → Says Any P (drained plan report n reading)
      drains zero reading = tt
      drains (suc n) reading =
          says_if Any (is_drained report reading) (answered plan report reading [] >>= drained plan report n) (Ok reading)
          (says_then (Next reading.standing) Any (answered plan report reading []) (drained plan report n) (is_answered reading []) (λ next h. drains n next))
          tt

      closes : (reading : Reading) → Says Any P (closed plan report reading)
      closes reading =
          says_if Any reading.listed (expect_end report reading.at) (listing plan report reading.standing reading.at >>= expect_end report)
          (ends_here reading.at)
          (says_then Any Any (listing plan report reading.standing reading.at) (expect_end report) (lists reading.standing reading.at) (λ at h. ends_here at))

      ends : (reading : Reading) → Says Any P (ended plan report reading)
      ends reading = says_then Any Any (drained plan report (length report) reading) (closed plan report) (drains (length report) reading)
          (λ next h. closes next)

-- ---- the script's batches

more_step : (n : ℕ) (more : List (ℕ × List Call)) → ((m : ℕ) → m ≤ run_behind m more) → (b : Bool) → n ≤ run_behind (cond b n (n + 1)) more
more_step n more rest true = rest n
more_step n more rest false = omega (arith, rest (n + 1))

more_behind : (n : ℕ) (script : List (ℕ × List Call)) → n ≤ run_behind n script
more_behind n [] = omega arith
more_behind n (b ∷ more) = more_step n more (λ m. more_behind m more) (nat_le b.0 n)

-- one of those that are run behind so many
abbrev IsRun : ℕ → List (ℕ × List Call) → ℕ → Type 0
IsRun n script number = (n < number) × (number ≤ run_behind n script)

says_less : {A : Type 0} (Q : A → Type 0) (P R : ℕ → Type 0) (r : Result A Flaw) → ((n : ℕ) → P n → R n) → Says Q P r → Says Q R r
says_less Q P R (Ok x) less h = h
says_less Q P R (Err (flawed.Fails line wanted found)) less h = h
says_less Q P R (Err (flawed.Crowded number)) less h = less number h

no_less : (n : ℕ) (b : Bool) → n ≤ cond b n (n + 1)
no_less n true = omega arith
no_less n false = omega arith

later : (n number : ℕ) (more : List (ℕ × List Call)) (b : Bool) → IsRun (cond b n (n + 1)) more number
    → (n < number) × (number ≤ run_behind (cond b n (n + 1)) more)
later n number more b h = (omega (arith, no_less n b, h.0), h.1)

module _ (plan : Plan) (report : List (List ℕ)) where
  batch_on : (reading : Reading) (next : ℕ × List Call) (more : List (ℕ × List Call)) (b : Bool)
      → Says (λ behind. behind.standing.batches ≡ cond b reading.standing.batches (reading.standing.batches + 1))
      (λ number. (reading.standing.batches < number) × (number ≤ run_behind (cond b reading.standing.batches (reading.standing.batches + 1)) more))
      (cond b (kept report reading next.0) (run plan report reading next.1))
  batch_on reading next more true = kept_on _ report reading next.0
  batch_on reading next more false =
      let n = reading.standing.batches in
      says_if _ _ (nat_lt MOST_REQUESTS (length reading.standing.carried + length next.1)) (Err (flawed.Crowded (n + 1))) (answered plan report reading next.1)
      (omega arith, more_behind (n + 1) more) (is_answered _ report plan reading next.1)

  batches_on : (script : List (ℕ × List Call)) (reading : Reading) → Says Any (IsRun reading.standing.batches script) (batches plan report reading script)
  batches_on [] reading = tt
  batches_on (next ∷ more) reading =
      let n = reading.standing.batches in
      let b = nat_le next.0 n in
      says_then (IsRun n (next ∷ more)) (λ (behind : Reading). behind.standing.batches ≡ cond b n (n + 1)) Any (batch plan report reading next)
      (λ behind. batches plan report behind more)
      (batch_on reading next more b)
      (λ behind is. says_less Any (IsRun behind.standing.batches more) (IsRun n (next ∷ more)) (batches plan report behind more)
      (λ number h. later n number more b (subst (λ (m : ℕ). IsRun m more number) is h)) (batches_on more behind))

  all_on : (rows : Database) (script : List (ℕ × List Call)) → Says Any (IsRun 0 script) (whole plan report rows script)
  all_on rows script =
      says_then (IsRun 0 script) Any Any (batches plan report (begun rows) script) (ended plan report) (batches_on script (begun rows))
      (λ reading h. ends _ report plan reading)

is_one : (most : ℕ) (r : Result ℕ Flaw) → Says Any (λ number. (0 < number) × (number ≤ most)) r → IsOneOf most (finding_of r)
is_one most (Ok end) h = tt
is_one most (Err (flawed.Fails line wanted found)) h = tt
is_one most (Err (flawed.Crowded number)) h = (omega (arith, h.0), h.1)

pub crowded_is_run : (plan : Plan) (report : List (List ℕ)) (rows : Database) (script : List (ℕ × List Call))
    → IsOneOf (run_behind 0 script) (finding plan report rows script)
crowded_is_run plan report rows script = is_one (run_behind 0 script) (whole plan report rows script) (all_on plan report rows script)
