-- The report of a script holds: batch by batch, then what is drained, then the end.
use Rattle.std.proofs.Common.{◌≡◌, ℕ, zero, suc, ◌+◌, ◌-◌, ◌<◌, ◌≤◌, ◌^◌, ◌⊎◌, inl, inr, List, [], ◌∷◌, ◌++◌, length, drop, Bool, true, false, not, cond, Result, Ok, Err, ◌&&◌, ◌||◌, refl, ap, sym, ◌∙◌, subst, arith, append_assoc, append-nil, ltb-true}
use Rattle.std.specs.Prelude.{if◌then◌else◌, nat_lt, unwrap_or}
use Rattle.std.specs.Str.{bytes_eq}
use Rattle.std.proofs.lemmas.Bool.{lt-ltb, false_from_ne_true}
use Rattle.std.proofs.lemmas.List.{length-append, length-drop}
use Rattle.std.proofs.lemmas.Option.{slice_get_past}
use Rattle.aria_base.specs.Orders.{Database}
use Rattle.aria_base.specs.declared.limits.TheConstants.{MOST_REQUESTS}
use Rattle.batch_core.specs.Serial.{IsNumbered}
use Rattle.batch_core.specs.Steps.{State, Handed, answer, run, step}
use Rattle.batch_core.proofs.Serial.{keeps_numbers}
use Rattle.batch_rules.specs.declared.verdicts.Rule.{Rule}
use Rattle.proc_lang.specs.Catalogs.{Plan, run_of}
use Rattle.serial_check.specs.Lines.{batch_line, kept_line, state_line, end_state_line}
use Rattle.serial_check.specs.Reports as check
use Rattle.serial_check.specs.Reports.{◌>>=◌, row_lines}
use Rattle.serial_check.specs.declared.findings.Finding.TheVariants.{Fails, Holds}
use Rattle.report_laws.specs.Printed.{Given, Reading, answer_lines, reading_at, standing_of, state_lines}
use Rattle.report_laws.specs.Scripts.{AreDrains, HaveRoom, batch_lines, calls_of, drain_lines, ends_listed, fresh, is_kept, left, listed_drains, listed_script, next, report, script_lines}
use Rattle.report_laws.proofs.OneAnswer.{answer_stands}
use Rattle.report_laws.proofs.Places.{all_stand, behind, behind_all, got, itself, none_got, stands_at}

abbrev Flaw : Type 0
Flaw = Given (check.failing [] 0)

after_both : {A B : Type 0} (Ends : Result ℕ Flaw → Type 0) (r : Result A Flaw) (f : A → Result B Flaw) (g : B → Result ℕ Flaw)
    → Ends (r >>= (λ x. f x >>= g)) → Ends ((r >>= f) >>= g)
after_both Ends (Ok x) f g h = h
after_both Ends (Err flaw) f g h = h

otherwise : {A : Type 0} (b : Bool) (x y : A) → b ≡ false → cond b x y ≡ y
otherwise true x y h = cc
otherwise false x y h = refl

never : (b : Bool) → (b && false) ≡ false
never true = refl
never false = refl

-- what stands last of all, where a listing was read last or not; `shut` tells whether one follows where none was
abbrev close_lines : Plan → Bool → Bool → State → List (List ℕ)
close_lines plan shut listed state = if listed then [] else (if shut then state_lines plan state else [])

-- nothing was found; or nothing but that this listing is missing at the end
abbrev Closes : List (List ℕ) → Bool → State → Result ℕ Flaw → Type 0
Closes text true state r = (end : ℕ) × (r ≡ Ok end)
Closes text false state r = r ≡ Err (check.failing text (length text) (state_line state.batches))

-- where a listing follows at the end, it does not matter whether one was read last
shut_either : (text : List (List ℕ)) (state : State) (r : Result ℕ Flaw) (a b : Bool) → Closes text (a || true) state r → Closes text (b || true) state r
shut_either text state r true true h = h
shut_either text state r true false h = h
shut_either text state r false true h = h
shut_either text state r false false h = h

module _ (plan : Plan) (each shut : Bool) (shuts : each ≡ false → shut ≡ true) where
  -- what is left from between two batches on
  abbrev rest_drains : Bool → State → List Handed → List (List ℕ)
  rest_drains listed state [] = close_lines plan shut listed state
  rest_drains listed state (handed ∷ more) = batch_lines plan each state handed ++ rest_drains each (step (run_of plan) state handed) more

  abbrev rest : Bool → State → List (ℕ × Handed) → List Handed → List (List ℕ)
  rest listed state [] drains = rest_drains listed state drains
  rest listed state (batch ∷ more) drains =
      (if is_kept state batch then kept_line batch.0 ∷ [] else batch_lines plan each state batch.1)
      ++ rest (if is_kept state batch then false else each) (next plan state batch) more drains

  -- Behind an answer: where no listing was read, the first line is none of a listing's (it begins with a `b`, 98), or nothing but the
  -- last listing is left.
  abbrev IsTail : (Bool → List (List ℕ)) → State → Type 0
  IsTail tail state = ((line : List ℕ) × (more : List (List ℕ)) × (tail false ≡ (98 ∷ line) ∷ more))
      ⊎ ((tail false ≡ state_lines plan state) × (tail true ≡ []))

  drains_tail : (state : State) (drains : List Handed) → each ≡ false → IsTail (λ listed. rest_drains listed state drains) state
  drains_tail state [] e = inr (ap (λ b. if b then state_lines plan state else []) (shuts e), refl)
  drains_tail state (handed ∷ more) e = inl (_, _, refl)

  tail_of : (state : State) (script : List (ℕ × Handed)) (drains : List Handed) → each ≡ false → IsTail (λ listed. rest listed state script drains) state
  tail_of state [] drains e = drains_tail state drains e
  tail_of state (batch ∷ more) drains e = inl (by (is_kept state batch))
    where
      by : (b : Bool) → (line : List ℕ) × (lines : List (List ℕ)) × ((if b then kept_line batch.0 ∷ [] else batch_lines plan each state batch.1)
          ++ rest (if b then false else each) (next plan state batch) more drains ≡ (98 ∷ line) ∷ lines)
      by true = (_, _, refl)
      by false = (_, _, refl)

  module _ (text : List (List ℕ)) where
    -- ---- listings

    listing_stands : (state : State) (at : ℕ) (more : List (List ℕ)) → drop at text ≡ state_lines plan state ++ more
        → check.listing plan text (standing_of state) at ≡ Ok (at + length (state_lines plan state))
    listing_stands state at more h =
        let first = state_line state.batches in
        let rows = row_lines plan state.rows in
        let last = end_state_line in
        let behind_first : drop (at + 1) text ≡ rows ++ (last ∷ more)
        = behind text at first ((rows ++ last ∷ []) ++ more) h ∙ append_assoc rows (last ∷ []) more in
        let behind_rows : drop (at + 1 + length rows) text ≡ last ∷ more = behind_all text rows (last ∷ more) (at + 1) behind_first in
        let sum : length (rows ++ last ∷ []) ≡ length rows + 1 = length-append rows (last ∷ []) in
        let there : at + 1 + length rows + 1 ≡ at + suc (length (rows ++ last ∷ [])) = omega (arith, sum) in
        ap (λ r. r >>= (λ n. check.expect_all text rows n >>= check.expect text last)) (stands_at text first at ((rows ++ last ∷ []) ++ more) h)
        ∙ ap (λ r. r >>= check.expect text last) (all_stand text rows (last ∷ more) (at + 1) behind_first)
        ∙ stands_at text last (at + 1 + length rows) more behind_rows
        ∙ ap (λ n. Ok n) there

    abbrev listed_to : State → ℕ → ℕ → Result Reading Flaw
    listed_to state at n = Ok (record (reading_at at state false) { at = n; listed = true })

    lists : (state : State) (at : ℕ) (more : List (List ℕ)) → drop at text ≡ state_lines plan state ++ more
        → check.may_list plan text (reading_at at state false) ≡ Ok (reading_at (at + length (state_lines plan state)) state true)
    lists state at more h =
        let first = state_line state.batches in
        let there : check.is_line text first at ≡ true
        = ap (check.passes (λ line. bytes_eq line first)) (got text at first ((row_lines plan state.rows ++ end_state_line ∷ []) ++ more) h) ∙ itself first in
        ap (λ b. cond b (check.listing plan text (standing_of state) at >>= listed_to state at) (Ok (reading_at at state false))) there
        ∙ ap (λ r. r >>= listed_to state at) (listing_stands state at more h)

    lists_not : (state : State) (at : ℕ) (line : List ℕ) (more : List (List ℕ)) → drop at text ≡ (98 ∷ line) ∷ more
        → check.may_list plan text (reading_at at state false) ≡ Ok (reading_at at state false)
    lists_not state at line more h =
        let other : check.is_line text (state_line state.batches) at ≡ false
        = ap (check.passes (λ line. bytes_eq line (state_line state.batches))) (got text at (98 ∷ line) more h) in
        ap (λ b. cond b (check.listing plan text (standing_of state) at >>= listed_to state at) (Ok (reading_at at state false))) other

    -- ---- answers

    within : (lines more : List (List ℕ)) (at : ℕ) → at ≤ length text → drop at text ≡ lines ++ more → at + length lines ≤ length text
    within lines more at w h =
        let left_over : length text - at ≡ length lines + length more = sym (length-drop at text) ∙ ap length h ∙ length-append lines more in
        omega (arith, left_over, w)

    module _ (Ends : Result ℕ Flaw → Type 0) where
      -- the rest ends so, from wherever it stands; where each answer has a listing, one was read last
      abbrev Goes_on : (Bool → List (List ℕ)) → State → (Reading → Result ℕ Flaw) → Type 0
      Goes_on tail state go = (listed : Bool) → (each ≡ true → listed ≡ true) → (n : ℕ) → n ≤ length text → drop n text ≡ tail listed
          → Ends (go (reading_at n state listed))

      after_answer : (state : State) (at : ℕ) (tail : Bool → List (List ℕ)) (go : Reading → Result ℕ Flaw) → (each ≡ false → IsTail tail state)
          → Goes_on tail state go → at ≤ length text → (b : Bool) → each ≡ b → drop at text ≡ (if b then state_lines plan state else []) ++ tail b
          → Ends (check.may_list plan text (reading_at at state false) >>= go)
      after_answer state at tail go t on w true e h =
          let n = at + length (state_lines plan state) in
          subst (λ r. Ends (r >>= go)) (sym (lists state at (tail true) h))
          (on true (λ _. refl) n (within (state_lines plan state) (tail true) at w h) (behind_all text (state_lines plan state) (tail true) at h))
      after_answer state at tail go t on w false e h = by (t e)
        where
          by : IsTail tail state → Ends (check.may_list plan text (reading_at at state false) >>= go)
          by (inl first) =
              subst (λ r. Ends (r >>= go)) (sym (lists_not state at first.0 first.1 (h ∙ first.2))) (on false (λ k. sym e ∙ k) at w h)
          by (inr last) =
              let n = at + length (state_lines plan state) in
              let only : drop at text ≡ state_lines plan state ++ [] = h ∙ last.0 ∙ sym (append-nil (state_lines plan state)) in
              subst (λ r. Ends (r >>= go)) (sym (lists state at [] only))
              (on true (λ _. refl) n (within (state_lines plan state) [] at w only) (behind_all text (state_lines plan state) [] at only ∙ sym last.1))

      answered : (state : State) (handed : Handed) → IsNumbered state → state.requests + length handed.calls < 2 ^ 64
          → (at : ℕ) (listed : Bool) (tail : Bool → List (List ℕ)) (go : Reading → Result ℕ Flaw)
          → (each ≡ false → IsTail tail (step (run_of plan) state handed))
          → Goes_on tail (step (run_of plan) state handed) go → at ≤ length text
          → drop at text ≡ batch_lines plan each state handed ++ tail each
          → Ends (check.answered plan text (reading_at at state listed) handed.calls >>= go)
      answered state handed numbered few at listed tail go t on w h =
          let behind = step (run_of plan) state handed in
          let lines = answer_lines plan.tables (answer (run_of plan) state handed) in
          let more = if each then state_lines plan behind else [] in
          let whole : drop at text ≡ lines ++ (more ++ tail each) = h ∙ append_assoc lines more (tail each) in
          subst (λ r. Ends ((r >>= check.may_list plan text) >>= go)) (sym (answer_stands plan state handed numbered few text (more ++ tail each) at whole))
          (after_answer behind (at + length lines) tail go t on (within lines (more ++ tail each) at w whole) each refl
          (behind_all text lines (more ++ tail each) at whole))

    -- ---- the end

    nothing_behind : (at : ℕ) → drop at text ≡ [] → check.expect_end text at ≡ Ok at
    nothing_behind at h =
        let short : length text - at ≡ 0 = sym (length-drop at text) ∙ ap length h in
        let past : nat_lt at (length text) ≡ false = false_from_ne_true (nat_lt at (length text))
        (λ t. let below = ltb-true at (length text) t in omega (arith, short, below)) in
        ap (λ b. cond b (Err (check.failing text at [])) (Ok at)) past

    all_read : (at : ℕ) → at ≤ length text → drop at text ≡ [] → at ≡ length text
    all_read at w h = let short : length text - at ≡ 0 = sym (length-drop at text) ∙ ap length h in omega (arith, short, w)

    missing : (wanted : List ℕ) (at : ℕ) → at ≤ length text → drop at text ≡ [] → check.expect text wanted at ≡ Err (check.failing text (length text) wanted)
    missing wanted at w h =
        ap (λ o. cond (check.passes (λ line. bytes_eq line wanted) o) (Ok (at + 1)) (Err (check.failing text at wanted))) (none_got text at h)
        ∙ ap (λ n. Err (check.failing text n wanted)) (all_read at w h)

    closed_ends : (listed : Bool) (state : State) (at : ℕ) → at ≤ length text → (b : Bool) → drop at text ≡ close_lines plan b listed state
        → Closes text (listed || b) state (check.closed plan text (reading_at at state listed))
    closed_ends true state at w b h = (at, nothing_behind at h)
    closed_ends false state at w true h =
        let only : drop at text ≡ state_lines plan state ++ [] = h ∙ sym (append-nil (state_lines plan state)) in
        let n = at + length (state_lines plan state) in
        (n, ap (λ r. r >>= check.expect_end text) (listing_stands state at [] only) ∙ nothing_behind n (behind_all text (state_lines plan state) [] at only))
    closed_ends false state at w false h =
        ap (λ r. (r >>= (λ n. check.expect_all text (row_lines plan state.rows) n >>= check.expect text end_state_line)) >>= check.expect_end text)
        (missing (state_line state.batches) at w h)

    no_batch : (listed : Bool) (state : State) (at : ℕ) → (b : Bool) → drop at text ≡ close_lines plan b listed state
        → check.is_line text (batch_line (state.batches + 1)) at ≡ false
    no_batch false state at false h = ap (check.passes (λ line. bytes_eq line (batch_line (state.batches + 1)))) (none_got text at h)
    no_batch true state at b h = ap (check.passes (λ line. bytes_eq line (batch_line (state.batches + 1)))) (none_got text at h)
    no_batch false state at true h = ap (check.passes (λ line. bytes_eq line (batch_line (state.batches + 1))))
        (got text at (state_line state.batches) (row_lines plan state.rows ++ end_state_line ∷ []) h)

    abbrev going : ℕ → State → ℕ → Bool → Result Reading Flaw
    going n state at listed = check.answered plan text (reading_at at state listed) [] >>= check.drained plan text n

    stops : (n : ℕ) (state : State) (at : ℕ) (listed : Bool) → drop at text ≡ close_lines plan shut listed state
        → check.drained plan text n (reading_at at state listed) ≡ Ok (reading_at at state listed)
    stops zero state at listed h = refl
    stops (suc n) state at listed h =
        let none : check.is_drained text (reading_at at state listed) ≡ false
        = ap (λ b. nat_lt 0 (length state.waiting) && b) (no_batch listed state at shut h) ∙ never (nat_lt 0 (length state.waiting)) in
        ap (λ b. cond b (going n state at listed) (Ok (reading_at at state listed))) none

    goes : (n : ℕ) (state : State) (at : ℕ) (listed : Bool) (more : List (List ℕ)) → 0 < length state.waiting
        → drop at text ≡ batch_line (state.batches + 1) ∷ more
        → check.drained plan text (suc n) (reading_at at state listed) ≡ going n state at listed
    goes n state at listed more some h =
        let there : check.is_line text (batch_line (state.batches + 1)) at ≡ true
        = ap (check.passes (λ line. bytes_eq line (batch_line (state.batches + 1)))) (got text at (batch_line (state.batches + 1)) more h)
        ∙ itself (batch_line (state.batches + 1)) in
        let drained : check.is_drained text (reading_at at state listed) ≡ true
        = ap (λ b. nat_lt 0 (length state.waiting) && b) there ∙ ap (λ b. b && true) (lt-ltb 0 (length state.waiting) some) in
        ap (λ b. cond b (going n state at listed) (Ok (reading_at at state listed))) drained

    -- how the drains end is said of whether a listing was read last in the end
    turned : (drains : List Handed) (state : State) (r : Result ℕ Flaw) (listed b : Bool) → each ≡ b → (each ≡ true → listed ≡ true)
        → Closes text (listed_drains plan each listed drains || shut) state r → Closes text (listed_drains plan each each drains || shut) state r
    turned drains state r listed true e l h = subst (λ b. Closes text (listed_drains plan each b drains || shut) state r) (l e ∙ sym e) h
    turned drains state r listed false e l h =
        let last : shut ≡ true = shuts e in
        subst (λ c. Closes text (listed_drains plan each each drains || c) state r) (sym last)
        (shut_either text state r (listed_drains plan each listed drains) (listed_drains plan each each drains)
        (subst (λ c. Closes text (listed_drains plan each listed drains || c) state r) last h))

    -- at most so many, which are enough
    drains_end : (n : ℕ) (drains : List Handed) (state : State) (at : ℕ) (listed : Bool) → length drains ≤ n → IsNumbered state
        → state.requests < 2 ^ 64 → AreDrains plan state drains → at ≤ length text → drop at text ≡ rest_drains listed state drains
        → Closes text (listed_drains plan each listed drains || shut) (run (run_of plan) state drains)
        (check.drained plan text n (reading_at at state listed) >>= check.closed plan text)
    drains_end n [] state at listed enough numbered few d w h =
        subst (λ r. Closes text (listed || shut) state (r >>= check.closed plan text)) (sym (stops n state at listed h)) (closed_ends listed state at w shut h)
    drains_end zero (handed ∷ more) state at listed enough numbered few d w h = absurd (omega (arith, enough))
    drains_end (suc n) (handed ∷ more) state at listed enough numbered few d w h =
        let behind = step (run_of plan) state handed in
        let last = run (run_of plan) behind more in
        let Ends : Result ℕ Flaw → Type 0 = Closes text (listed_drains plan each each more || shut) last in
        let none : length handed.calls ≡ 0 = ap length d.0 in
        let numbers : state.requests + length handed.calls < 2 ^ 64 = omega (arith, none, few) in
        let go : Reading → Result ℕ Flaw = λ r. check.drained plan text n r >>= check.closed plan text in
        subst (λ r. Ends (r >>= check.closed plan text)) (sym (goes n state at listed _ d.1 h))
        (after_both Ends (check.answered plan text (reading_at at state listed) []) (check.drained plan text n) (check.closed plan text)
        (subst (λ calls. Ends (check.answered plan text (reading_at at state listed) calls >>= go)) d.0
        (answered Ends state handed numbered numbers at listed (λ listed. rest_drains listed behind more) go
        (drains_tail behind more)
        (λ l k m v g. turned more last (go (reading_at m behind l)) l each refl k
        (drains_end n more behind m l (omega (arith, enough)) (keeps_numbers (run_of plan) state handed numbered) numbers d.2 v g))
        w h)))

    -- ---- batches

    drains_short : (drains : List Handed) (listed : Bool) (state : State) → length drains ≤ length (rest_drains listed state drains)
    drains_short [] listed state = omega arith
    drains_short (handed ∷ more) listed state =
        let behind = step (run_of plan) state handed in
        let lines = batch_lines plan each state handed in
        let sum : length (lines ++ rest_drains each behind more) ≡ length lines + length (rest_drains each behind more) =
        length-append lines (rest_drains each behind more) in
        let one : 1 ≤ length lines = omega arith in
        let more_short = drains_short more each behind in
        omega (arith, sum, one, more_short)

    abbrev to_the_end : List (ℕ × Handed) → Reading → Result ℕ Flaw
    to_the_end script reading = check.batches plan text reading (calls_of script) >>= check.ended plan text

    ended_ends : (drains : List Handed) (state : State) (at : ℕ) (listed : Bool) → IsNumbered state → state.requests < 2 ^ 64
        → AreDrains plan state drains → at ≤ length text → drop at text ≡ rest_drains listed state drains
        → Closes text (listed_drains plan each listed drains || shut) (run (run_of plan) state drains) (check.ended plan text (reading_at at state listed))
    ended_ends drains state at listed numbered few d w h =
        let left_over : length text - at ≡ length (rest_drains listed state drains) = sym (length-drop at text) ∙ ap length h in
        let short = drains_short drains listed state in
        drains_end (length text) drains state at listed (omega (arith, left_over, short)) numbered few d w h

    module _ (drains : List Handed) where
      -- how the rest of a script ends, from a state where a listing was read last or not
      abbrev EndsFrom : List (ℕ × Handed) → State → Bool → Result ℕ Flaw → Type 0
      EndsFrom script state listed =
          Closes text (listed_drains plan each (listed_script plan each listed state script) drains || shut) (run (run_of plan) (left plan state script) drains)

      turned_script : (script : List (ℕ × Handed)) (state : State) (r : Result ℕ Flaw) (listed b : Bool) → each ≡ b → (each ≡ true → listed ≡ true)
          → EndsFrom script state listed r → EndsFrom script state each r
      turned_script script state r listed true e l h = subst (λ b. EndsFrom script state b r) (l e ∙ sym e) h
      turned_script script state r listed false e l h =
          let last : shut ≡ true = shuts e in
          let final = run (run_of plan) (left plan state script) drains in
          let flag : Bool → Bool = λ b. listed_drains plan each (listed_script plan each b state script) drains in
          subst (λ c. Closes text (flag each || c) final r) (sym last)
          (shut_either text final r (flag listed) (flag each) (subst (λ c. Closes text (flag listed || c) final r) last h))

      -- the rest of a script ends so behind its first batch
      abbrev Holding : List (ℕ × Handed) → Type 0
      Holding script = (state : State) (at : ℕ) (listed : Bool) → IsNumbered state → state.requests < 2 ^ 64 → HaveRoom plan state script
          → AreDrains plan (left plan state script) drains → at ≤ length text → drop at text ≡ rest listed state script drains
          → EndsFrom script state listed (to_the_end script (reading_at at state listed))

      module _ (Ends : Result ℕ Flaw → Type 0) where
        one_kept : (batch : ℕ × Handed) (more : List (ℕ × Handed)) (state : State) (at : ℕ) (listed : Bool)
            → ((n : ℕ) → n ≤ length text → drop n text ≡ rest false state more drains → Ends (to_the_end more (reading_at n state false)))
            → at ≤ length text → drop at text ≡ kept_line batch.0 ∷ rest false state more drains
            → Ends ((check.kept text (reading_at at state listed) batch.0 >>= (λ reading. check.batches plan text reading (calls_of more))) >>= check.ended
            plan text)
        one_kept batch more state at listed on w h =
            let stands = stands_at text (kept_line batch.0) at (rest false state more drains) h in
            subst (λ r. Ends (((r >>= (λ n. Ok (record (reading_at at state listed) { at = n; listed = false }))) >>=
            (λ reading. check.batches plan text reading (calls_of more))) >>= check.ended plan text))
            (sym stands) (on (at + 1) (within (kept_line batch.0 ∷ []) (rest false state more drains) at w h)
            (behind text at (kept_line batch.0) (rest false state more drains) h))

        one_run : (batch : ℕ × Handed) (more : List (ℕ × Handed)) (state : State) (at : ℕ) (listed : Bool) → IsNumbered state
            → length state.waiting + length batch.1.calls ≤ MOST_REQUESTS → state.requests + length batch.1.calls < 2 ^ 64
            → Goes_on Ends (λ l. rest l (step (run_of plan) state batch.1) more drains) (step (run_of plan) state batch.1) (to_the_end more)
            → at ≤ length text → drop at text ≡ batch_lines plan each state batch.1 ++ rest each (step (run_of plan) state batch.1) more drains
            → Ends ((check.run plan text (reading_at at state listed) batch.1.calls >>= (λ reading. check.batches plan text reading (calls_of more))) >>=
            check.ended plan text)
        one_run batch more state at listed numbered room few on w h =
            let behind = step (run_of plan) state batch.1 in
            let taken : nat_lt MOST_REQUESTS (length state.waiting + length batch.1.calls) ≡ false
            = false_from_ne_true (nat_lt MOST_REQUESTS (length state.waiting + length batch.1.calls))
            (λ t. let above = ltb-true MOST_REQUESTS (length state.waiting + length batch.1.calls) t in omega (arith, room, above)) in
            let runs : check.run plan text (reading_at at state listed) batch.1.calls ≡ check.answered plan text (reading_at at state listed) batch.1.calls
            = otherwise (nat_lt MOST_REQUESTS (length state.waiting + length batch.1.calls)) _ _ taken in
            subst (λ r. Ends ((r >>= (λ reading. check.batches plan text reading (calls_of more))) >>= check.ended plan text)) (sym runs)
            (after_both Ends (check.answered plan text (reading_at at state listed) batch.1.calls) (λ reading. check.batches plan text reading (calls_of more))
            (check.ended plan text)
            (answered Ends state batch.1 numbered few at listed (λ l. rest l behind more drains) (to_the_end more) (tail_of behind more drains) on w h))

      script_ends : (script : List (ℕ × Handed)) → Holding script
      script_ends [] state at listed numbered few room d w h = ended_ends drains state at listed numbered few d w h
      script_ends (batch ∷ more) state at listed numbered few room d w h = by (script_ends more) (is_kept state batch) room.0 room.1 d h
        where
          by : Holding more → (b : Bool)
              → (b ≡ false → (length state.waiting + length batch.1.calls ≤ MOST_REQUESTS) × (state.requests + length batch.1.calls < 2 ^ 64))
              → HaveRoom plan (if b then state else step (run_of plan) state batch.1) more
              → AreDrains plan (left plan (if b then state else step (run_of plan) state batch.1) more) drains
              → drop at text ≡ (if b then kept_line batch.0 ∷ [] else batch_lines plan each state batch.1)
              ++ rest (if b then false else each) (if b then state else step (run_of plan) state batch.1) more drains
              → EndsFrom more (if b then state else step (run_of plan) state batch.1) (if b then false else each)
              ((cond b (check.kept text (reading_at at state listed) batch.0) (check.run plan text (reading_at at state listed) batch.1.calls)
              >>= (λ reading. check.batches plan text reading (calls_of more))) >>= check.ended plan text)
          by on true own room d h = one_kept (EndsFrom more state false) batch more state at listed (λ n v k. on state n false numbered few room d v k) w h
          by on false own room d h =
              let bounds = own refl in
              let behind = step (run_of plan) state batch.1 in
              one_run (EndsFrom more behind each) batch more state at listed numbered bounds.0 bounds.1
              (λ l e n v k. turned_script more behind (to_the_end more (reading_at n behind l)) l each refl e
              (on behind n l (keeps_numbers (run_of plan) state batch.1 numbered) bounds.1 room d v k)) w h

  -- ---- the whole

  drains_are : (drains : List Handed) (listed : Bool) (state : State)
      → rest_drains listed state drains ≡ drain_lines plan each state drains ++ close_lines plan shut (listed_drains plan each listed drains)
      (run (run_of plan) state drains)
  drains_are [] listed state = refl
  drains_are (handed ∷ more) listed state =
      let behind = step (run_of plan) state handed in
      ap (λ l. batch_lines plan each state handed ++ l) (drains_are more each behind)
      ∙ sym (append_assoc (batch_lines plan each state handed) (drain_lines plan each behind more)
      (close_lines plan shut (listed_drains plan each each more) (run (run_of plan) behind more)))

  rest_is : (script : List (ℕ × Handed)) (drains : List Handed) (listed : Bool) (state : State)
      → rest listed state script drains ≡ script_lines plan each state script
      ++ rest_drains (listed_script plan each listed state script) (left plan state script) drains
  rest_is [] drains listed state = refl
  rest_is (batch ∷ more) drains listed state =
      let first = if is_kept state batch then kept_line batch.0 ∷ [] else batch_lines plan each state batch.1 in
      let now = if is_kept state batch then false else each in
      ap (λ l. first ++ l) (rest_is more drains now (next plan state batch))
      ∙ sym (append_assoc first (script_lines plan each (next plan state batch) more)
      (rest_drains (listed_script plan each now (next plan state batch) more) (left plan (next plan state batch) more) drains))

never_drains : (plan : Plan) (drains : List Handed) → listed_drains plan false false drains ≡ false
never_drains plan [] = refl
never_drains plan (handed ∷ more) = never_drains plan more

never_script : (plan : Plan) (script : List (ℕ × Handed)) (state : State) → listed_script plan false false state script ≡ false
never_script plan [] state = refl
never_script plan (batch ∷ more) state = by (is_kept state batch) (never_script plan more (next plan state batch))
  where
    by : (b : Bool) → listed_script plan false false (next plan state batch) more ≡ false
        → listed_script plan false (if b then false else false) (next plan state batch) more ≡ false
    by true h = h
    by false h = h

-- what follows all is the listing that has to stand there, or nothing where each answer has one
closes : (plan : Plan) (each : Bool) (state last : State) (script : List (ℕ × Handed)) (drains : List Handed)
    → (if each then [] else state_lines plan last) ≡ close_lines plan (not each) (ends_listed plan each state script drains) last
closes plan true state last script drains = by (ends_listed plan true state script drains)
  where
    by : (b : Bool) → [] ≡ close_lines plan false b last
    by true = refl
    by false = refl
closes plan false state last script drains =
    ap (λ b. close_lines plan true b last) (sym (ap (λ now. listed_drains plan false now drains) (never_script plan script state) ∙ never_drains plan drains))

not_each : (each : Bool) → each ≡ false → not each ≡ true
not_each each e = ap not e

module _ (plan : Plan) (rule : Rule) (percent : ℕ) (rows : Database) (each : Bool) (script : List (ℕ × Handed)) (drains : List Handed)
    (room : HaveRoom plan (fresh rule percent rows) script) (d : AreDrains plan (left plan (fresh rule percent rows) script) drains) where
  abbrev text : List (List ℕ)
  text = report plan each (fresh rule percent rows) script drains

  abbrev final : State
  final = run (run_of plan) (left plan (fresh rule percent rows) script) drains

  ends : Closes text (ends_listed plan each (fresh rule percent rows) script drains || not each) final (check.whole plan text rows (calls_of script))
  ends =
      let state = fresh rule percent rows in
      let before = script_lines plan each state script in
      let drained = drain_lines plan each (left plan state script) drains in
      let same : text ≡ rest plan each (not each) (not_each each) false state script drains
      = append_assoc before drained (if each then [] else state_lines plan final)
      ∙ ap (λ l. before ++ (drained ++ l)) (closes plan each state final script drains)
      ∙ ap (λ l. before ++ l) (sym (drains_are plan each (not each) (not_each each) drains (listed_script plan each false state script)
      (left plan state script)))
      ∙ sym (rest_is plan each (not each) (not_each each) script drains false state) in
      script_ends plan each (not each) (not_each each) text drains script state 0 false (omega arith) (omega arith) room d (omega arith) same

  pub own_report : (each ≡ true → ends_listed plan each (fresh rule percent rows) script drains ≡ true) → check.finding plan text rows (calls_of script) ≡ Holds
  own_report last = by each refl (ends_listed plan each (fresh rule percent rows) script drains) refl ends
    where
      by : (b : Bool) → each ≡ b → (c : Bool) → ends_listed plan each (fresh rule percent rows) script drains ≡ c
          → Closes text (c || not b) final (check.whole plan text rows (calls_of script)) → check.finding plan text rows (calls_of script) ≡ Holds
      by b e true l h = ap check.finding_of h.1
      by false e false l h = ap check.finding_of h.1
      by true e false l h = let clash : true ≡ false = sym (last e) ∙ l in cc

  pub open_report : each ≡ true → ends_listed plan each (fresh rule percent rows) script drains ≡ false
      → check.finding plan text rows (calls_of script) ≡ Fails (length text + 1) (state_line final.batches) []
  open_report e last =
      let flag : (ends_listed plan each (fresh rule percent rows) script drains || not each) ≡ false = ap (λ b. b || not each) last ∙ ap not e in
      let failed : check.whole plan text rows (calls_of script) ≡ Err (check.failing text (length text) (state_line final.batches))
      = subst (λ b. Closes text b final (check.whole plan text rows (calls_of script))) flag ends in
      ap check.finding_of failed
      ∙ ap (λ o. Fails (length text + 1) (state_line final.batches) (unwrap_or o [])) (slice_get_past text (length text) (omega arith))
