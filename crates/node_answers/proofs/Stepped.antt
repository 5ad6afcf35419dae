-- Nodes and a run of batches, step by step.
use Rattle.std.proofs.Common.{◌≡◌, ℕ, zero, suc, ◌+◌, ◌<◌, ◌≤◌, List, [], ◌∷◌, ◌++◌, map, length, take, refl, sym, ap, ◌∙◌, arith}
use Rattle.std.specs.Prelude.{slice_index_or}
use Rattle.std.proofs.lemmas.List.{length-take, map-append, take_more}
use Rattle.std.proofs.Math.Seq.{take-length}
use Rattle.aria_base.specs.Orders.{key_cmp, Cells, Database}
use Rattle.aria_base.specs.declared.calls.Call.{Call}
use Rattle.aria_base.specs.declared.keys.Key.{Key}
use Rattle.batch_rules.specs.Trees.{Tree}
use Rattle.aria_base.specs.declared.calls.Request.{Request}
use Rattle.batch_rules.specs.declared.verdicts.Rule.{Rule}
use Rattle.batch_core.specs.Steps.{State, Handed, numbered, answer_by, step, run}
use Rattle.batch_core.specs.Serial.{IsNumbered}
use Rattle.batch_core.proofs.Serial.{keeps_numbers}
use Rattle.proc_lang.specs.Catalogs.{Plan, run_of}
use Rattle.proc_lang.specs.declared.ends.End.{End}
use Rattle.node_rules.specs.Nets.{Net}
use Rattle.node_rules.specs.Truths.{Between, Course, next, after, between, course, entries_on}
use Rattle.node_rules.proofs.Batches.{is_batch}
use Rattle.node_batch.specs.Letters.{Same, net_of}
use Rattle.node_answers.specs.Runs.{NEVER, handed, state_at_first, state_after, IsRun}
use Rattle.node_seats.specs.Nodes.{news_of, total}

abbrev B : Type 0
B = Between key_cmp Cells Request

abbrev shown : State → B
shown s = record { rows = s.rows; waiting = s.waiting }

take_news : (n done : ℕ) (bs : List (List Call)) → take done (news_of n bs) ≡ news_of n (take done bs)
take_news n zero bs = refl
take_news n (suc done) [] = refl
take_news n (suc done) (calls ∷ bs) = ap (λ l. numbered n calls ∷ l) (take_news (n + length calls) done bs)

news_at : (n done : ℕ) (bs : List (List Call)) → done < length bs
    → slice_index_or (news_of n bs) done [] ≡ numbered (n + total (take done bs)) (slice_index_or bs done [])
news_at n done [] lt = absurd (omega arith)
news_at n zero (calls ∷ bs) lt = let e : n ≡ n + 0 = omega arith in ap (λ n. numbered n calls) e
news_at n (suc done) (calls ∷ bs) lt =
    let e : n + length calls + total (take done bs) ≡ n + (length calls + total (take done bs)) = omega arith in
    news_at (n + length calls) done bs (omega arith) ∙ ap (λ n. numbered n (slice_index_or bs done [])) e

-- one batch more, and numbers that stay in order
module _ (tree : Request → Tree Key Cells End) where
  run_push : (s : State) (hs : List Handed) (h : Handed) → run tree s (hs ++ h ∷ []) ≡ step tree (run tree s hs) h
  run_push s [] h = refl
  run_push s (x ∷ xs) h = run_push (step tree s x) xs h

  pub numbered_after : (s : State) (hs : List Handed) → IsNumbered s → IsNumbered (run tree s hs)
  numbered_after s [] n = n
  numbered_after s (h ∷ hs) n = numbered_after (step tree s h) hs (keeps_numbers tree s h n)

module _ (plan : Plan) (rule : Rule) (nodes : ℕ) (same : Same) where
  abbrev net : Net key_cmp Cells Request End
  net = net_of plan rule nodes same

  high : 100 < NEVER
  high = omega arith

  one_step : (s : State) (calls : List Call) → next net (shown s) (numbered s.requests calls) ≡ shown (step (run_of plan) s (handed rule calls))
  one_step s calls = let b = is_batch net NEVER high (numbered s.requests calls) (shown s) in λ i. record { rows = b.rows i; waiting = b.waiting i }

  all_steps : (s : State) (bs : List (List Call)) → after net (shown s) (news_of s.requests bs) ≡ shown (run (run_of plan) s (map (handed rule) bs))
  all_steps s [] = refl
  all_steps s (calls ∷ bs) = ap (λ b. after net b (news_of (s.requests + length calls) bs)) (one_step s calls)
      ∙ all_steps (step (run_of plan) s (handed rule calls)) bs

  numbers : (s : State) (bs : List (List Call)) → (run (run_of plan) s (map (handed rule) bs)).requests ≡ s.requests + total bs
  numbers s [] = omega arith
  numbers s (calls ∷ bs) = let rest = numbers (step (run_of plan) s (handed rule calls)) bs in omega arith

  counts : (s : State) (bs : List (List Call)) → (run (run_of plan) s (map (handed rule) bs)).batches ≡ s.batches + length bs
  counts s [] = omega arith
  counts s (calls ∷ bs) = let rest = counts (step (run_of plan) s (handed rule calls)) bs in omega arith

  module _ (start : Database) (bs : List (List Call)) where
    abbrev at : ℕ → State
    at done = state_after plan rule start bs done

    between_is : (done : ℕ) → between net start (news_of 0 bs) done ≡ shown (at done)
    between_is done = ap (after net (shown (state_at_first rule start))) (take_news 0 done bs) ∙ all_steps (state_at_first rule start) (take done bs)

    pub at_numbered : (done : ℕ) → IsNumbered (at done)
    at_numbered done = numbered_after (run_of plan) (state_at_first rule start) (map (handed rule) (take done bs)) (omega arith)

    -- so many batches were run, and so many requests numbered
    pub at_batches : (done : ℕ) → done ≤ length bs → (at done).batches ≡ done
    at_batches done le =
        let count = counts (state_at_first rule start) (take done bs) in
        let long = length-take done bs in
        omega arith

    pub at_requests : (at (length bs)).requests ≡ total bs
    at_requests =
        let count = numbers (state_at_first rule start) (take (length bs) bs) in
        let all = ap total (take-length bs) in
        omega arith

    at_next : (done : ℕ) → done < length bs → at (done + 1) ≡ step (run_of plan) (at done) (handed rule (slice_index_or bs done []))
    at_next done lt =
        let more = take_more bs done [] lt in
        ap (λ l. run (run_of plan) (state_at_first rule start) (map (handed rule) l)) more
        ∙ ap (run (run_of plan) (state_at_first rule start)) (map-append (handed rule) (take done bs) (slice_index_or bs done [] ∷ []))
        ∙ run_push (run_of plan) (state_at_first rule start) (map (handed rule) (take done bs)) (handed rule (slice_index_or bs done []))

    -- the course of a batch
    course_is : (done : ℕ) → done < length bs
        → course net start (news_of 0 bs) done
        ≡ record { rows = (at done).rows; list = (at done).waiting ++ numbered (at done).requests (slice_index_or bs done []) }
    course_is done lt =
        let b = between_is done in
        let n = numbers (state_at_first rule start) (take done bs) in
        let new : slice_index_or (news_of 0 bs) done [] ≡ numbered (at done).requests (slice_index_or bs done [])
        = news_at 0 done bs lt ∙ ap (λ n. numbered n (slice_index_or bs done [])) (sym n) in
        λ i. record { rows = (b i).rows; list = (b i).waiting ++ new i }

    pub is_run : (done : ℕ) → done ≤ length bs → IsRun plan rule nodes same start bs done
    is_run done le =
        let b = between_is done in
        let s = at done in
        record {
          rows = ap (λ (b : B). b.rows) b;
          waiting = ap (λ (b : B). b.waiting) b;
          answer = λ lt.
              let calls = slice_index_or bs done [] in
              let count = counts (state_at_first rule start) (take done bs) in
              let long = length-take done bs in
              let now : done + 1 ≡ s.batches + 1 = omega arith in
              let here = course_is done lt in
              let e = is_batch net NEVER high (numbered s.requests calls) (shown s) in
              (λ i. answer_by (λ r. r) (now i) (here i).list (entries_on net (here i)))
              ∙ ap (answer_by (λ r. r) (s.batches + 1) (s.waiting ++ numbered s.requests calls)) e.entries;
          next = λ lt. at_next done lt;
          list = λ lt. ap (λ (c : Course key_cmp Cells Request). c.list) (course_is done lt);
        }
