-- Each request is counted once.
use Rattle.std.proofs.Common.{◌≡◌, ℕ, zero, suc, ◌+◌, ◌==◌, List, [], ◌∷◌, ◌++◌, length, map, Bool, true, false, cond, refl, ap, ◌∙◌, arith}
use Rattle.std.specs.Prelude.{count_by}
use Rattle.std.specs.List.{filter}
use Rattle.std.proofs.lemmas.Grind.{flat_map-append}
use Rattle.std.proofs.lemmas.List.{length-map}
use Rattle.std.proofs.lemmas.List.Sums.{length-filter, sum_by-append, sum_by-cons}
use Rattle.rand_pcg.specs.Lcg.{Lcg}
use Rattle.aria_base.specs.Orders.{Cells}
use Rattle.aria_base.specs.declared.calls.Request.{Request}
use Rattle.aria_base.specs.declared.keys.Key.{Key}
use Rattle.batch_core.specs.Steps.{State, Handed, answer, line_of, list_of, outcome, reply_of, step}
use Rattle.batch_core.specs.declared.answers.Answer.{Answer}
use Rattle.batch_core.specs.declared.answers.Line.{Line}
use Rattle.batch_rules.specs.Batches.{Ended, Entry, Fate, Moved, Waits, has_ended, is_carried}
use Rattle.batch_rules.specs.Trees.{Tree}
use Rattle.command_words.specs.declared.settings.Bench.{Bench}
use Rattle.proc_lang.specs.Catalogs.{Plan, run_of}
use Rattle.proc_lang.specs.declared.ends.End.{End}
use Rattle.proc_lang.specs.declared.ends.End.TheVariants as end
use Rattle.serving.specs.Drains.{no_calls}
use Rattle.serving.specs.Lives.{handed_at}
use Rattle.workloads.specs.Generators.{first_draws, generator_of, plan_of}
use Rattle.workloads.specs.declared.generators.Generator.{Generator}
use Rattle.bench_command.specs.Benches.{Ran, all_drained, batches_ran, calls_at, drains_ran, head_state, none_ran, ran_behind, with_drains}
use Rattle.bench_command.specs.Laws.{EachOnce}
use Rattle.bench_command.specs.Tallies.{is_back, is_ok, is_trap, lines_of, of_line}
use Rattle.bench_command.proofs.Bounds.{lines_are}

-- a request has ended in one way, or is carried
kinds : (list : List Request) (fate : Fate Key End)
    → cond (is_ok (reply_of list fate)) 1 0 + cond (is_back (reply_of list fate)) 1 0 + cond (is_trap (reply_of list fate)) 1 0 + cond
    (cond (has_ended fate) false true) 1 0 ≡ 1
kinds list (Ended (end.Done given)) = refl
kinds list (Ended (end.Back code)) = refl
kinds list (Ended (end.Trap trap)) = refl
kinds list (Waits cause) = refl
kinds list (Moved key) = refl

-- how many lines tell of an end
abbrev ends_in : List Line → ℕ
ends_in lines = count_by (of_line is_ok) lines + count_by (of_line is_back) lines + count_by (of_line is_trap) lines

ends_behind : (xs ys : List Line) → ends_in (xs ++ ys) ≡ ends_in xs + ends_in ys
ends_behind xs ys =
    let o = sum_by-append (λ (x : Line). cond (of_line is_ok x) 1 0) xs ys in
    let b = sum_by-append (λ (x : Line). cond (of_line is_back x) 1 0) xs ys in
    let t = sum_by-append (λ (x : Line). cond (of_line is_trap x) 1 0) xs ys in
    omega (arith, o, b, t)

abbrev Ran_entry : Type 0
Ran_entry = Entry Key Request End

abbrev told : List Request → Ran_entry → Line
told list e = line_of (λ request. request) list e

all_told : (list : List Request) (es : List Ran_entry) → ends_in (map (told list) es) + count_by is_carried es ≡ length es
all_told list [] = refl
all_told list (e ∷ es) =
    let rest = all_told list es in
    let o = sum_by-cons (λ (x : Line). cond (of_line is_ok x) 1 0) (told list e) (map (told list) es) in
    let b = sum_by-cons (λ (x : Line). cond (of_line is_back x) 1 0) (told list e) (map (told list) es) in
    let t = sum_by-cons (λ (x : Line). cond (of_line is_trap x) 1 0) (told list e) (map (told list) es) in
    let c = sum_by-cons (λ (x : Ran_entry). cond (is_carried x) 1 0) e es in
    let k = kinds list e.fate in
    omega (arith, rest, o, b, t, c, k)

module _ (tree : Request → Tree Key Cells End) where
  -- those that end in a batch, and those that wait behind it, are those of its list
  one_batch : (state : State) (handed : Handed)
      → ends_in (answer tree state handed).lines + length (step tree state handed).waiting ≡ length state.waiting + length handed.calls
  one_batch state handed =
      let entries = (outcome tree state handed).entries in
      let all = all_told (list_of state handed) entries in
      let kept = length-map (filter is_carried entries) (λ (e : Ran_entry). e.judged.request) in
      let some = length-filter is_carried entries in
      let lines = lines_are tree state handed in
      let each = length-map entries (told (list_of state handed)) in
      omega (arith, all, kept, some, lines, each)

abbrev Adds : State → Ran → Type 0
Adds state ran = ends_in (lines_of ran.answers) + length ran.state.waiting + state.requests ≡ ran.state.requests + length state.waiting

adds_none : (state : State) → Adds state (none_ran state)
adds_none state = omega arith

adds_one : (tree : Request → Tree Key Cells End) (state : State) (handed : Handed) (later : Ran) → Adds (step tree state handed) later
    → Adds state (ran_behind (answer tree state handed ∷ []) later)
adds_one tree state handed later rest =
    let here = one_batch tree state handed in
    let both = ends_behind (answer tree state handed).lines (lines_of later.answers) in
    omega (arith, rest, here, both)

batches_add : (g : Generator) (size n : ℕ) (state : State) (draws : Lcg) → Adds state (batches_ran g size n state draws)
unfolding batches_ran
batches_add g size zero state draws = adds_none state
batches_add g size (suc n) state draws =
    let calls = calls_at g size state draws in
    let handed = handed_at state calls.0 in
    adds_one (run_of (plan_of g)) state handed (batches_ran g size n (step (run_of (plan_of g)) state handed) calls.1)
    (batches_add g size n (step (run_of (plan_of g)) state handed) calls.1)

adds_either : (b : Bool) (state : State) (x y : Ran) → Adds state x → Adds state y → Adds state (cond b x y)
adds_either true state x y h k = h
adds_either false state x y h k = k

drains_add : (plan : Plan) (n : ℕ) (state : State) → Adds state (drains_ran plan n state)
unfolding drains_ran
drains_add plan zero state = adds_none state
drains_add plan (suc n) state =
    adds_either (length state.waiting == 0) state (none_ran state) _ (adds_none state)
    (adds_one (run_of plan) state (no_calls state) (drains_ran plan n (step (run_of plan) state (no_calls state)))
    (drains_add plan n (step (run_of plan) state (no_calls state))))

sum_lines : (xs ys : List Answer) → ends_in (lines_of (xs ++ ys)) ≡ ends_in (lines_of xs) + ends_in (lines_of ys)
sum_lines xs ys = ap ends_in (flat_map-append (λ (a : Answer). a.lines) xs ys) ∙ ends_behind (lines_of xs) (lines_of ys)

adds_behind : (state : State) (first later : Ran) → Adds state first → Adds first.state later → Adds state (ran_behind first.answers later)
adds_behind state first later h k =
    let both = sum_lines first.answers later.answers in
    omega (arith, h, k, both)

whole_adds : (drain : Bool) (plan : Plan) (state : State) (ran : Ran) → Adds state ran → Adds state (with_drains drain plan ran)
whole_adds true plan state ran h = adds_behind state ran (all_drained plan ran.state) h (drains_add plan (length ran.state.waiting) ran.state)
whole_adds false plan state ran h = h

pub each_once : (b : Bench) → EachOnce b
each_once b =
    let g = generator_of b.workload in
    let start = head_state g b.rule b.fallback in
    let ran = batches_ran g b.workload.amount.size b.workload.amount.batches start (first_draws g) in
    let all = whole_adds b.drain (plan_of g) start ran (batches_add g b.workload.amount.size b.workload.amount.batches start (first_draws g)) in
    omega (arith, all)
