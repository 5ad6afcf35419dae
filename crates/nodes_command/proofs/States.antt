-- The state of nodes that have completed all that was started, and what a batch makes of it.
use Rattle.std.proofs.Common.{◌≡◌, ◌∙◌, refl, sym, ap, subst, ℕ, zero, suc, ◌+◌, ◌-◌, ◌<◌, List, [], ◌∷◌, ◌++◌, map, length, take, Bool, true, false, Option, Some, None, arith, append-nil}
use Rattle.std.specs.Prelude.{not, ◌||◌, ◌==◌, ◌&&◌, nat_le, if◌then◌else◌}
use Rattle.std.specs.List.{list_all, range_with_len}
use Rattle.std.proofs.Math.Seq.{get_or-append_seam, take-append_seam, take-length}
use Rattle.std.proofs.lemmas.Bool.{le-leb, ne_eqb}
use Rattle.std.proofs.lemmas.Option.{same_Some}
use Rattle.std.proofs.lemmas.List.{length-append, length-map, map-append}
use Rattle.answer_text.specs.Answers.{answer_text}
use Rattle.aria_base.specs.Orders.{key_cmp, Cells, Database}
use Rattle.aria_base.specs.declared.calls.Call.{Call}
use Rattle.aria_base.specs.declared.calls.Request.{Request}
use Rattle.aria_base.specs.declared.keys.Key.{Key}
use Rattle.batch_core.specs.Steps.{Handed, State, answer, numbered, run, step}
use Rattle.batch_core.specs.declared.answers.Answer.{Answer}
use Rattle.batch_rules.specs.Trees.{Tree}
use Rattle.batch_rules.specs.declared.verdicts.Rule.{Rule}
use Rattle.node_answers.specs.Runs.{NEVER, handed, handed_at, state_after, state_at_first}
use Rattle.node_rules.specs.Worlds.{Start, at_first, step as net_step}
use Rattle.node_rules.specs.Worlds.{World as Definition}
use Rattle.node_world.proofs.Behind.{same_done}
use Rattle.node_world.specs.Steps.{IsFixed}
use Rattle.node_world.specs.Worlds.{AreLevel, all_past, calls_in, done_in, net_in, started_in, world_in}
use Rattle.node_world.specs.declared.worlds.World.{World}
use Rattle.part_nodes.specs.Asked.{handed_in, state_in}
use Rattle.part_nodes.specs.Databases.{IsOneDatabase}
use Rattle.part_nodes.specs.Ready.{AreReady}
use Rattle.part_nodes.specs.Settling.{Settles}
use Rattle.part_nodes.specs.declared.nodes.Nodes.{Nodes}
use Rattle.proc_lang.specs.Catalogs.{Plan, run_of}
use Rattle.proc_lang.specs.declared.ends.End.{End}
use Rattle.run_commands.specs.Bases.{counts_of}
use Rattle.serving.specs.Lives.{batch_text, listing}
use Rattle.serving.specs.Lives.{handed_at as with_settings}
use Rattle.nodes_command.specs.Bases.{AreDone, IsBegun, IsUnder, requests_in, state_now, state_of}
use Rattle.nodes_command.specs.declared.bases.Base.{Base}
use Rattle.nodes_command.specs.declared.bases.Base.TheVariants as base
use Rattle.nodes_command.specs.Batches.{IsNext, answer_at, last_text}
use Rattle.nodes_command.proofs.Started.{settled_started, start_started}

-- ---- batches one after the other

module _ (tree : Request → Tree Key Cells End) where
  run_push : (s : State) (hs : List Handed) (h : Handed) → run tree s (hs ++ h ∷ []) ≡ step tree (run tree s hs) h
  run_push s [] h = refl
  run_push s (x ∷ xs) h = run_push (step tree s x) xs h

  -- the settings of all batches stand behind them
  rule_stays : (rule : Rule) (s : State) (bs : List (List Call)) → s.rule ≡ rule → (run tree s (map (handed rule) bs)).rule ≡ rule
  rule_stays rule s [] e = e
  rule_stays rule s (calls ∷ bs) e = rule_stays rule (step tree s (handed rule calls)) bs refl

  percent_stays : (rule : Rule) (s : State) (bs : List (List Call)) → s.percent ≡ NEVER → (run tree s (map (handed rule) bs)).percent ≡ NEVER
  percent_stays rule s [] e = e
  percent_stays rule s (calls ∷ bs) e = percent_stays rule (step tree s (handed rule calls)) bs refl

numbered_calls : (n : ℕ) (calls : List Call) → map (λ q. q.call) (numbered n calls) ≡ calls
numbered_calls n [] = refl
numbered_calls n (call ∷ calls) = ap (λ l. call ∷ l) (numbered_calls (n + 1) calls)

module _ (plan : Plan) (rule : Rule) (start : Database) (batches : List (List Call)) (calls : List Call) where
  abbrev more : List (List Call)
  more = batches ++ calls ∷ []

  abbrev all_run : List (List Call) → State
  all_run bs = run (run_of plan) (state_at_first rule start) (map (handed rule) bs)

  abbrev old : State
  old = state_after plan rule start batches (length batches)

  before_last : state_after plan rule start more (length batches) ≡ old
  before_last = ap all_run (take-append_seam batches (calls ∷ []) ∙ sym (take-length batches))

  last_handed : handed_at plan rule start more (length batches) ≡ handed rule calls
  last_handed = ap (handed rule) (get_or-append_seam batches calls [] [])

  behind_last : (many : ℕ) → many ≡ length more → state_after plan rule start more many ≡ step (run_of plan) old (handed rule calls)
  behind_last many e =
      ap (λ n. all_run (take n more)) e
      ∙ ap all_run (take-length more)
      ∙ ap (run (run_of plan) (state_at_first rule start)) (map-append (handed rule) batches (calls ∷ []))
      ∙ run_push (run_of plan) (state_at_first rule start) (map (handed rule) batches) (handed rule calls)
      ∙ ap (λ bs. step (run_of plan) (all_run bs) (handed rule calls)) (sym (take-length batches))

-- ---- nodes that have completed all

module _ (w : World) where
  long_started : length (started_in w) ≡ length w.started.items
  long_started = length-map w.started.items (λ new. new.items)

  long_calls : length (calls_in w) ≡ length w.started.items
  long_calls = length-map (started_in w) (map (λ (q : Request). q.call)) ∙ long_started

module _ (n : Nodes) (all : AreDone n) where
  some_node : 0 < n.world.nodes
  some_node = all.ready.keeps.some_node

  pub level : AreLevel n.world
  level node lt = all.done node lt ∙ sym (all.done 0 some_node)

  now_calls : state_now n ≡ state_after n.world.catalog n.world.rule n.start.value (calls_in n.world) (length (calls_in n.world))
  now_calls = ap (state_in n.start.value n.world) (sym (long_calls n.world))

  rule_now : (state_now n).rule ≡ n.world.rule
  rule_now = rule_stays (run_of n.world.catalog) n.world.rule (state_at_first n.world.rule n.start.value)
      (take (length n.world.started.items) (calls_in n.world)) refl

  percent_now : (state_now n).percent ≡ NEVER
  percent_now = percent_stays (run_of n.world.catalog) n.world.rule (state_at_first n.world.rule n.start.value)
      (take (length n.world.started.items) (calls_in n.world)) refl

  -- a batch by the settings of the state is one by those of the nodes
  by_settings : (calls : List Call) → handed n.world.rule calls ≡ with_settings (state_now n) calls
  by_settings calls = λ i. record { rule = sym rule_now i; percent = sym percent_now i; calls = calls }

  module _ (is : IsOneDatabase n.start.value n.world) where
    pub batches_now : (state_now n).batches ≡ length n.world.started.items
    batches_now = let all_calls = long_calls n.world in is.counted (length n.world.started.items) (omega arith)

    pub requests_now : (state_now n).requests ≡ n.world.requests
    requests_now = ap (λ (s : State). s.requests) now_calls ∙ is.numbered

    pub counts_now : (batches requests waiting : ℕ) → batches ≡ length n.world.started.items → requests ≡ n.world.requests
        → waiting ≡ length (state_in n.start.value n.world (done_in n.world 0)).waiting
        → record { batches = batches; requests = requests; waiting = waiting } ≡ counts_of (state_now n)
    counts_now batches requests waiting b r w =
        let b1 = b ∙ sym batches_now in
        let r1 = r ∙ sym requests_now in
        let w1 = w ∙ ap (λ done. length (state_in n.start.value n.world done).waiting) (all.done 0 some_node) in
        λ i. record { batches = b1 i; requests = r1 i; waiting = w1 i }

  pub rows_now : (state_in n.start.value n.world (done_in n.world 0)).rows ≡ (state_now n).rows
  rows_now = ap (λ done. (state_in n.start.value n.world done).rows) (all.done 0 some_node)

  pub waiting_now : length (state_in n.start.value n.world (done_in n.world 0)).waiting ≡ length (state_now n).waiting
  waiting_now = ap (λ done. length (state_in n.start.value n.world done).waiting) (all.done 0 some_node)

  -- ---- the answer of the last batch

  all_in : (p : ℕ → Bool) (base many : ℕ) → ((k : ℕ) → k < many → p (base + k) ≡ true) → list_all p (range_with_len base many) ≡ true
  all_in p base zero each = refl
  all_in p base (suc many) each =
      let first : p base ≡ true = let at : base ≡ base + 0 = omega arith in ap p at ∙ each 0 (omega arith) in
      let rest = all_in p (base + 1) many (λ k lt. let at : base + 1 + k ≡ base + suc k = omega arith in ap p at ∙ each (suc k) (omega arith)) in
      λ i. first i && rest i

  last_past : all_past n.world (length n.world.started.items) ≡ true
  last_past = all_in (λ node. nat_le (length n.world.started.items) (done_in n.world node)) 0 n.world.nodes (λ node lt.
      let here = all.done node lt in
      le-leb (length n.world.started.items) (done_in n.world (0 + node)) (omega arith))

  module _ (some : 0 < length n.world.started.items) (batch : ℕ) (last : batch ≡ length n.world.started.items) (a : Option Answer)
      (is : a ≡ (if (batch == 0) || not (all_past n.world batch) then None else Some (answer_at n (batch - 1)))) where
    pub last_answer : a ≡ Some (answer_at n (length n.world.started.items - 1))
    last_answer =
        let many = length n.world.started.items in
        let nonzero : (many == 0) ≡ false = ne_eqb many 0 (λ e. omega arith) in
        is ∙ ap (λ k. if (k == 0) || not (all_past n.world k) then None else Some (answer_at n (k - 1))) last
        ∙ (λ i. if nonzero i || not (last_past i) then None else Some (answer_at n (many - 1)))

    pub told_last : (x : Answer) → a ≡ Some x → x ≡ answer_at n (length n.world.started.items - 1)
    told_last x e = same_Some x (answer_at n (length n.world.started.items - 1)) (sym e ∙ last_answer)

-- ---- the first batch

module _ (plan : Plan) (tables : Database) (rule : Rule) (n : Nodes) where
  pub begun : (n.world.catalog ≡ plan) → n.world.rule ≡ rule → n.start.value ≡ tables → n.world.requests ≡ 0
      → world_in n.start.value n.world ≡ at_first (net_in n.world) tables → AreReady n → IsBegun plan (base.Rows tables rule) n
  begun catalog rules start requests first ready =
      let none : length n.world.started.items ≡ 0 = sym (long_started n.world) ∙ ap (λ (w : Definition key_cmp Cells Request End). length w.started) first in
      record {
        done = record {
          ready = ready;
          done = λ node lt. sym (same_done n.start.value n.world ready.keeps node lt)
              ∙ ap (λ (w : Definition key_cmp Cells Request End). (w.node node).done) first ∙ sym none;
        };
        plan_is = catalog;
        state = ap (state_in n.start.value n.world) none ∙ (λ i. state_at_first (rules i) (start i));
        requests = requests;
      }

-- ---- one batch more

module _ (n : Nodes) (all : AreDone n) (calls : List Call) (m o : Nodes) where
  abbrev In : Nodes → Definition key_cmp Cells Request End
  In n = world_in n.start.value n.world

  module _ (fixed1 : IsFixed n.world m.world) (start1 : m.start.value ≡ n.start.value) (requests1 : m.world.requests ≡ n.world.requests + length calls)
      (stepped : In m ≡ net_step (net_in n.world) (In n) (Start (numbered n.world.requests calls)))
      (fixed2 : IsFixed m.world o.world) (start2 : o.start.value ≡ m.start.value) (requests2 : o.world.requests ≡ m.world.requests)
      (settles : Settles (net_in m.world) m.start.value (In m) (In o)) where
    started_is : started_in o.world ≡ started_in n.world ++ numbered n.world.requests calls ∷ []
    started_is =
        ap (λ (w : Definition key_cmp Cells Request End). w.started) settles.is
        ∙ settled_started (net_in m.world) m.start.value settles.passes (In m)
        ∙ ap (λ (w : Definition key_cmp Cells Request End). w.started) stepped
        ∙ start_started (net_in n.world) (In n) (numbered n.world.requests calls)

    calls_are : calls_in o.world ≡ calls_in n.world ++ calls ∷ []
    calls_are =
        ap (map (map (λ (q : Request). q.call))) started_is
        ∙ map-append (map (λ (q : Request). q.call)) (started_in n.world) (numbered n.world.requests calls ∷ [])
        ∙ ap (λ l. calls_in n.world ++ l ∷ []) (numbered_calls n.world.requests calls)

    many : length o.world.started.items ≡ length n.world.started.items + 1
    many = sym (long_started o.world) ∙ ap length started_is ∙ length-append (started_in n.world) (numbered n.world.requests calls ∷ [])
        ∙ ap (λ k. k + 1) (long_started n.world)

    catalog_is : o.world.catalog ≡ n.world.catalog
    catalog_is = fixed2.catalog ∙ fixed1.catalog

    rule_is : o.world.rule ≡ n.world.rule
    rule_is = fixed2.rule ∙ fixed1.rule

    start_is : o.start.value ≡ n.start.value
    start_is = start2 ∙ start1

    abbrev Old : List (List Call)
    Old = calls_in n.world

    long_more : length o.world.started.items ≡ length (Old ++ calls ∷ [])
    long_more = many ∙ ap (λ k. k + 1) (sym (long_calls n.world)) ∙ sym (length-append Old (calls ∷ []))

    by_parts : (done : ℕ) → state_in o.start.value o.world done ≡ state_after n.world.catalog n.world.rule n.start.value (Old ++ calls ∷ []) done
    by_parts done = λ i. state_after (catalog_is i) (rule_is i) (start_is i) (calls_are i) done

    abbrev Next : State → State
    Next s = step (run_of n.world.catalog) s (handed n.world.rule calls)

    state_is : state_now o ≡ step (run_of n.world.catalog) (state_now n) (with_settings (state_now n) calls)
    state_is =
        by_parts (length o.world.started.items)
        ∙ behind_last n.world.catalog n.world.rule n.start.value Old calls (length o.world.started.items) long_more
        ∙ ap Next (sym (now_calls n all))
        ∙ ap (step (run_of n.world.catalog) (state_now n)) (by_settings n all calls)

    answer_is : answer_at o (length n.world.started.items) ≡ answer (run_of n.world.catalog) (state_now n) (with_settings (state_now n) calls)
    answer_is =
        let at = sym (long_calls n.world) in
        let s : state_in o.start.value o.world (length n.world.started.items) ≡ state_now n =
        ap (state_in o.start.value o.world) at ∙ by_parts (length Old) ∙ before_last n.world.catalog n.world.rule n.start.value Old calls
        ∙ sym (now_calls n all) in
        let h : handed_in o.start.value o.world (length n.world.started.items) ≡ with_settings (state_now n) calls =
        ap (handed_in o.start.value o.world) at
        ∙ (λ i. handed_at (catalog_is i) (rule_is i) (start_is i) (calls_are i) (length Old))
        ∙ last_handed n.world.catalog n.world.rule n.start.value Old calls ∙ by_settings n all calls in
        λ i. answer (run_of (catalog_is i)) (s i) (h i)

    pub is_next : AreReady o → ((node : ℕ) → node < o.world.nodes → done_in o.world node ≡ length o.world.started.items) → IsNext n calls o
    is_next ready done = record {
      done = record { ready = ready; done = done };
      fixed = record { catalog = catalog_is; rule = rule_is; nodes = fixed2.nodes ∙ fixed1.nodes };
      batches = many;
      requests = requests2 ∙ requests1;
      state = state_is;
      answer = answer_is;
    }

-- what the last batch printed is the text of that batch
pub text_is : (n : Nodes) (calls : List Call) (o : Nodes) (plan : Plan) (each : Bool) → n.world.catalog ≡ plan → IsNext n calls o
    → last_text plan each o ≡ batch_text plan each (state_now n) (with_settings (state_now n) calls)
text_is n calls o plan each under next =
    let many = next.batches in
    let at : length o.world.started.items - 1 ≡ length n.world.started.items = omega arith in
    let a = ap (answer_at o) at ∙ next.answer ∙ ap (λ (p : Plan). answer (run_of p) (state_now n) (with_settings (state_now n) calls)) under in
    let s = next.state ∙ ap (λ (p : Plan). step (run_of p) (state_now n) (with_settings (state_now n) calls)) under in
    λ i. answer_text plan.tables (a i) ++ (if each then listing plan (s i) else [])

-- ---- a database that runs

pub done_runs : (plan : Plan) (b : Base) (n : Nodes) → b ≡ base.Runs n → IsUnder plan b → AreDone n
done_runs plan b n is under = (subst (λ (x : Base). IsUnder plan x) is under).0

pub plan_runs : (plan : Plan) (b : Base) (n : Nodes) → b ≡ base.Runs n → IsUnder plan b → n.world.catalog ≡ plan
plan_runs plan b n is under = (subst (λ (x : Base). IsUnder plan x) is under).1

pub begun_runs : (plan : Plan) (b : Base) (n : Nodes) → b ≡ base.Runs n → IsUnder plan b → IsBegun plan b n
begun_runs plan b n is under = record {
  done = done_runs plan b n is under;
  plan_is = plan_runs plan b n is under;
  state = ap state_of (sym is);
  requests = ap requests_in (sym is);
}

-- what the last batch printed, part by part
pub last_each : (plan : Plan) (each : Bool) (n : Nodes) (bytes listed : List ℕ) (a : Answer) → each ≡ true → bytes ≡ answer_text plan.tables a
    → a ≡ answer_at n (length n.world.started.items - 1) → listed ≡ listing plan (state_now n) → bytes ++ listed ≡ last_text plan each n
last_each plan each n bytes listed a on text is list = λ i. (text ∙ ap (answer_text plan.tables) is) i ++ (if sym on i then list i else [])

pub last_alone : (plan : Plan) (each : Bool) (n : Nodes) (bytes : List ℕ) (a : Answer) → each ≡ false → bytes ≡ answer_text plan.tables a
    → a ≡ answer_at n (length n.world.started.items - 1) → bytes ≡ last_text plan each n
last_alone plan each n bytes a off text is =
    sym (append-nil bytes) ∙ (λ i. (text ∙ ap (answer_text plan.tables) is) i ++ (if sym off i then listing plan (state_now n) else []))
