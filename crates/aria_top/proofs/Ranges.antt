-- The settings that arguments give are within their ranges.
use Rattle.std.proofs.Common.{◌≡◌, sym, subst, refl, ℕ, ◌≤◌, Bool, true, false, cond, ◌&&◌, nat_le, List, [], ◌∷◌, Option, Some, None, arith}
use Rattle.std.proofs.lemmas.Bool.{leb-true}
use Rattle.std.specs.Prelude.{find, option_and_then, option_map, codes, bytes_eq, drop, Result, Ok, Err, IfOk}
use Rattle.std.specs.Option.{IfSome}
use Rattle.aria_base.specs.declared.limits.TheConstants.{MOST_PERCENT, MOST_REPLICAS, MOST_WORKERS}
use Rattle.command_words.specs.Lines.{Line, line_of, text_in}
use Rattle.command_words.specs.Options as option
use Rattle.command_words.specs.Settings.{bench_of, command_of, init_of, mix_of, nodes_of, once_of, readers, replay_of, run_of, with_some, workload_of}
use Rattle.command_words.specs.Tables.{commands}
use Rattle.command_words.specs.Values.{Range, choice_in, flag_in, number_in, number_of, number_or, within}
use Rattle.batch_rules.specs.declared.verdicts.Rule.{Rule}
use Rattle.command_words.specs.declared.settings.Bench.{Bench}
use Rattle.command_words.specs.declared.settings.Command.{Command}
use Rattle.command_words.specs.declared.settings.Command.TheVariants as command
use Rattle.command_words.specs.declared.settings.Init.{Init}
use Rattle.command_words.specs.declared.settings.Listing.{Listing}
use Rattle.command_words.specs.declared.settings.Nodes.{Nodes}
use Rattle.command_words.specs.declared.settings.Once.{Once}
use Rattle.command_words.specs.declared.settings.Replay.{Replay}
use Rattle.command_words.specs.declared.settings.Run.{Run}
use Rattle.command_words.specs.declared.settings.Workload.{Workload}
use Rattle.nodes_command.specs.Outs as nodes
use Rattle.run_commands.specs.Outs.{IsInRange}
use Rattle.workloads.specs.Laws.{WordsAreWithin}
use Rattle.aria_top.specs.Tasks as tasks
use Rattle.aria_top.specs.Tasks.{task_in}

-- ---- where a reader reads something, this holds of it

if_then : {A B : Type 0} (o : Option A) (f : A → Option B) (P : A → Type 0) (Q : B → Type 0) → IfSome o P → ((a : A) → P a → IfSome (f a) Q)
    → IfSome (option_and_then f o) Q
if_then None f P Q h next = tt
if_then (Some a) f P Q h next = next a h

if_map : {A B : Type 0} (o : Option A) (f : A → B) (Q : B → Type 0) → IfSome o (λ a. Q (f a)) → IfSome (option_map f o) Q
if_map None f Q h = tt
if_map (Some a) f Q h = h

anything : {A : Type 0} (o : Option A) → IfSome o (λ _. Unit {0})
anything None = tt
anything (Some a) = tt

of_some : {A : Type 0} (o : Option A) (a : A) (P : A → Type 0) → o ≡ Some a → IfSome o P → P a
of_some {A = A} o a P e h = subst (λ (x : Option A). IfSome x P) e h

-- ---- numbers

abbrev IsWithin : Range → ℕ → Type 0
IsWithin range n = (range.low ≤ n) × (n ≤ range.high)

both_true : (a b : Bool) (n : ℕ) (P : ℕ → Type 0) → (a ≡ true → b ≡ true → P n) → IfSome (cond (a && b) (Some n) None) P
both_true true true n P h = h refl refl
both_true true false n P h = tt
both_true false b n P h = tt

within_holds : (range : Range) (n : ℕ) → IfSome (within range n) (IsWithin range)
within_holds range n = both_true (nat_le range.low n) (nat_le n range.high) n (IsWithin range)
    (λ low high. (leb-true range.low n low, leb-true n range.high high))

number_holds : (range : Range) (given : Option (List ℕ)) → IsWithin range range.usual → IfSome (number_or range given) (IsWithin range)
number_holds range None usual = usual
number_holds range (Some text) usual = if_then (number_of text) (within range) (λ _. Unit {0}) (IsWithin range) (anything (number_of text))
    (λ n _. within_holds range n)

in_range : (l : Line) (range : Range) → IsWithin range range.usual → IfSome (number_in l range) (IsWithin range)
in_range l range usual = number_holds range (text_in l range.name) usual

-- ---- the settings of each command

abbrev OfOnce : Line → ℕ → ℕ → Rule → ℕ → Listing → Option Once
OfOnce l w r u f s = Some (record {
  workers = w;
  replicas = r;
  rule = u;
  fallback = f;
  listing = s;
  drain = flag_in l option.drain;
  batons =
      flag_in l option.batons;
})

once_holds : (l : Line) → IfSome (once_of l) IsInRange
once_holds l =
    if_then (number_in l option.workers) (λ w. with_some (number_in l option.replicas)
    (λ r. with_some (choice_in l option.rule) (λ u. with_some (number_in l option.fallback)
    (λ f. with_some (choice_in l option.listing) (λ s. OfOnce l w r u f s)))))
    (IsWithin option.workers) IsInRange (in_range l option.workers (omega arith, omega arith)) (λ w of_w.
    if_then (number_in l option.replicas) (λ r. with_some (choice_in l option.rule)
    (λ u. with_some (number_in l option.fallback) (λ f. with_some (choice_in l option.listing) (λ s. OfOnce l w r u f s))))
    (IsWithin option.replicas) IsInRange (in_range l option.replicas (omega arith, omega arith)) (λ r of_r.
    if_then (choice_in l option.rule) (λ u. with_some (number_in l option.fallback) (λ f. with_some (choice_in l option.listing) (λ s. OfOnce l w r u f s)))
    (λ _. Unit {0}) IsInRange (anything (choice_in l option.rule)) (λ u _.
    if_then (number_in l option.fallback) (λ f. with_some (choice_in l option.listing) (λ s. OfOnce l w r u f s))
    (IsWithin option.fallback) IsInRange (in_range l option.fallback (omega arith, omega arith)) (λ f of_f.
    if_then (choice_in l option.listing) (λ s. OfOnce l w r u f s)
    (λ _. Unit {0}) IsInRange (anything (choice_in l option.listing)) (λ s _. record { workers = of_w; replicas = of_r; fallback = of_f.1 })))))

abbrev InitRange : Init → Type 0
InitRange settings = settings.fallback ≤ MOST_PERCENT

init_holds : (l : Line) → IfSome (init_of l) InitRange
init_holds l =
    if_then (choice_in l option.rule) (λ u. with_some (number_in l option.fallback)
    (λ f. Some (record { rule = u; fallback = f; over = flag_in l option.over })))
    (λ _. Unit {0}) InitRange (anything (choice_in l option.rule)) (λ u _.
    if_then (number_in l option.fallback) (λ f. Some (record { rule = u; fallback = f; over = flag_in l option.over }))
    (IsWithin option.fallback) InitRange (in_range l option.fallback (omega arith, omega arith)) (λ f of_f. of_f.1))

abbrev RunRange : Run → Type 0
RunRange settings = ((1 ≤ settings.workers) × (settings.workers ≤ MOST_WORKERS)) × ((1 ≤ settings.replicas) × (settings.replicas ≤ MOST_REPLICAS))

abbrev OfRun : Line → ℕ → ℕ → ℕ → Listing → Option Run
OfRun l w r c s = Some (record { workers = w; replicas = r; checkpoint = c; listing = s; drain = flag_in l option.drain; batons = flag_in l option.batons })

run_holds : (l : Line) → IfSome (run_of l) RunRange
run_holds l =
    if_then (number_in l option.workers) (λ w. with_some (number_in l option.replicas)
    (λ r. with_some (number_in l option.checkpoint) (λ c. with_some (choice_in l option.listing) (λ s. OfRun l w r c s))))
    (IsWithin option.workers) RunRange (in_range l option.workers (omega arith, omega arith)) (λ w of_w.
    if_then (number_in l option.replicas) (λ r. with_some (number_in l option.checkpoint) (λ c. with_some (choice_in l option.listing) (λ s. OfRun l w r c s)))
    (IsWithin option.replicas) RunRange (in_range l option.replicas (omega arith, omega arith)) (λ r of_r.
    if_then (number_in l option.checkpoint) (λ c. with_some (choice_in l option.listing) (λ s. OfRun l w r c s))
    (λ _. Unit {0}) RunRange (anything (number_in l option.checkpoint)) (λ c _.
    if_then (choice_in l option.listing) (λ s. OfRun l w r c s)
    (λ _. Unit {0}) RunRange (anything (choice_in l option.listing)) (λ s _. (of_w, of_r)))))

abbrev ReplayRange : Replay → Type 0
ReplayRange settings = ((1 ≤ settings.workers) × (settings.workers ≤ MOST_WORKERS)) × ((1 ≤ settings.replicas) × (settings.replicas ≤ MOST_REPLICAS))

abbrev OfReplay : Line → ℕ → ℕ → Listing → Option Replay
OfReplay l w r s = Some (record { workers = w; replicas = r; listing = s; batons = flag_in l option.batons })

replay_holds : (l : Line) → IfSome (replay_of l) ReplayRange
replay_holds l =
    if_then (number_in l option.workers) (λ w. with_some (number_in l option.replicas) (λ r. with_some (choice_in l option.listing) (λ s. OfReplay l w r s)))
    (IsWithin option.workers) ReplayRange (in_range l option.workers (omega arith, omega arith)) (λ w of_w.
    if_then (number_in l option.replicas) (λ r. with_some (choice_in l option.listing) (λ s. OfReplay l w r s))
    (IsWithin option.replicas) ReplayRange (in_range l option.replicas (omega arith, omega arith)) (λ r of_r.
    if_then (choice_in l option.listing) (λ s. OfReplay l w r s)
    (λ _. Unit {0}) ReplayRange (anything (choice_in l option.listing)) (λ s _. (of_w, of_r))))

-- all of it but the workload, of which there is a law
abbrev BenchRange : Bench → Type 0
BenchRange settings = ((1 ≤ settings.workers) × (settings.workers ≤ MOST_WORKERS)) × ((1 ≤ settings.replicas) × (settings.replicas ≤ MOST_REPLICAS))
    × (settings.fallback ≤ MOST_PERCENT)

abbrev OfBench : Line → Workload → ℕ → ℕ → Rule → ℕ → Option Bench
OfBench l d w r u f = Some (record {
  workload = d;
  workers = w;
  replicas = r;
  rule = u;
  fallback = f;
  drain = flag_in l option.drain;
  batons =
      flag_in l option.batons;
})

bench_holds : (l : Line) → IfSome (bench_of l) BenchRange
bench_holds l =
    if_then (workload_of l) (λ d. with_some (number_in l option.workers)
    (λ w. with_some (number_in l option.replicas) (λ r. with_some (choice_in l option.rule)
    (λ u. with_some (number_in l option.fallback) (λ f. OfBench l d w r u f)))))
    (λ _. Unit {0}) BenchRange (anything (workload_of l)) (λ d _.
    if_then (number_in l option.workers) (λ w. with_some (number_in l option.replicas)
    (λ r. with_some (choice_in l option.rule) (λ u. with_some (number_in l option.fallback) (λ f. OfBench l d w r u f))))
    (IsWithin option.workers) BenchRange (in_range l option.workers (omega arith, omega arith)) (λ w of_w.
    if_then (number_in l option.replicas) (λ r. with_some (choice_in l option.rule) (λ u. with_some (number_in l option.fallback) (λ f. OfBench l d w r u f)))
    (IsWithin option.replicas) BenchRange (in_range l option.replicas (omega arith, omega arith)) (λ r of_r.
    if_then (choice_in l option.rule) (λ u. with_some (number_in l option.fallback) (λ f. OfBench l d w r u f))
    (λ _. Unit {0}) BenchRange (anything (choice_in l option.rule)) (λ u _.
    if_then (number_in l option.fallback) (λ f. OfBench l d w r u f)
    (IsWithin option.fallback) BenchRange (in_range l option.fallback (omega arith, omega arith)) (λ f of_f. (of_w, of_r, of_f.1))))))

abbrev NodesRange : Nodes → Type 0
NodesRange settings = nodes.IsInRange settings

abbrev OfNodes : Line → ℕ → Rule → Listing → Option Nodes
OfNodes l n u s = Some (record { nodes = n; rule = u; listing = s; drain = flag_in l option.drain })

nodes_holds : (l : Line) → IfSome (nodes_of l) NodesRange
nodes_holds l =
    if_then (number_in l option.nodes) (λ n. with_some (choice_in l option.rule) (λ u. with_some (choice_in l option.listing) (λ s. OfNodes l n u s)))
    (IsWithin option.nodes) NodesRange (in_range l option.nodes (omega arith, omega arith)) (λ n of_n.
    if_then (choice_in l option.rule) (λ u. with_some (choice_in l option.listing) (λ s. OfNodes l n u s))
    (λ _. Unit {0}) NodesRange (anything (choice_in l option.rule)) (λ u _.
    if_then (choice_in l option.listing) (λ s. OfNodes l n u s)
    (λ _. Unit {0}) NodesRange (anything (choice_in l option.listing)) (λ s _. record { nodes = of_n })))

-- ---- the command of a line

abbrev IsSound : Command → Type 0
IsSound (command.Once settings) = IsInRange settings
IsSound (command.Init settings) = InitRange settings
IsSound (command.Run settings) = RunRange settings
IsSound (command.Replay settings) = ReplayRange settings
IsSound command.Check = Unit {0}
IsSound (command.Gen settings) = Unit {0}
IsSound (command.Bench settings) = BenchRange settings
IsSound command.Audit = Unit {0}
IsSound (command.Mix settings) = Unit {0}
IsSound (command.Nodes settings) = NodesRange settings

module _ (name : List ℕ) (l : Line) where
  abbrev Reader : Type 0
  Reader = List ℕ × (Line → Option Command)

  abbrev Reads : List Reader → Type 0
  Reads rs = IfSome (option_and_then (λ r. r.1 l) (find (λ r. bytes_eq name r.0) rs)) IsSound

  by_name : (b : Bool) (own : Reader) (others : Option Reader) → IfSome (own.1 l) IsSound → IfSome (option_and_then (λ r. r.1 l) others) IsSound
      → IfSome (option_and_then (λ r. r.1 l) (cond b (Some own) others)) IsSound
  by_name true own others first rest = first
  by_name false own others first rest = rest

  one : (own : Reader) (rs : List Reader) → IfSome (own.1 l) IsSound → Reads rs → Reads (own ∷ rs)
  one own rs first rest = by_name (bytes_eq name own.0) own (find (λ r. bytes_eq name r.0) rs) first rest

  all : Reads readers
  all =
      one (codes "once", λ k. option_map command.Once (once_of k)) (drop 1 readers) (if_map (once_of l) command.Once IsSound (once_holds l))
      (one (codes "init", λ k. option_map command.Init (init_of k)) (drop 2 readers) (if_map (init_of l) command.Init IsSound (init_holds l))
      (one (codes "run", λ k. option_map command.Run (run_of k)) (drop 3 readers) (if_map (run_of l) command.Run IsSound (run_holds l))
      (one (codes "replay", λ k. option_map command.Replay (replay_of k)) (drop 4 readers) (if_map (replay_of l) command.Replay IsSound (replay_holds l))
      (one (codes "check", λ k. Some command.Check) (drop 5 readers) tt
      (one (codes "gen", λ k. option_map command.Gen (workload_of k)) (drop 6 readers) (if_map (workload_of l) command.Gen IsSound (anything (workload_of l)))
      (one (codes "bench", λ k. option_map command.Bench (bench_of k)) (drop 7 readers) (if_map (bench_of l) command.Bench IsSound (bench_holds l))
      (one (codes "audit", λ k. Some command.Audit) (drop 8 readers) tt
      (one (codes "mix", λ k. option_map command.Mix (mix_of k)) (drop 9 readers) (if_map (mix_of l) command.Mix IsSound (anything (mix_of l)))
      (one (codes "nodes", λ k. option_map command.Nodes (nodes_of k)) [] (if_map (nodes_of l) command.Nodes IsSound (nodes_holds l)) tt)))))))))

sound : (l : Line) (c : Command) → command_of l ≡ Some c → IsSound c
sound l c e = of_some (command_of l) c IsSound e (all l.cmd.name l)

-- ---- the command of arguments

of_line : WordsAreWithin → (l : Line) (c : Command) → command_of l ≡ Some c → IsSound c → tasks.IsInRange c
of_line law l (command.Once settings) is h = h
of_line law l (command.Init settings) is h = h
of_line law l (command.Run settings) is h = h
of_line law l (command.Replay settings) is h = h
of_line law l command.Check is h = tt
of_line law l (command.Gen settings) is h = law.gen l settings is
of_line law l (command.Bench settings) is h = record { asked = law.bench l settings is; workers = h.0; replicas = h.1; fallback = h.2 }
of_line law l command.Audit is h = tt
of_line law l (command.Mix settings) is h = law.mix l settings is
of_line law l (command.Nodes settings) is h = h

by_command : WordsAreWithin → (l : Line) (o : Option Command) → command_of l ≡ o → IfSome o tasks.IsInRange
by_command law l None is = tt
by_command law l (Some c) is = of_line law l c is (sound l c is)

by_line : WordsAreWithin → (o : Option Line) → IfSome (option_and_then command_of o) tasks.IsInRange
by_line law None = tt
by_line law (Some l) = by_command law l (command_of l) refl

-- the settings that arguments ask for
pub in_bounds : {E : Type 0} → WordsAreWithin → (words : List (List ℕ)) (asked : Result (Option Command) E) → IfOk asked (λ found. found ≡ task_in words)
    → IfOk asked (λ found. IfSome found tasks.IsInRange)
in_bounds law words (Ok found) is = subst (λ (f : Option Command). IfSome f tasks.IsInRange) (sym is) (by_line law (line_of commands words))
in_bounds law words (Err why) is = tt
