-- The settings of a line, by its command.
use Rattle.std.specs.Prelude.{ℕ, ◌+◌, ◌*◌, nat_le, if◌then◌else◌, List, [], ◌∷◌, find, Option, Some, None, option_and_then}
use Rattle.std.specs.Prelude.{option_map, codes, bytes_eq}
use Rattle.command_words.specs.declared.settings.Amount.{Amount}
use Rattle.command_words.specs.declared.settings.Accesses.{Accesses}
use Rattle.command_words.specs.declared.settings.Stock.{Stock}
use Rattle.command_words.specs.declared.settings.Workload.{Workload}
use Rattle.command_words.specs.declared.settings.Once.{Once}
use Rattle.command_words.specs.declared.settings.Init.{Init}
use Rattle.command_words.specs.declared.settings.Run.{Run}
use Rattle.command_words.specs.declared.settings.Replay.{Replay}
use Rattle.command_words.specs.declared.settings.Bench.{Bench}
use Rattle.command_words.specs.declared.settings.Mix.{Mix}
use Rattle.command_words.specs.declared.settings.Nodes.{Nodes}
use Rattle.command_words.specs.declared.settings.Command.{Command}
use Rattle.command_words.specs.declared.settings.Command.TheVariants as command
use Rattle.command_words.specs.Lines.{Line}
use Rattle.command_words.specs.Values.{choice_in, flag_in, number_in}
use Rattle.command_words.specs.Options as option

-- goes on with a value, where there is one
abbrev pub with_some : {X Y : Type 0} → Option X → (X → Option Y) → Option Y
with_some o f = option_and_then f o

-- ---- workloads

-- at most 1,000,000 requests
abbrev pub amount_of : Line → Option Amount
amount_of l =
    with_some (number_in l option.number) (λ n. with_some (number_in l option.batches) (λ b.
    with_some (number_in l option.size) (λ s.
    if nat_le (b * s) 1000000 then Some (record { number = n; batches = b; size = s }) else None)))

-- reads and updates are at most all of a hundred
abbrev pub accesses_of : Line → Option Accesses
accesses_of l =
    with_some (number_in l option.keys) (λ k. with_some (number_in l option.ops) (λ o. with_some (number_in l option.reads) (λ r.
    with_some (number_in l option.updates) (λ u. with_some (number_in l option.hot) (λ h.
    if nat_le (r + u) 100 then Some (record { keys = k; ops = o; reads = r; updates = u; hot = h }) else None)))))

abbrev pub stock_of : Line → Option Stock
stock_of l =
    with_some (number_in l option.warehouses) (λ w. with_some (number_in l option.customers) (λ c.
    with_some (number_in l option.items) (λ i.
    Some (record { warehouses = w; customers = c; items = i }))))

abbrev pub workload_of : Line → Option Workload
workload_of l =
    with_some (choice_in l option.kind) (λ k. with_some (amount_of l) (λ m. with_some (accesses_of l) (λ a.
    with_some (stock_of l) (λ s.
    Some (record { kind = k; amount = m; accesses = a; stock = s })))))

-- ---- commands

abbrev pub once_of : Line → Option Once
once_of l =
    with_some (number_in l option.workers) (λ w. with_some (number_in l option.replicas) (λ r.
    with_some (choice_in l option.rule) (λ u. with_some (number_in l option.fallback) (λ f.
    with_some (choice_in l option.listing) (λ s.
    Some (record {
      workers = w;
      replicas = r;
      rule = u;
      fallback = f;
      listing = s;
      drain = flag_in l option.drain;
      batons = flag_in l option.batons;
    }))))))

abbrev pub init_of : Line → Option Init
init_of l =
    with_some (choice_in l option.rule) (λ u. with_some (number_in l option.fallback) (λ f.
    Some (record { rule = u; fallback = f; over = flag_in l option.over })))

abbrev pub run_of : Line → Option Run
run_of l =
    with_some (number_in l option.workers) (λ w. with_some (number_in l option.replicas) (λ r.
    with_some (number_in l option.checkpoint) (λ c. with_some (choice_in l option.listing) (λ s.
    Some (record {
      workers = w;
      replicas = r;
      checkpoint = c;
      listing = s;
      drain = flag_in l option.drain;
      batons = flag_in l option.batons;
    })))))

abbrev pub replay_of : Line → Option Replay
replay_of l =
    with_some (number_in l option.workers) (λ w. with_some (number_in l option.replicas) (λ r.
    with_some (choice_in l option.listing) (λ s.
    Some (record { workers = w; replicas = r; listing = s; batons = flag_in l option.batons }))))

abbrev pub bench_of : Line → Option Bench
bench_of l =
    with_some (workload_of l) (λ d. with_some (number_in l option.workers) (λ w. with_some (number_in l option.replicas) (λ r.
    with_some (choice_in l option.rule) (λ u. with_some (number_in l option.fallback) (λ f.
    Some (record {
      workload = d;
      workers = w;
      replicas = r;
      rule = u;
      fallback = f;
      drain = flag_in l option.drain;
      batons = flag_in l option.batons;
    }))))))

abbrev pub mix_of : Line → Option Mix
mix_of l =
    with_some (amount_of l) (λ m. with_some (stock_of l) (λ s.
    with_some (number_in l option.workers) (λ w. with_some (choice_in l option.rule) (λ u.
    Some (record { amount = m; stock = s; workers = w; rule = u })))))

abbrev pub nodes_of : Line → Option Nodes
nodes_of l =
    with_some (number_in l option.nodes) (λ n. with_some (choice_in l option.rule) (λ u.
    with_some (choice_in l option.listing) (λ s.
    Some (record { nodes = n; rule = u; listing = s; drain = flag_in l option.drain }))))

-- each command's name, and the settings of its lines
abbrev pub readers : List (List ℕ × (Line → Option Command))
readers =
    (codes "once", λ l. option_map command.Once (once_of l))
    ∷ (codes "init", λ l. option_map command.Init (init_of l))
    ∷ (codes "run", λ l. option_map command.Run (run_of l))
    ∷ (codes "replay", λ l. option_map command.Replay (replay_of l))
    ∷ (codes "check", λ l. Some command.Check)
    ∷ (codes "gen", λ l. option_map command.Gen (workload_of l))
    ∷ (codes "bench", λ l. option_map command.Bench (bench_of l))
    ∷ (codes "audit", λ l. Some command.Audit)
    ∷ (codes "mix", λ l. option_map command.Mix (mix_of l))
    ∷ (codes "nodes", λ l. option_map command.Nodes (nodes_of l))
    ∷ []

abbrev pub settings_named : List ℕ → Line → Option Command
settings_named name l = option_and_then (λ r. r.1 l) (find (λ r. bytes_eq name r.0) readers)

abbrev pub command_of : Line → Option Command
command_of l = settings_named l.cmd.name l
