-- What holds of the settings that arguments ask for.
use Rattle.std.specs.Prelude.{◌≡◌, ◌≤◌, ◌*◌, Some}
use Rattle.aria_base.specs.declared.limits.TheConstants.{MOST_REQUESTS, MOST_WORKERS}
use Rattle.command_words.specs.declared.settings.Amount.{Amount}
use Rattle.command_words.specs.declared.settings.Bench.{Bench}
use Rattle.command_words.specs.declared.settings.Command.TheVariants as command
use Rattle.command_words.specs.declared.settings.Mix.{Mix}
use Rattle.command_words.specs.declared.settings.Workload.{Workload}
use Rattle.command_words.specs.Lines.{Line}
use Rattle.command_words.specs.Settings.{command_of}
use Rattle.tpcc_load.specs.Heads as orders
use Rattle.workloads.specs.Generators.{IsWithin, generator_of, orders_of}

-- so many batches of so many requests may be asked for
pub record IsAmount (a : Amount) : Type 0 where
  pub batches : (1 ≤ a.batches) × (a.batches ≤ 1000)
  pub size : (1 ≤ a.size) × (a.size ≤ MOST_REQUESTS)
  pub requests : a.batches * a.size ≤ 1000000

pub record IsAsked (w : Workload) : Type 0 where
  pub amount : IsAmount w.amount
  pub generator : IsWithin (generator_of w)

-- so many batches of the mix may be asked for, by so many workers
pub record IsMixAsked (m : Mix) : Type 0 where
  pub amount : IsAmount m.amount
  pub orders : orders.IsWithin (orders_of m.amount m.stock)
  pub workers : (1 ≤ m.workers) × (m.workers ≤ MOST_WORKERS)

-- the settings of every line are within their ranges
pub record WordsAreWithin : Type 0 where
  pub gen : (l : Line) (w : Workload) → command_of l ≡ Some (command.Gen w) → IsAsked w
  pub bench : (l : Line) (b : Bench) → command_of l ≡ Some (command.Bench b) → IsAsked b.workload
  pub mix : (l : Line) (m : Mix) → command_of l ≡ Some (command.Mix m) → IsMixAsked m
