-- What arguments ask for.
use Rattle.std.specs.Prelude.{◌≤◌, Bool, true, false, ℕ, List, Option, Some, option_and_then}
use Rattle.aria_base.specs.declared.limits.TheConstants.{MOST_PERCENT, MOST_REPLICAS, MOST_WORKERS}
use Rattle.command_words.specs.Lines.{line_of}
use Rattle.command_words.specs.Settings.{command_of}
use Rattle.command_words.specs.Tables.{commands}
use Rattle.command_words.specs.declared.settings.Command.{Command}
use Rattle.command_words.specs.declared.settings.Command.TheVariants as command
use Rattle.bench_command.specs.Benches as bench
use Rattle.nodes_command.specs.Outs as nodes
use Rattle.run_commands.specs.Outs as once
use Rattle.workloads.specs.Laws.{IsAsked, IsMixAsked}

-- the command that arguments are, where they are one
abbrev pub task_in : List (List ℕ) → Option Command
task_in words = option_and_then command_of (line_of commands words)

-- its settings are within their ranges
abbrev pub IsInRange : Command → Type 0
IsInRange (command.Once settings) = once.IsInRange settings
IsInRange (command.Init settings) = settings.fallback ≤ MOST_PERCENT
IsInRange (command.Run settings) = ((1 ≤ settings.workers) × (settings.workers ≤ MOST_WORKERS))
    × ((1 ≤ settings.replicas) × (settings.replicas ≤ MOST_REPLICAS))
IsInRange (command.Replay settings) = ((1 ≤ settings.workers) × (settings.workers ≤ MOST_WORKERS))
    × ((1 ≤ settings.replicas) × (settings.replicas ≤ MOST_REPLICAS))
IsInRange (command.Gen settings) = IsAsked settings
IsInRange (command.Bench settings) = bench.IsInRange settings
IsInRange (command.Mix settings) = IsMixAsked settings
IsInRange (command.Nodes settings) = nodes.IsInRange settings
IsInRange command.Audit = Unit {0}
IsInRange command.Check = Unit {0}

-- whether the input is read for it
abbrev pub reads : Option Command → Bool
reads (Some (command.Once settings)) = true
reads (Some (command.Init settings)) = true
reads (Some (command.Run settings)) = true
reads (Some (command.Nodes settings)) = true
reads (Some command.Audit) = true
reads (Some command.Check) = true
reads other = false

-- whether it needs a store that can be opened
abbrev pub opens : Option Command → Bool
opens (Some (command.Run settings)) = true
opens (Some (command.Replay settings)) = true
opens other = false

-- whether it makes a store of what it reads
abbrev pub makes : Option Command → Bool
makes (Some (command.Init settings)) = true
makes other = false

-- whether a call is made on the disk for it
abbrev pub uses_disk : Option Command → Bool
uses_disk (Some (command.Init settings)) = true
uses_disk (Some (command.Run settings)) = true
uses_disk (Some (command.Replay settings)) = true
uses_disk other = false

-- whether it ends in a finding, which may be that something fails
abbrev pub finds : Option Command → Bool
finds (Some (command.Bench settings)) = true
finds (Some command.Audit) = true
finds (Some command.Check) = true
finds other = false

-- the same command by one worker on one replica or node, without batons
abbrev pub alone : Command → Command
alone (command.Once settings) = command.Once (record settings { workers = 1; replicas = 1; batons = false })
alone (command.Run settings) = command.Run (record settings { workers = 1; replicas = 1; batons = false })
alone (command.Replay settings) = command.Replay (record settings { workers = 1; replicas = 1; batons = false })
alone (command.Bench settings) = command.Bench (record settings { workers = 1; replicas = 1; batons = false })
alone (command.Mix settings) = command.Mix (record settings { workers = 1 })
alone (command.Nodes settings) = command.Nodes (record settings { nodes = 1 })
alone other = other
