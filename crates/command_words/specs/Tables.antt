-- The commands, each with its options.
use Rattle.std.specs.Prelude.{ℕ, true, false, List, [], ◌∷◌, codes}
use Rattle.command_words.specs.Lines.{Opt, Cmd}
use Rattle.command_words.specs.Values.{Choice, Range}
use Rattle.command_words.specs.Options as option

abbrev pub of_range : Range → Opt
of_range range = record { name = range.name; is_flag = false }

abbrev pub of_choice : {T : Type 0} → Choice T → Opt
of_choice choice = record { name = choice.name; is_flag = false }

abbrev pub of_flag : List ℕ → Opt
of_flag name = record { name = name; is_flag = true }

abbrev pub cmd : List ℕ → List Opt → Cmd
cmd name options = record { name = name; options = options }

-- the options of a workload, with more behind them
abbrev pub with_workload : List Opt → List Opt
with_workload more =
    of_choice option.kind ∷ of_range option.number ∷ of_range option.batches ∷ of_range option.size ∷ of_range option.keys
    ∷ of_range option.ops ∷ of_range option.reads ∷ of_range option.updates ∷ of_range option.hot
    ∷ of_range option.warehouses ∷ of_range option.customers ∷ of_range option.items ∷ more

abbrev pub commands : List Cmd
commands =
    cmd (codes "once") (of_range option.workers ∷ of_range option.replicas ∷ of_choice option.rule ∷ of_range option.fallback ∷
    of_choice option.listing ∷ of_flag option.drain ∷ of_flag option.batons ∷ [])
    ∷ cmd (codes "init") (of_choice option.rule ∷ of_range option.fallback ∷ of_flag option.over ∷ [])
    ∷ cmd (codes "run") (of_range option.workers ∷ of_range option.replicas ∷ of_range option.checkpoint ∷
    of_choice option.listing ∷ of_flag option.drain ∷ of_flag option.batons ∷ [])
    ∷ cmd (codes "replay") (of_range option.workers ∷ of_range option.replicas ∷ of_choice option.listing ∷
    of_flag option.batons ∷ [])
    ∷ cmd (codes "check") []
    ∷ cmd (codes "gen") (with_workload [])
    ∷ cmd (codes "bench") (with_workload (of_range option.workers ∷ of_range option.replicas ∷ of_choice option.rule ∷
    of_range option.fallback ∷ of_flag option.drain ∷ of_flag option.batons ∷ []))
    ∷ cmd (codes "audit") []
    ∷ cmd (codes "mix") (of_range option.number ∷ of_range option.batches ∷ of_range option.size ∷ of_range option.warehouses ∷
    of_range option.customers ∷ of_range option.items ∷ of_range option.workers ∷ of_choice option.rule ∷ [])
    ∷ cmd (codes "nodes") (of_range option.nodes ∷ of_choice option.rule ∷ of_choice option.listing ∷ of_flag option.drain ∷ [])
    ∷ []
