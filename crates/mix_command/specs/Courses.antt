-- All five requests of order entry, run batch by batch from the settings alone. Workers have no say.
use Rattle.std.specs.Prelude.{ℕ, zero, suc, ◌+◌, ◌-◌, min, List, length}
use Rattle.batch_rules.specs.declared.verdicts.Rule.{Rule}
use Rattle.bench_command.specs.declared.tallies.Tally.{Tally}
use Rattle.bench_command.specs.Tallies.{blank_tally, with_lines}
use Rattle.command_words.specs.declared.settings.Mix.{Mix}
use Rattle.load_gen.specs.Draws.{times}
use Rattle.rand_pcg.specs.Lcg.{Lcg}
use Rattle.range_resv.specs.Engines.{Between, batch_from}
use Rattle.range_rules.specs.declared.routines.Work.{Work}
use Rattle.range_rules.specs.declared.routines.TheConstants.{MOST_WORKS}
use Rattle.tpcc_load.specs.declared.settings.Tpcc.{Tpcc}
use Rattle.tpcc_more.specs.Mixes.{begun, head_rows}
use Rattle.tpcc_routines.specs.Mixes.{request}
use Rattle.tpcc_sound.specs.Laws.{act}
use Rattle.workloads.specs.declared.generators.Generator.TheVariants as load
use Rattle.workloads.specs.Generators.{first_draws, orders_of}

-- between two batches: the database, the words that are still to be drawn, and what was counted of the answers
pub record Stage : Type 0 where
  pub mix : Between
  pub draws : Lcg
  pub tally : Tally

abbrev pub first_stage : Tpcc → Stage
first_stage s = record { mix = begun (head_rows s); draws = first_draws (load.Tpcc s); tally = blank_tally }

-- how many new works a batch has: so many, or as many as there is room for beside those that wait
abbrev pub new_works : ℕ → Between → ℕ
new_works size mix = min size (MOST_WORKS - length mix.carried)

-- they are drawn behind the words of the batch before
abbrev pub works_at : Tpcc → ℕ → Stage → List Work × Lcg
works_at s size stage = times (new_works size stage.mix) (request s (stage.mix.batches + 1)) stage.draws

-- what a batch of these new works leaves
abbrev pub left_by : Rule → Between → List Work → Between
left_by rule mix works = record {
  plan = mix.plan;
  rows = (batch_from act rule mix works).rows;
  carried = (batch_from act rule mix works).carried;
  batches = mix.batches + 1;
  requests = mix.requests + length works;
}

-- behind a batch of these new works, with the words behind them
abbrev pub behind : Rule → Stage → List Work × Lcg → Stage
behind rule stage drawn = record {
  mix = left_by rule stage.mix drawn.0;
  draws = drawn.1;
  tally = with_lines stage.tally (batch_from act rule stage.mix drawn.0).lines;
}

-- behind so many batches
unfoldable pub stage_after : Tpcc → Rule → ℕ → ℕ → Stage
stage_after s rule size zero = first_stage s
stage_after s rule size (suc n) = behind rule (stage_after s rule size n) (works_at s size (stage_after s rule size n))

-- what the settings come to
abbrev pub last_stage : Mix → Stage
last_stage m = stage_after (orders_of m.amount m.stock) m.rule m.amount.size m.amount.batches
