-- The mix in memory between two of its batches.
use Rattle.std.specs.Prelude.{◌≡◌, ◌≤◌, ◌<◌, ◌+◌, ◌*◌, ℕ, List, length, true}
use Rattle.std.specs.List.{All}
use Rattle.aria_base.specs.declared.limits.TheConstants.{GREATEST_NUMBER}
use Rattle.cat_builtin.specs.Tpcc.{tpcc}
use Rattle.range_resv.specs.Engines.{Between}
use Rattle.range_rules.specs.declared.routines.Work.{Work}
use Rattle.range_rules.specs.declared.routines.TheConstants.{MOST_WORKS}
use Rattle.range_suits.specs.Suits.{is_taken}
use Rattle.tpcc_routines.specs.Routines.{is_more}
use Rattle.mix_command.specs.declared.turns.Turn.{Turn}
use Rattle.mix_command.specs.Courses.{Stage}

abbrev pub stage_of : Turn → Stage
stage_of turn = record { mix = turn.mix; draws = turn.draws; tally = turn.tally }

-- nothing runs over so early: a batch has a bounded number of works, and a line of each
pub record IsEarly (stage : Stage) : Type 0 where
  pub requests : stage.mix.requests ≤ MOST_WORKS * stage.mix.batches
  pub ok : stage.tally.ok ≤ MOST_WORKS * stage.mix.batches
  pub back : stage.tally.back ≤ MOST_WORKS * stage.mix.batches
  pub trap : stage.tally.trap ≤ MOST_WORKS * stage.mix.batches
  pub waits : stage.tally.waits ≤ MOST_WORKS * stage.mix.batches

-- these new works may be run
pub record MayRun (mix : Between) (works : List Work) : Type 0 where
  pub taken : All (λ work. is_taken tpcc is_more work ≡ true) works
  pub room : length mix.carried + length works ≤ MOST_WORKS
  pub batches : mix.batches < GREATEST_NUMBER
  pub requests : mix.requests + length works ≤ GREATEST_NUMBER
