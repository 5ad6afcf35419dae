-- What the numbers of a summary add up to.
use Rattle.std.specs.Prelude.{◌≡◌, ℕ, ◌+◌, length}
use Rattle.command_words.specs.declared.settings.Bench.{Bench}
use Rattle.bench_command.specs.declared.tallies.Tally.{Tally}
use Rattle.bench_command.specs.Benches.{ran_of}
use Rattle.bench_command.specs.Tallies.{tally_of}

-- requests that ended, each in one way
abbrev pub ended : Tally → ℕ
ended tally = tally.ok + tally.back + tally.trap

-- with those that are left they are all that were numbered
abbrev pub EachOnce : Bench → Type 0
EachOnce b = ended (tally_of (ran_of b).answers) + length (ran_of b).state.waiting ≡ (ran_of b).state.requests
