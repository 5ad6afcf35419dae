-- What is printed of a workload that was run.
use Rattle.std.specs.Prelude.{ℕ, List, ◌++◌, codes, length}
use Rattle.std.specs.FinMap.{entries}
use Rattle.answer_text.specs.Notices.{counted}
use Rattle.aria_base.specs.Orders.{Database}
use Rattle.batch_core.specs.Steps.{State}
use Rattle.command_words.specs.declared.settings.Bench.{Bench}
use Rattle.workloads.specs.Generators.{generator_of, name_of}
use Rattle.bench_command.specs.declared.summaries.Counts.{Counts}
use Rattle.bench_command.specs.declared.tallies.Tally.{Tally}
use Rattle.bench_command.specs.Benches.{ran_of}
use Rattle.bench_command.specs.Tallies.{sum_of, tally_of}

abbrev pub name_text : List ℕ → List ℕ
name_text name = codes "bench " ++ name ++ codes "\n"

-- how many batches were run, those without new requests included, and how many requests were numbered
abbrev pub numbers_text : Counts → List ℕ
numbers_text counts = counted (codes "batches ") counts.batches ++ counted (codes "requests ") counts.requests

abbrev pub tally_text : Tally → List ℕ
tally_text tally =
    counted (codes "ok ") tally.ok ++ counted (codes "back ") tally.back
    ++ counted (codes "trap ") tally.trap ++ counted (codes "waits ") tally.waits

-- how many rows there are, and the sum of their numbers
abbrev pub totals_text : ℕ → ℕ → List ℕ
totals_text rows sum = counted (codes "rows ") rows ++ counted (codes "sum ") sum

abbrev pub rows_text : Database → List ℕ
rows_text rows = totals_text (length (entries rows)) (sum_of rows)

-- how many requests wait in the end, and what the rows come to
abbrev pub rest_text : Counts → Database → List ℕ
rest_text counts rows = counted (codes "left ") counts.left ++ rows_text rows

-- all of it behind the name
abbrev pub counts_text : Counts → Tally → Database → List ℕ
counts_text counts tally rows = numbers_text counts ++ tally_text tally ++ rest_text counts rows

abbrev pub counts_of : State → Counts
counts_of state = record { batches = state.batches; requests = state.requests; left = length state.waiting }

abbrev pub summary_text : List ℕ → State → Tally → List ℕ
summary_text name state tally = name_text name ++ counts_text (counts_of state) tally state.rows

abbrev pub summary_of : Bench → List ℕ
summary_of b = summary_text (name_of (generator_of b.workload)) (ran_of b).state (tally_of (ran_of b).answers)
