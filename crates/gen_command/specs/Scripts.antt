-- A workload as a script: its catalogue by name, its rows in the order of their keys, and its batches, each with the line that ends it.
use Rattle.std.specs.Prelude.{ℕ, zero, suc, ◌+◌, List, [], ◌∷◌, ◌++◌, codes, flat_map}
use Rattle.std.specs.FinMap.{entries}
use Rattle.aria_base.specs.declared.calls.Call.{Call}
use Rattle.answer_text.specs.Notices.{counted}
use Rattle.answer_text.specs.States.{row_text}
use Rattle.command_words.specs.declared.settings.Workload.{Workload}
use Rattle.load_gen.specs.Draws.{Drawn, known, ◌>>=◌, times}
use Rattle.proc_lang.specs.declared.procs.Proc.{Proc}
use Rattle.script_text.specs.Written.{call_line}
use Rattle.workloads.specs.Generators.{generator_of, name_of, plan_of, rows_of, first_draws, request_of}
use Rattle.workloads.specs.declared.generators.Generator.{Generator}

-- ---- before the first batch

abbrev pub catalog_text : Generator → List ℕ
catalog_text g = codes "catalog " ++ name_of g ++ codes "\n"

abbrev pub rows_text : Generator → List ℕ
rows_text g = flat_map (row_text (plan_of g).tables) (entries (rows_of g))

abbrev pub head_text : Generator → List ℕ
head_text g = catalog_text g ++ rows_text g

-- ---- batches

-- the calls of the batches from this number on, so many batches; each is drawn behind the words of the one before
unfoldable pub calls_from : Generator → ℕ → ℕ → ℕ → Drawn (List (List Call))
calls_from g size number zero = known []
calls_from g size number (suc n) = do
  calls ← times size (request_of g number)
  later ← calls_from g size (number + 1) n
  known (calls ∷ later)

abbrev pub call_text : List Proc → Call → List ℕ
call_text procs call = call_line procs call ++ codes "\n"

-- the batch of this number with these calls
abbrev pub batch_text : List Proc → ℕ → List Call → List ℕ
batch_text procs number calls = flat_map (call_text procs) calls ++ counted (codes "end ") number

-- batches, the first of them with this number
abbrev pub batches_text : List Proc → ℕ → List (List Call) → List ℕ
batches_text procs number [] = []
batches_text procs number (calls ∷ later) = batch_text procs number calls ++ batches_text procs (number + 1) later

-- ---- the whole

-- so many batches of this size
abbrev pub calls_of : Generator → ℕ → ℕ → List (List Call)
calls_of g size count = (calls_from g size 1 count (first_draws g)).0

abbrev pub script_text : Generator → ℕ → ℕ → List ℕ
script_text g size count = head_text g ++ batches_text (plan_of g).procs 1 (calls_of g size count)

abbrev pub script_of : Workload → List ℕ
script_of w = script_text (generator_of w) w.amount.size w.amount.batches
