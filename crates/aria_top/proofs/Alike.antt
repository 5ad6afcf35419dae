-- Workers, replicas, nodes and batons have no say in what a command line prints.
use Rattle.std.proofs.Common.{◌≡◌, ◌∙◌, sym, ap, refl, ℕ, false, List, Option, Some, None, option_map}
use Rattle.aria_store.specs.Reopens.{Reopened, NoStore, Damaged, Found}
use Rattle.command_words.specs.declared.settings.Bench.{Bench}
use Rattle.command_words.specs.declared.settings.Load.{Load}
use Rattle.command_words.specs.declared.settings.Load.TheVariants as load
use Rattle.command_words.specs.declared.settings.Nodes.{Nodes}
use Rattle.command_words.specs.declared.settings.Once.{Once}
use Rattle.command_words.specs.declared.settings.Replay.{Replay}
use Rattle.command_words.specs.declared.settings.Run.{Run}
use Rattle.nodes_command.specs.Outs as nodes
use Rattle.run_commands.specs.Outs.{out_of}
use Rattle.run_commands.specs.Resumes.{out_over}
use Rattle.script_course.specs.Courses.{Out}
use Rattle.store_commands.specs.Replays as replay
use Rattle.store_openings.specs.Openings.{opened}
use Rattle.aria_top.specs.Out.{LinesAreOne, bench_by, out_by, out_of_task}
use Rattle.aria_top.specs.Tasks.{alone, task_in}
use Rattle.command_words.specs.declared.settings.Command.{Command}
use Rattle.command_words.specs.declared.settings.Command.TheVariants as command

-- ---- each kind of settings

once_alone : (settings : Once) (left : Option (List ℕ))
    → option_map (out_of settings) left ≡ option_map (out_of (record settings { workers = 1; replicas = 1; batons = false })) left
once_alone settings None = refl
once_alone settings (Some text) = refl

run_alone : (settings : Run) (found : Reopened) (left : Option (List ℕ))
    → out_over settings found left ≡ out_over (record settings { workers = 1; replicas = 1; batons = false }) found left
run_alone settings NoStore left = refl
run_alone settings (Damaged file at) left = refl
run_alone settings (Found c later) None = refl
run_alone settings (Found c later) (Some text) = refl

replay_alone : (settings : Replay) (images : ℕ → List ℕ) (found : Reopened)
    → replay.out_of settings images found ≡ replay.out_of (record settings { workers = 1; replicas = 1; batons = false }) images found
replay_alone settings images NoStore = refl
replay_alone settings images (Damaged file at) = refl
replay_alone settings images (Found c later) = refl

bench_alone : (kind : Load) (settings : Bench) → bench_by kind settings ≡ bench_by kind (record settings { workers = 1; replicas = 1; batons = false })
bench_alone load.Ycsb settings = refl
bench_alone load.Tpcc settings = refl

nodes_alone : (settings : Nodes) (left : Option (List ℕ)) → option_map (nodes.out_of settings) left ≡ option_map
    (nodes.out_of (record settings { nodes = 1 })) left
nodes_alone settings None = refl
nodes_alone settings (Some text) = refl

-- ---- each task

task_alone : (t : Command) (left : Option (List ℕ)) (images : ℕ → List ℕ) (found : Reopened)
    → out_of_task t left images found ≡ out_of_task (alone t) left images found
task_alone (command.Once settings) left images found = once_alone settings left
task_alone (command.Init settings) left images found = refl
task_alone (command.Run settings) left images found = run_alone settings (opened images found) left
task_alone (command.Replay settings) left images found = ap (λ (o : Out). Some o) (replay_alone settings images found)
task_alone (command.Gen settings) left images found = refl
task_alone (command.Bench settings) left images found = ap (λ (o : Out). Some o) (bench_alone settings.workload.kind settings)
task_alone (command.Mix settings) left images found = refl
task_alone (command.Nodes settings) left images found = nodes_alone settings left
task_alone command.Audit left images found = refl
task_alone command.Check left images found = refl

asked_alone : (o : Option Command) (left : Option (List ℕ)) (images : ℕ → List ℕ) (found : Reopened)
    → out_by o left images found ≡ out_by (option_map alone o) left images found
asked_alone None left images found = refl
asked_alone (Some t) left images found = task_alone t left images found

pub lines_are_one : LinesAreOne
lines_are_one first second left images found same =
    asked_alone (task_in first) left images found
    ∙ ap (λ (o : Option Command). out_by o left images found) same
    ∙ sym (asked_alone (task_in second) left images found)
