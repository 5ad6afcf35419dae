-- What the program prints, and how it ends.
use Rattle.std.specs.Prelude.{◌≡◌, ⊤, ℕ, List, ◌++◌, Option, Some, None, option_map}
use Rattle.answer_text.specs.Notices.{refused_text}
use Rattle.answer_text.specs.declared.notices.NotDone.TheVariants.{Usage}
use Rattle.audit_command.specs.Audits as audit
use Rattle.audit_command.specs.Findings.{finding_text, status_of}
use Rattle.bench_command.specs.Benches.{ran_of}
use Rattle.bench_command.specs.Summaries.{summary_of}
use Rattle.check_command.specs.Outs as check
use Rattle.command_words.specs.declared.settings.Bench.{Bench}
use Rattle.command_words.specs.declared.settings.Load.{Load}
use Rattle.command_words.specs.declared.settings.Mix.{Mix}
use Rattle.command_words.specs.declared.settings.Load.TheVariants as load
use Rattle.gen_command.specs.Scripts.{script_of}
use Rattle.mix_command.specs.Courses.{last_stage}
use Rattle.mix_command.specs.Summaries as mixes
use Rattle.nodes_command.specs.Outs as nodes
use Rattle.aria_store.specs.Reopens.{Reopened}
use Rattle.run_commands.specs.Outs.{out_of, told_of}
use Rattle.run_commands.specs.Resumes.{IsToldOver, out_over}
use Rattle.store_commands.specs.Drafts.{told_of as init_told}
use Rattle.store_commands.specs.Inits as init
use Rattle.store_commands.specs.Replays as replay
use Rattle.store_openings.specs.Openings.{opened}
use Rattle.aria_top.specs.Disks.{is_taken}
use Rattle.script_course.specs.Courses.{Out}
use Rattle.script_course.specs.Served.{IsToldOf}
use Rattle.script_course.specs.declared.statuses.TheConstants.{DONE, USAGE}
use Rattle.tpcc_audit.specs.Conditions.{audited}
use Rattle.tpcc_audit.specs.declared.findings.Audit.{Audit}
use Rattle.tpcc_routines.specs.Sound.{IsSound}
use Rattle.aria_top.specs.Tasks.{alone, task_in}
use Rattle.command_words.specs.declared.settings.Command.{Command}
use Rattle.command_words.specs.declared.settings.Command.TheVariants as command

abbrev pub refused_usage : Out
refused_usage = record { bytes = refused_text Usage; status = USAGE }

-- a text with the finding of an audit behind it, which decides the status
abbrev pub with_finding : List ℕ → Audit → Out
with_finding text found = record { bytes = text ++ finding_text found; status = status_of found }

-- the summary of a workload; behind that of order entry its audit
abbrev pub bench_by : Load → Bench → Out
bench_by load.Ycsb settings = record { bytes = summary_of settings; status = DONE }
bench_by load.Tpcc settings = with_finding (summary_of settings) (audited (ran_of settings).state.rows)

abbrev pub bench_out : Bench → Out
bench_out settings = bench_by settings.workload.kind settings

-- the summary of the mix, whose last line says that the audit holds; where it is printed, so it does
abbrev pub mix_out : Mix → Out
mix_out settings = record { bytes = mixes.summary_of settings; status = DONE }

abbrev pub IsTrueOf : Command → Type 0
IsTrueOf (command.Mix settings) = IsSound (last_stage settings).mix.rows
IsTrueOf other = ⊤

-- What a task prints on an input, where the source tells its bytes; what reads nothing prints without it. A command on a store has
-- its output by the bytes of the four files and by what they reopen as.
abbrev pub out_of_task : Command → Option (List ℕ) → (ℕ → List ℕ) → Reopened → Option Out
out_of_task (command.Once settings) left images found = option_map (out_of settings) left
out_of_task (command.Init settings) left images found = option_map (init.out_of settings (is_taken images)) left
out_of_task (command.Run settings) left images found = out_over settings (opened images found) left
out_of_task (command.Replay settings) left images found = Some (replay.out_of settings images found)
out_of_task (command.Gen settings) left images found = Some (record { bytes = script_of settings; status = DONE })
out_of_task (command.Bench settings) left images found = Some (bench_out settings)
out_of_task (command.Mix settings) left images found = Some (mix_out settings)
out_of_task (command.Nodes settings) left images found = option_map (nodes.out_of settings) left
out_of_task command.Audit left images found = option_map audit.out_of left
out_of_task command.Check left images found = option_map check.out_of left

abbrev pub out_by : Option Command → Option (List ℕ) → (ℕ → List ℕ) → Reopened → Option Out
out_by None left images found = Some refused_usage
out_by (Some asked) left images found = out_of_task asked left images found

abbrev pub out_for : List (List ℕ) → Option (List ℕ) → (ℕ → List ℕ) → Reopened → Option Out
out_for words left images found = out_by (task_in words) left images found

-- what was written is all that the bytes that were taken tell, and no line of them was refused
abbrev pub IsToldFor : Option Command → (ℕ → List ℕ) → Reopened → Option (List ℕ) → Option (List ℕ)
    → Option (List ℕ) → Option (List ℕ) → Type 0
IsToldFor (Some (command.Once settings)) images found left rest old new = IsToldOf (told_of settings) left rest old new
IsToldFor (Some (command.Init settings)) images found left rest old new = IsToldOf init_told left rest old new
IsToldFor (Some (command.Run settings)) images found left rest old new = IsToldOver settings (opened images found) left rest old new
IsToldFor (Some (command.Nodes settings)) images found left rest old new = IsToldOf (nodes.told_of settings) left rest old new
IsToldFor (Some command.Audit) images found left rest old new = IsToldOf audit.told_of left rest old new
IsToldFor (Some command.Check) images found left rest old new = IsToldOf check.told_of left rest old new
IsToldFor other images found left rest old new = ⊥

-- command lines that ask for the same but for workers, replicas, nodes and batons print the same
abbrev pub LinesAreOne : Type 0
LinesAreOne =
    (first second : List (List ℕ)) (left : Option (List ℕ)) (images : ℕ → List ℕ) (found : Reopened)
    → option_map alone (task_in first) ≡ option_map alone (task_in second)
    → out_for first left images found ≡ out_for second left images found
