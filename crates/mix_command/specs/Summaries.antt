-- What is printed of it.
use Rattle.std.specs.Prelude.{ℕ, List, ◌++◌, codes, length}
use Rattle.audit_command.specs.Findings.{finding_text}
use Rattle.bench_command.specs.declared.summaries.Counts.{Counts}
use Rattle.bench_command.specs.Summaries.{counts_text}
use Rattle.command_words.specs.declared.settings.Mix.{Mix}
use Rattle.range_resv.specs.Engines.{Between}
use Rattle.tpcc_audit.specs.declared.findings.Audit.TheVariants.{Holds}
use Rattle.mix_command.specs.Courses.{Stage, last_stage}

abbrev pub name_text : List ℕ
name_text = codes "mix tpcc\n"

abbrev pub counts_of : Between → Counts
counts_of mix = record { batches = mix.batches; requests = mix.requests; left = length mix.carried }

-- The audit holds always. That its line is true is a law: each stage has sound rows.
abbrev pub stage_text : Stage → List ℕ
stage_text stage = name_text ++ counts_text (counts_of stage.mix) stage.tally stage.mix.rows ++ finding_text Holds

abbrev pub summary_of : Mix → List ℕ
summary_of m = stage_text (last_stage m)
