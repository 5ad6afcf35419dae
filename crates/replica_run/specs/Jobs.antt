-- Engines with the calls of a batch, and what each comes to.
use Rattle.std.specs.Prelude.{◌≡◌, List}
use Rattle.std.specs.List.{AllZip}
use Rattle.aria_base.specs.declared.calls.Call.{Call}
use Rattle.dep_rules.specs.declared.configs.Config.{Config}
use Rattle.batch_engine.specs.Engines.{Between}
use Rattle.replica_run.specs.Replicas.{MayRun, IsAfter, IsSerialFor, IsProgressFor, answer_of}
use Rattle.replica_run.specs.declared.jobs.Job.{Job}
use Rattle.replica_run.specs.declared.jobs.Ran.{Ran}

-- an engine and its calls
abbrev pub job_of : List Call → Between → Job
job_of calls engine = record { engine = engine; calls = calls }

-- the engine may run its calls
abbrev pub IsDoable : Config → Job → Type 0
IsDoable config job = MayRun config job.calls job.engine

-- the engine has run its calls, with the answer of that batch
pub record HasRun (config : Config) (job : Job) (ran : Ran) : Type 0 where
  pub after : IsAfter config job.calls job.engine ran.engine
  pub answer : ran.answer ≡ answer_of config job.calls job.engine
  pub serial : IsSerialFor config job.calls ran.answer job.engine
  pub progress : IsProgressFor config job.calls ran.answer job.engine

-- each engine has run these calls
abbrev pub HaveRun : Config → List Call → List Between → List Ran → Type 0
HaveRun config calls = AllZip (λ engine ran. HasRun config (job_of calls engine) ran)
