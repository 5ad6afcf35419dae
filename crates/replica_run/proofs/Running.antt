-- Jobs made of engines and calls, and what they come to.
use Rattle.std.proofs.Common.{◌≡◌, subst, ℕ, ◌<◌, List, map, length, get_or}
use Rattle.std.specs.List.{All, AllZip}
use Rattle.std.specs.Result.{IfOk}
use Rattle.std.specs.declared.result.Result.{Result}
use Rattle.std.specs.declared.result.Result.TheVariants.{Ok}
use Rattle.std.proofs.lemmas.List.Elements.{All-same, All-map}
use Rattle.aria_base.specs.declared.calls.Call.{Call}
use Rattle.aria_base.specs.declared.memory.Memory.{Memory}
use Rattle.batch_engine.specs.Engines.{Between}
use Rattle.dep_rules.specs.declared.configs.Config.{Config}
use Rattle.replica_run.specs.Jobs.{IsDoable, HasRun, HaveRun, job_of}
use Rattle.replica_run.specs.Replicas.{MayRun}
use Rattle.replica_run.specs.declared.jobs.Job.{Job}
use Rattle.replica_run.specs.declared.jobs.Ran.{Ran}
use Rattle.replica_run.proofs.Pairs.{zip_results, zip_unmap}

pub all_doable : (config : Config) (calls : List Call) (engines : List Between) (jobs : List Job) → jobs ≡ map (job_of calls) engines
    → All (MayRun config calls) engines
    → All (IsDoable config) jobs
all_doable config calls engines jobs e may = All-same (IsDoable config) jobs (map (job_of calls) engines) e
    (All-map (IsDoable config) (job_of calls) engines may)

pub have_run : (config : Config) (calls : List Call) (engines : List Between) (jobs : List Job) (results : List (Result Ran Memory)) (rans : List Ran)
    → jobs ≡ map (job_of calls) engines → map Ok rans ≡ results → length results ≡ length jobs
    → ((i : ℕ) (d : Job) (e : Result Ran Memory) → i < length jobs → IfOk (get_or results i e) (HasRun config (get_or jobs i d)))
    → HaveRun config calls engines rans
have_run config calls engines jobs results rans made are len each =
    zip_unmap (HasRun config) (job_of calls) engines rans
    (subst (λ (l : List Job). AllZip (HasRun config) l rans) made (zip_results (HasRun config) jobs rans results are len each))
