use Rattle.std.proofs.Common.{refl, subst, sym}
use Rattle.script_places.specs.declared.places.ScriptPlace.{ScriptPlace}
use Rattle.run_commands.specs.Standing.{Stands}
use Rattle.run_commands.specs.declared.bases.Base.TheVariants as base
use Rattle.run_commands.specs.declared.works.Work.{Work}
use Rattle.run_commands.proofs.Deeds.{resume_stands}
use Rattle.run_commands.proofs.scripts.Script.resume.Goals as goal

pub invariant_of-result : goal.invariant_of-result
invariant_of-result c =
    let work : Work = record { calls = c.new.result; base = base.Runs c.args.live; replicas = c.args.replicas; each = c.args.live.each } in
    subst (λ (place : ScriptPlace). Stands place work) (sym c.start_with-place.ensures)
    (resume_stands c.in_ok-catalog.catalog work c.args.live c.in_ok-catalog.ensures c.new.ensures.items refl refl c.requires.runnable c.requires.engines)
