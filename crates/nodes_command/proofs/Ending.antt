-- The end of a script on nodes.
use Rattle.std.proofs.Common.{◌≡◌, ◌∙◌, sym, ap, refl, ℕ, Bool, List, Option}
use Rattle.std.specs.Prelude.{Result, Ok, Err}
use Rattle.answer_text.specs.Refusals.{refusal_text}
use Rattle.proc_lang.specs.Catalogs.{Plan}
use Rattle.run_commands.specs.Onces.{closed_by, drained}
use Rattle.script_course.specs.Courses.{Stops, status_of}
use Rattle.script_course.specs.Served.{Finishes, Serves}
use Rattle.script_course.specs.declared.stops.Stop.{Stop}
use Rattle.script_course.specs.declared.stops.Stop.TheVariants as stop
use Rattle.script_places.specs.Places.{closing, plan_in}
use Rattle.script_places.specs.declared.places.ScriptPlace.{ScriptPlace}
use Rattle.script_text.specs.Lines.{line_after}
use Rattle.script_text.specs.declared.refusals.Refusal.{Refusal}
use Rattle.script_text.specs.declared.refusals.RefusalKind.{RefusalKind}
use Rattle.nodes_command.specs.Bases.{state_of}
use Rattle.nodes_command.specs.Scripts.{on_end}
use Rattle.nodes_command.specs.Standing.{among_of, doing_of}
use Rattle.nodes_command.specs.declared.works.Work.{Work}

module _ (place : ScriptPlace) (work : Work) (drains : Bool) where
  pub closed_is : (q : ScriptPlace) (plan : Plan) (line : ℕ) → closing place ≡ Ok q → plan ≡ plan_in q.head → line ≡ line_after place.lines
      → drained drains plan work.each line (state_of work.base) ≡ on_end drains (among_of place work)
  closed_is q plan line e p l =
      (λ i. drained drains (p i) work.each (l i) (state_of work.base))
      ∙ sym (ap (λ (r : Result ScriptPlace RefusalKind). closed_by drains (doing_of place work) r) e)

  pub refused_is : (refusal : Refusal) → closing place ≡ Err refusal.kind → refusal.line ≡ line_after place.lines
      → record { bytes = refusal_text refusal; status = status_of stop.Refused } ≡ on_end drains (among_of place work)
  refused_is refusal e l =
      (λ i. record { bytes = refusal_text (record { line = l i; kind = refusal.kind }); status = status_of stop.Refused })
      ∙ sym (ap (λ (r : Result ScriptPlace RefusalKind). closed_by drains (doing_of place work) r) e)

-- the line of a refusal ends a command
pub refused_finishes : (bytes : List ℕ) (old new : Option (List ℕ)) (result : Result ℕ Stop) → Serves {R = ℕ} (Stops bytes) old new result
    → Finishes (record { bytes = bytes; status = status_of stop.Refused }) old new result
refused_finishes bytes old new (Ok status) h = absurd h
refused_finishes bytes old new (Err stop.Refused) h = (refl, h)
refused_finishes bytes old new (Err stop.NoMemory) h = h
refused_finishes bytes old new (Err stop.NoWrite) h = h
refused_finishes bytes old new (Err stop.NoDisk) h = h
refused_finishes bytes old new (Err stop.NoRead) h = absurd h
