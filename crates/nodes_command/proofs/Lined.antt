-- A line of a script on nodes, by what it asks for.
use Rattle.std.proofs.Common.{◌≡◌, ◌∙◌, sym, ap, ℕ, List}
use Rattle.std.specs.Prelude.{Ok, Err}
use Rattle.answer_text.specs.Refusals.{refusal_text}
use Rattle.script_course.specs.Courses.{Course, Stops}
use Rattle.script_places.specs.Places.{Asked}
use Rattle.script_places.specs.declared.deeds.Deed.{Deed}
use Rattle.script_places.specs.declared.places.Counts.{Counts}
use Rattle.script_places.specs.declared.places.ScriptPlace.{ScriptPlace}
use Rattle.script_rows.specs.Moves.{Moves}
use Rattle.script_text.specs.Answers.{Answers}
use Rattle.script_text.specs.Lines.{line_after}
use Rattle.script_text.specs.declared.refusals.LinesRefused.{LinesRefused}
use Rattle.script_text.specs.declared.refusals.LinesRefused.TheVariants as lines
use Rattle.script_text.specs.declared.refusals.RefusalKind.{RefusalKind}
use Rattle.run_commands.specs.Bases.{counts_of}
use Rattle.nodes_command.specs.Asks.{asked_among}
use Rattle.nodes_command.specs.Bases.{state_of}
use Rattle.nodes_command.specs.Scripts.{Among, done, done_by, on_line}
use Rattle.nodes_command.specs.Standing.{MayDo, Stands, among_of}
use Rattle.nodes_command.specs.declared.works.Work.{Work}
use Rattle.nodes_command.proofs.Standing.{may_do}

abbrev stops_as : RefusalKind → ℕ → Course Among
stops_as kind n = Stops (refusal_text (record { line = n; kind = kind }))

module _ (place : ScriptPlace) (work : Work) (counts : Counts) (line : List ℕ) (same : counts ≡ counts_of (state_of work.base)) where
  line_is : (a : Asked) → asked_among work.called place counts line ≡ a → on_line (among_of place work) line ≡ done_by (among_of place work) a
  line_is a is = ap (λ (k : Counts). done_by (among_of place work) (asked_among work.called place k line)) (sym same)
      ∙ ap (λ (x : Asked). done_by (among_of place work) x) is

  pub moved_by : (after : ScriptPlace) (asks : Deed) → asked_among work.called place counts line ≡ Ok (after, asks)
      → on_line (among_of place work) line ≡ done (among_of after work) asks
  moved_by after asks is = line_is (Ok (after, asks)) is

  pub refused_by : (why : LinesRefused) → Answers (asked_among work.called place counts line) (line_after place.lines) (Err why)
      → Moves (on_line (among_of place work) line) (Err why)
  refused_by lines.Memory a = tt
  refused_by (lines.Line refusal) a = line_is (Err refusal.kind) a.1 ∙ ap (stops_as refusal.kind) (sym a.0)

  pub may_follow : (after : ScriptPlace) (asks : Deed) → Stands place work → asked_among work.called place counts line ≡ Ok (after, asks)
      → MayDo after work asks
  may_follow after asks stands is =
      may_do place after work line asks stands (ap (λ (k : Counts). asked_among work.called place k line) (sym same) ∙ is)
