-- A line by what it asks for.
use Rattle.std.proofs.Common.{◌≡◌, ◌∙◌, sym, ap, subst, ℕ, List}
use Rattle.std.specs.Prelude.{Ok, Err}
use Rattle.answer_text.specs.Refusals.{refusal_text}
use Rattle.script_course.specs.Courses.{Course, Goes, Stops}
use Rattle.script_places.proofs.Allowed.{follows}
use Rattle.script_places.specs.Follows.{Follows}
use Rattle.script_places.specs.Places.{Asked, asked}
use Rattle.script_places.specs.declared.deeds.Deed.{Deed}
use Rattle.script_places.specs.declared.places.Counts.{Counts}
use Rattle.script_places.specs.declared.places.ScriptPlace.{ScriptPlace}
use Rattle.script_text.specs.Lines.{line_after}
use Rattle.script_text.specs.declared.refusals.RefusalKind.{RefusalKind}
use Rattle.script_text.specs.declared.refusals.Refusal.{Refusal}
use Rattle.run_commands.specs.Bases.{counts_of, state_in}
use Rattle.run_commands.specs.Onces.{Doing, done, done_by, on_line}
use Rattle.run_commands.specs.Standing.{MayDo, Stands, doing_of}
use Rattle.run_commands.specs.declared.works.Work.{Work}
use Rattle.run_commands.proofs.Standing.{may_do}

abbrev stops_as : RefusalKind → ℕ → Course Doing
stops_as kind n = Stops (refusal_text (record { line = n; kind = kind }))

module _ (place : ScriptPlace) (work : Work) (counts : Counts) (line : List ℕ) (same : counts ≡ counts_of (state_in work.base)) where
  pub line_is : (a : Asked) → asked place counts line ≡ a → on_line (doing_of place work) line ≡ done_by (doing_of place work) a
  line_is a is = ap (λ (k : Counts). done_by (doing_of place work) (asked place k line)) (sym same) ∙ ap (λ (x : Asked). done_by (doing_of place work) x) is

  pub moved_by : (after : ScriptPlace) (asks : Deed) (bytes : List ℕ) (next : Doing) → asked place counts line ≡ Ok (after, asks)
      → done (doing_of after work) asks ≡ Goes bytes next
      → on_line (doing_of place work) line ≡ Goes bytes next
  moved_by after asks bytes next is did = line_is (Ok (after, asks)) is ∙ did

  pub refused_by : (refusal : Refusal) → asked place counts line ≡ Err refusal.kind → refusal.line ≡ line_after place.lines
      → on_line (doing_of place work) line ≡ Stops (refusal_text refusal)
  refused_by refusal is at =
      line_is (Err refusal.kind) is ∙ ap (stops_as refusal.kind) (sym at)

  pub may_follow : (after : ScriptPlace) (asks : Deed) → Stands place work → asked place counts line ≡ Ok (after, asks) → MayDo after work asks
  may_follow after asks stands is =
      may_do place after work asks stands (subst (λ (k : Counts). Follows place k after asks) same (follows place counts line after asks is))
