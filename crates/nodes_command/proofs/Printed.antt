-- Nodes print what one database prints.
use Rattle.std.proofs.Common.{◌≡◌, ◌∙◌, sym, ap, refl, ℕ, Bool, List, [], ◌∷◌, Option, Some, None}
use Rattle.command_words.specs.declared.settings.Nodes.{Nodes}
use Rattle.run_commands.specs.Bases.{counts_of}
use Rattle.run_commands.specs.Onces as onces
use Rattle.run_commands.specs.Onces.{Doing}
use Rattle.run_commands.specs.Outs.{is_each, no_line, start_by}
use Rattle.script_course.specs.Courses.{Course, Goes, Stops, behind, ended, told, told_whole, with_fault, with_last, with_lines, whole}
use Rattle.script_places.specs.Places.{Asked, asked}
use Rattle.script_text.specs.Lines.{last_line, scan}
use Rattle.script_text.specs.declared.refusals.Refusal.{Refusal}
use Rattle.std.specs.Prelude.{Ok, Err}
use Rattle.nodes_command.specs.Laws.{AreLinesAlike, AreOne, IsAlike, IsLastAlike, IsLineAlike, IsTextAlike, Onward, PrintsAsOne}
use Rattle.nodes_command.specs.Outs.{start_of, start_with, told_of}
use Rattle.nodes_command.specs.Scripts.{Among, called_behind, counted, done_by, on_end, on_line}

-- ---- however many they are

pub any_number : (first second : Nodes) (text : List ℕ) → IsAlike first second → AreOne first second text
any_number first second text alike = (
  (λ i. told on_line no_line (start_with (alike.rules i) (is_each (alike.listings i))) text),
  (λ i. whole on_line (on_end (alike.drains i)) no_line (start_with (alike.rules i) (is_each (alike.listings i))) text),
)

-- ---- one database: its course is that of the nodes without the number of calls

abbrev alone : Course Among → Course Doing
alone (Goes bytes a) = Goes bytes a.doing
alone (Stops bytes) = Stops bytes

alone_counted : (called : ℕ) (c : Course Doing) → alone (counted called c) ≡ c
alone_counted called (Goes bytes d) = refl
alone_counted called (Stops bytes) = refl

alone_behind : (bytes : List ℕ) (c : Course Among) → alone (behind bytes c) ≡ behind bytes (alone c)
alone_behind bytes (Goes more a) = refl
alone_behind bytes (Stops more) = refl

alone_done : (a : Among) (x : Asked) → alone (done_by a x) ≡ onces.done_by a.doing x
alone_done a (Ok asked) = alone_counted (called_behind a.called asked.1) (onces.done (record a.doing { place = asked.0 }) asked.1)
alone_done a (Err kind) = refl

alone_line : (a : Among) (line : List ℕ) → IsLineAlike a line → alone (on_line a line) ≡ onces.on_line a.doing line
alone_line a line same = ap (λ (x : Asked). alone (done_by a x)) same ∙ alone_done a (asked a.doing.place (counts_of a.doing.state) line)

alone_fault : (c : Course Among) (fault : Option Refusal) → alone (with_fault c fault) ≡ with_fault (alone c) fault
alone_fault c None = refl
alone_fault (Goes bytes a) (Some refusal) = refl
alone_fault (Stops bytes) (Some refusal) = refl

stopped : {R : Type 0} (on : R → List ℕ → Course R) (bytes : List ℕ) (lines : List (List ℕ)) → with_lines on (Stops bytes) lines ≡ Stops bytes
stopped on bytes [] = refl
stopped on bytes (line ∷ lines) = stopped on bytes lines

-- what holds of the script behind bytes that came before
onward_behind : (P : Among → Type 0) (bytes : List ℕ) (c : Course Among) → Onward P c → Onward P (behind bytes c)
onward_behind P bytes (Goes more a) h = h
onward_behind P bytes (Stops more) h = tt

alone_lines : (lines : List (List ℕ)) (c : Course Among) → Onward (AreLinesAlike lines) c
    → alone (with_lines on_line c lines) ≡ with_lines onces.on_line (alone c) lines
alone_lines [] c h = refl
alone_lines (line ∷ lines) (Stops bytes) h = ap alone (stopped on_line bytes lines) ∙ sym (stopped onces.on_line bytes lines)
alone_lines (line ∷ lines) (Goes bytes a) h =
    alone_lines lines (behind bytes (on_line a line)) (onward_behind (AreLinesAlike lines) bytes (on_line a line) h.1)
    ∙ ap (λ (c : Course Doing). with_lines onces.on_line c lines) (alone_behind bytes (on_line a line) ∙ ap (behind bytes) (alone_line a line h.0))

alone_last : (last : Option (List ℕ)) (c : Course Among) → Onward (IsLastAlike last) c
    → alone (with_last on_line c last) ≡ with_last onces.on_line (alone c) last
alone_last None c h = refl
alone_last (Some line) (Stops bytes) h = refl
alone_last (Some line) (Goes bytes a) h = alone_behind bytes (on_line a line) ∙ ap (behind bytes) (alone_line a line h)

alone_whole : (settings : Nodes) (text : List ℕ) → IsTextAlike settings text
    → alone (told_whole on_line no_line (start_of settings) text) ≡ told_whole onces.on_line no_line (start_of settings).doing text
alone_whole settings text h =
    let s = scan no_line text in
    let start = start_of settings in
    alone_last (last_line s.feed) (told_of settings text) h.last
    ∙ ap (λ (c : Course Doing). with_last onces.on_line c (last_line s.feed))
    (alone_fault (with_lines on_line (Goes [] start) s.lines) s.fault
    ∙ ap (λ (c : Course Doing). with_fault c s.fault) (alone_lines s.lines (Goes [] start) h.lines))

alone_ended : (drain : Bool) (c : Course Among) → ended (on_end drain) c ≡ ended (onces.on_end drain) (alone c)
alone_ended drain (Goes bytes a) = refl
alone_ended drain (Stops bytes) = refl

pub prints_as_one : (settings : Nodes) (text : List ℕ) → PrintsAsOne settings text
prints_as_one settings text one is h =
    alone_ended settings.drain (told_whole on_line no_line (start_of settings) text)
    ∙ ap (λ (c : Course Doing). ended (onces.on_end settings.drain) c) (alone_whole settings text h)
    ∙ (λ i. whole onces.on_line (onces.on_end (sym is.drains i)) no_line
    (start_by (sym is.rules i) (sym is.fallbacks i) (is_each (sym is.listings i))) text)
