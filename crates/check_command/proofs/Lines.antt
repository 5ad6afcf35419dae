-- Each line leaves a script with its report that stands, and so does each input.
use Rattle.std.proofs.Common.{◌≡◌, sym, subst, refl, ℕ, List, [], ◌∷◌, length, Option, Some, None}
use Rattle.std.specs.Prelude.{Ok, Err}
use Rattle.aria_base.specs.Orders.{Database}
use Rattle.aria_base.specs.declared.calls.Call.{Call}
use Rattle.proc_lang.specs.Catalogs.{Plan}
use Rattle.script_course.specs.Courses.{Course, Goes, Stops, behind, told_whole, with_fault, with_last, with_line, with_lines}
use Rattle.script_places.proofs.Allowed.{follows}
use Rattle.script_places.specs.Places.{Asked, asked}
use Rattle.script_places.specs.declared.deeds.Deed.{Deed}
use Rattle.script_places.specs.declared.deeds.Deed.TheVariants as deed
use Rattle.script_text.specs.Lines.{last_line, scan}
use Rattle.script_text.specs.declared.refusals.Refusal.{Refusal}
use Rattle.serial_check.specs.Crowds.{IsOneOf, run_behind}
use Rattle.serial_check.specs.Reports.{finding}
use Rattle.serial_check.specs.declared.findings.Finding.{Finding}
use Rattle.check_command.specs.Checks.{Doing, counts_of, done, done_by, on_line, start}
use Rattle.check_command.specs.Laws.{EachIsEnded, FindsEnded}
use Rattle.check_command.specs.Outs.{no_line}
use Rattle.check_command.specs.Standing.{MayDo, Stands}
use Rattle.check_command.proofs.Standing.{call_stands, keep_stands, may_do, run_stands}

-- the course goes on with what stands
abbrev Keeps : Course Doing → Type 0
Keeps (Goes bytes d) = Stands d
Keeps (Stops bytes) = Unit {0}

-- what holds of whatever is found
abbrev pub IsRunLaw : Type 0
IsRunLaw = (plan : Plan) (report : List (List ℕ)) (rows : Database) (script : List (ℕ × List Call))
    → IsOneOf (run_behind 0 script) (finding plan report rows script)

pub one_of : (most lines : ℕ) (f g : Finding) → most ≡ lines → f ≡ g → IsOneOf most g → IsOneOf lines f
one_of most lines f g ends is h = subst (λ (n : ℕ). IsOneOf n f) ends (subst (λ (x : Finding). IsOneOf most x) (sym is) h)

-- ---- a line

done_keeps : (d : Doing) (line : List ℕ) (asks : Deed) → MayDo d asks → Keeps (done d line asks)
done_keeps d line deed.Nothing may = may
done_keeps d line (deed.Put key row) may = record { ends = may.ends; counted = may.counted }
done_keeps d line (deed.Call call) may = call_stands d call may
done_keeps d line (deed.Set rule percent) may = may
done_keeps d line (deed.Keep number) may = keep_stands d number may
done_keeps d line deed.Run may = run_stands d may
done_keeps d line deed.Tell may = record { ends = may.ends; counted = may.counted }

line_by : (d : Doing) (line : List ℕ) (a : Asked) → asked d.place (counts_of d) line ≡ a → Stands d → Keeps (done_by d line a)
line_by d line (Ok (after, asks)) e s = done_keeps (record d { place = after }) line asks
    (may_do d line after asks s e (follows d.place (counts_of d) line after asks e))
line_by d line (Err kind) e s = tt

line_keeps : (d : Doing) (line : List ℕ) → Stands d → Keeps (on_line d line)
line_keeps d line s = line_by d line (asked d.place (counts_of d) line) refl s

-- ---- an input

behind_keeps : (bytes : List ℕ) (c : Course Doing) → Keeps c → Keeps (behind bytes c)
behind_keeps bytes (Goes more d) h = h
behind_keeps bytes (Stops more) h = tt

next_keeps : (c : Course Doing) (line : List ℕ) → Keeps c → Keeps (with_line on_line c line)
next_keeps (Goes bytes d) line h = behind_keeps bytes (on_line d line) (line_keeps d line h)
next_keeps (Stops bytes) line h = tt

lines_keep : (c : Course Doing) (lines : List (List ℕ)) → Keeps c → Keeps (with_lines on_line c lines)
lines_keep c [] h = h
lines_keep c (line ∷ lines) h = lines_keep (with_line on_line c line) lines (next_keeps c line h)

fault_keeps : (c : Course Doing) (fault : Option Refusal) → Keeps c → Keeps (with_fault c fault)
fault_keeps c None h = h
fault_keeps (Goes bytes d) (Some refusal) h = tt
fault_keeps (Stops bytes) (Some refusal) h = tt

last_keeps : (c : Course Doing) (last : Option (List ℕ)) → Keeps c → Keeps (with_last on_line c last)
last_keeps c None h = h
last_keeps c (Some line) h = next_keeps c line h

first_stands : Stands start
first_stands = record { ends = refl; counted = refl }

input_keeps : (text : List ℕ) → Keeps (told_whole on_line no_line start text)
input_keeps text =
    let s = scan no_line text in
    last_keeps (with_fault (with_lines on_line (Goes [] start) s.lines) s.fault) (last_line s.feed)
    (fault_keeps (with_lines on_line (Goes [] start) s.lines) s.fault (lines_keep (Goes [] start) s.lines first_stands))

ended : IsRunLaw → (c : Course Doing) → Keeps c → FindsEnded c
ended law (Goes bytes d) h = λ plan. one_of (run_behind 0 d.script) (length d.ends) (finding plan d.report d.rows d.script)
    (finding plan d.report d.rows d.script) h.ends refl
    (law plan d.report d.rows d.script)
ended law (Stops bytes) h = tt

pub each_is_ended : IsRunLaw → (text : List ℕ) → EachIsEnded text
each_is_ended law text = ended law (told_whole on_line no_line start text) (input_keeps text)
