-- The lines of a report, as `check` reads them behind a script, and its end.
use Rattle.std.proofs.Common.{◌≡◌, ◌∙◌, sym, ap, subst, refl, ℕ, Bool, true, cond, ◌==◌, List, [], ◌∷◌, ◌++◌, Ok, Err, append_assoc, append-nil}
use Rattle.check_command.specs.Checks as check
use Rattle.proc_lang.specs.Catalogs.{Plan}
use Rattle.script_course.specs.Courses.{Course, Goes, behind, with_lines}
use Rattle.script_places.specs.Places.{by_head, closing, next_line, plan_in}
use Rattle.script_places.specs.Places as places
use Rattle.script_places.specs.declared.deeds.Deed.TheVariants as deed
use Rattle.script_places.specs.declared.heads.ScriptCatalog.{ScriptCatalog}
use Rattle.script_places.specs.declared.heads.ScriptCatalog.TheVariants as head
use Rattle.script_places.specs.declared.places.ScriptPlace.{ScriptPlace}
use Rattle.script_text.specs.Forms.{said}
use Rattle.script_text.specs.declared.refusals.RefusalKind.TheVariants.{Unfinished}
use Rattle.serial_check.specs.Reports as serial
use Rattle.output_laws.proofs.Closings.{IsSettled}

-- ---- lines

-- so many lines further
abbrev pub passed : List (List ℕ) → ScriptPlace → ScriptPlace
passed [] p = p
passed (line ∷ lines) p = passed lines (next_line p)

passed_is : (lines : List (List ℕ)) (p : ScriptPlace) → passed lines p ≡ record p { lines = (passed lines p).lines }
passed_is [] p = refl
passed_is (line ∷ lines) p = passed_is lines (next_line p)

told_line : (c : check.Doing) (line : List ℕ) → c.place.reports ≡ true
    → check.on_line c line ≡ Goes [] (record c { place = next_line c.place; report = c.report ++ line ∷ [] })
told_line c line e =
    ap (λ (b : Bool). check.done_by c line (cond b (Ok (next_line c.place, deed.Tell))
    (by_head (next_line c.place) (check.counts_of c) c.place.head (said line)))) e

pub told_lines : (lines : List (List ℕ)) (c : check.Doing) → c.place.reports ≡ true
    → with_lines check.on_line (Goes [] c) lines ≡ Goes [] (record c { place = passed lines c.place; report = c.report ++ lines })
told_lines [] c e = ap (λ (r : List (List ℕ)). Goes [] (record c { report = r })) (sym (append-nil c.report))
told_lines (line ∷ lines) c e =
    ap (λ (k : Course check.Doing). with_lines check.on_line (behind [] k) lines) (told_line c line e)
    ∙ told_lines lines (record c { place = next_line c.place; report = c.report ++ line ∷ [] }) e
    ∙ ap (λ (r : List (List ℕ)). Goes [] (record c { place = passed lines (next_line c.place); report = r })) (append_assoc c.report (line ∷ []) lines)

-- ---- the end

close_check : (p : ScriptPlace) → IsSettled p.head → (p.open_calls == 0) ≡ true → closing p ≡ Ok (next_line p)
close_check p settled none = by p.head settled
  where
    shuts : places.shut (next_line p) ≡ Ok (next_line p)
    shuts = ap (λ (b : Bool). cond b (Ok (next_line p)) (Err Unfinished)) none

    by : (h : ScriptCatalog) → IsSettled h → places.closed_by (next_line p) h ≡ Ok (next_line p)
    by head.Unnamed is = shuts
    by (head.Ready plan) is = shuts
    by (head.Text text) is = absurd is

-- the end tells what is found of the report
pub told_end : (c : check.Doing) (lines : List (List ℕ)) → IsSettled c.place.head → (c.place.open_calls == 0) ≡ true
    → check.on_end (record c { place = passed lines c.place; report = c.report ++ lines })
    ≡ check.out_of_finding c.ends (serial.finding (plan_in c.place.head) (c.report ++ lines) c.rows c.script)
told_end c lines settled none =
    let p = passed lines c.place in
    let last : check.Doing = record c { place = p; report = c.report ++ lines } in
    let settled_there = subst (λ (q : ScriptPlace). IsSettled q.head) (sym (passed_is lines c.place)) settled in
    let none_there = subst (λ (q : ScriptPlace). (q.open_calls == 0) ≡ true) (sym (passed_is lines c.place)) none in
    let plan : plan_in p.head ≡ plan_in c.place.head = ap (λ (q : ScriptPlace). plan_in q.head) (passed_is lines c.place) in
    ap (check.closed_by last) (close_check p settled_there none_there)
    ∙ ap (λ (x : Plan). check.out_of_finding c.ends (serial.finding x (c.report ++ lines) c.rows c.script)) plan
