-- The verdicts that workers decide, one at each place, as those of the whole list.
use Rattle.std.proofs.Common.{◌≡◌, sym, ◌∙◌, ℕ, ◌+◌, ◌<◌, List, length, false, arith, ext_get_or}
use Rattle.std.proofs.lemmas.List.FromFn.{get_or-map-range_with_len, length-map-range_with_len}
use Rattle.std.specs.declared.result.Result.{Result}
use Rattle.std.specs.declared.result.Result.TheVariants.{Ok, Err}
use Rattle.std.specs.Result.{IfOk}
use Rattle.aria_base.specs.declared.memory.Memory.{Memory}
use Rattle.batch_rules.specs.declared.verdicts.Rule.{Rule}
use Rattle.batch_rules.specs.declared.verdicts.Verdict.{Verdict}
use Rattle.batch_rules.specs.declared.verdicts.Verdict.TheVariants.{Finish}
use Rattle.dep_rules.specs.Sheets.{Sheet}
use Rattle.work_crew.specs.Gathered.{AreGiven}
use Rattle.batch_engine.specs.Answers.{verdict_of, verdicts_on}

-- what a place comes to
abbrev at_place : Rule → Sheet → ℕ → Verdict → Type 0
at_place rule sheet place verdict = verdict ≡ verdict_of rule sheet (place + 1)

given : (rule : Rule) (sheet : Sheet) (verdicts : List Verdict) → AreGiven (at_place rule sheet) (length sheet.reads) verdicts
    → verdicts ≡ verdicts_on rule sheet
given rule sheet verdicts are =
    let n = length sheet.reads in
    let none : Verdict = Finish false in
    ext_get_or none verdicts (verdicts_on rule sheet) (are.each_place ∙ sym (length-map-range_with_len (verdict_of rule sheet) 1 n)) (λ i lt.
    let within : i < n = rw (← are.each_place) lt in
    are.given i none within ∙ sym (get_or-map-range_with_len (verdict_of rule sheet) 1 n i (i + 1) none within (omega arith)))

pub verdicts-given : {V : Type 0} (rule : Rule) (sheet : Sheet) (items : V → List Verdict) (result : Result V Memory)
    → IfOk result (λ all. AreGiven (at_place rule sheet) (length sheet.reads) (items all)) → IfOk result (λ all. items all ≡ verdicts_on rule sheet)
verdicts-given rule sheet items (Ok all) are = given rule sheet (items all) are
verdicts-given rule sheet items (Err _) are = tt
