use Rattle.std.proofs.Common.{rules, ◌≡◌, sym, ap, subst, ℕ, Ok, Err}
use Rattle.std.specs.Prelude.{Result}
use Rattle.cat_text.specs.Texts.{catalog_of}
use Rattle.proc_lang.specs.Catalogs.{Plan}
use Rattle.script_text.specs.Answers.{Answers}
use Rattle.script_text.specs.Fits.{and_then}
use Rattle.script_text.specs.declared.refusals.RefusalKind.{RefusalKind}
use Rattle.script_places.specs.declared.heads.ScriptCatalog.TheVariants as head
use Rattle.script_places.specs.declared.places.ScriptPlace.{ScriptPlace}
use Rattle.script_places.specs.Places.{at_item, read_text}
use Rattle.script_places.proofs.places.ScriptPlace.behind_text.Goals as goal

abbrev lines_in : Result ScriptPlace RefusalKind → ℕ
lines_in (Ok place) = place.lines
lines_in (Err why) = 0

-- reading the text leaves the line's number as it is
same_line : (p q : ScriptPlace) (plan : Result Plan RefusalKind) → and_then (λ plan. Ok (record p { head = head.Ready plan })) plan ≡ Ok q → q.lines ≡ p.lines
same_line p q (Ok plan) e = sym (ap lines_in e)
same_line p q (Err why) e = cc

pub returns : goal.returns
returns c =
    let p = c.args.self in
    let q = c.in_ok-read_text.field-0 in
    let read : read_text p c.args.text ≡ Ok q = search rules in
    let line = same_line p q (catalog_of c.args.text) read in
    subst (λ (r : Result ScriptPlace RefusalKind). Answers (and_then (λ ready. at_item ready c.args.counts c.args.item) r) p.lines c.at_item.result) (sym read)
    (subst (λ (n : ℕ). Answers (at_item q c.args.counts c.args.item) n c.at_item.result) line c.at_item.ensures)
