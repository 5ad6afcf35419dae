-- What the reader of catalogues tells is what the text says.
use Rattle.std.proofs.Common.{◌≡◌, ℕ, ◌+◌, ◌≤◌, List, [], ◌∷◌, Option, Some, None, Bool, true, false, cond, refl, ap, sym, ◌∙◌, rules}
use Rattle.std.specs.Prelude.{All, Result}
use Rattle.std.specs.declared.result.Result.TheVariants.{Ok, Err}
use Rattle.std.specs.Str.{is_utf8}
use Rattle.std.proofs.lemmas.List.Elements.{All-head, All-tail}
use Rattle.std.proofs.lemmas.Str.{IsUtf8-from_is_utf8, is_utf8-from_IsUtf8}
use Rattle.aria_base.specs.declared.schemas.Table.{Table}
use Rattle.proc_lang.specs.declared.flaws.Wrong.{Wrong}
use Rattle.proc_lang.specs.declared.procs.Proc.{Proc}
use Rattle.proc_lang.specs.declared.procs.PathPart.{PathPart}
use Rattle.proc_lang.specs.Catalogs.{Plan, IsCatalog}
use Rattle.proc_lang.specs.Typing.{IsWellTyped}
use Rattle.serde_json.specs.Data.{Data}
use Rattle.cat_forms.specs.PlanWalks.{plan_of}
use Rattle.cat_forms.specs.Texts.{Says, Tells}
use Rattle.cat_read.specs.Texts.{wrong_from, Refuses}
use Rattle.cat_read.specs.declared.refusals.CatRefused.{CatRefused}
use Rattle.cat_read.specs.declared.refusals.CatRefused.TheVariants as refused
use Rattle.script_text.specs.Answers.{Answers}
use Rattle.cat_read.proofs.Sealings.{wrong_from-typed}
use Rattle.script_text.specs.declared.refusals.RefusalKind.TheVariants.{Catalog}
use Rattle.script_text.specs.declared.refusals.CatFault.TheVariants as fault
use Rattle.cat_text.specs.Texts.{typed_by, shaped_by, catalog_of, refusal_of}

none_wrong : (tables : List Table) (number : ℕ) (procs : List Proc) → All (IsWellTyped tables) procs → wrong_from tables number procs ≡ None
none_wrong tables number [] typed = refl
none_wrong tables number (p ∷ ps) typed =
    wrong_from-typed tables number p ps (All-head (IsWellTyped tables) p ps typed)
    ∙ none_wrong tables (number + 1) ps (All-tail (IsWellTyped tables) p ps typed)

-- a text that says data
said : (text : List ℕ) (d : Data) → Says text d → catalog_of text ≡ shaped_by (plan_of d)
said text d says =
    let utf8 = is_utf8-from_IsUtf8 text says.utf8 in
    let data_is = says.data_is in
    rw (utf8, data_is) refl

pub tells : (text : List ℕ) (plan : Plan) → Tells text plan → IsCatalog plan → catalog_of text ≡ Ok plan
tells text plan h is = said text h.0 h.1 ∙ ap shaped_by h.2 ∙ ap (typed_by plan) (none_wrong plan.tables 0 plan.procs is.typed)

not_json : (text : List ℕ) → Refuses text refused.NotJson → catalog_of text ≡ Err (Catalog fault.NotJson)
not_json text h = by (is_utf8 text) refl
  where
    by : (b : Bool) → is_utf8 text ≡ b → catalog_of text ≡ Err (Catalog fault.NotJson)
    by true e = let none = h (IsUtf8-from_is_utf8 text e) in rw (e, none) refl
    by false e = rw e refl

shape : (text : List ℕ) (path : List PathPart) → Refuses text (refused.Shape path) → catalog_of text ≡ Err (Catalog (fault.Shape path))
shape text path h = said text h.0 h.1 ∙ ap shaped_by h.2

wrong : (text : List ℕ) (w : Wrong) → Refuses text (refused.Wrong w) → catalog_of text ≡ Err (Catalog (fault.Wrong w))
wrong text w h = said text h.0 h.2 ∙ ap shaped_by h.3 ∙ ap (typed_by h.1) h.4

pub refuses : (text : List ℕ) (line : ℕ) (r : CatRefused) → Refuses text r → Answers (catalog_of text) line (Err (refusal_of line r))
refuses text line refused.Memory h = tt
refuses text line refused.NotJson h = (refl, not_json text h)
refuses text line (refused.Shape path) h = (refl, shape text path h)
refuses text line (refused.Wrong w) h = (refl, wrong text w h)
