-- The catalogue of a text, or why a script is refused that brings it.
use Rattle.std.specs.Prelude.{ℕ, List, Option, Some, None, Result, if◌then◌else◌}
use Rattle.std.specs.Str.{is_utf8}
use Rattle.std.specs.declared.result.Result.TheVariants.{Ok, Err}
use Rattle.proc_lang.specs.declared.flaws.Wrong.{Wrong}
use Rattle.proc_lang.specs.Catalogs.{Plan}
use Rattle.serde_json.specs.Data.{Data}
use Rattle.serde_json.specs.Read.{read}
use Rattle.cat_forms.specs.PlanWalks.{plan_of}
use Rattle.cat_forms.specs.Shapes.{Shaped}
use Rattle.cat_read.specs.Texts.{first_wrong}
use Rattle.cat_read.specs.declared.refusals.CatRefused.{CatRefused}
use Rattle.cat_read.specs.declared.refusals.CatRefused.TheVariants as cat
use Rattle.script_text.specs.declared.refusals.RefusalKind.{RefusalKind}
use Rattle.script_text.specs.declared.refusals.RefusalKind.TheVariants.{Catalog}
use Rattle.script_text.specs.declared.refusals.CatFault.{CatFault}
use Rattle.script_text.specs.declared.refusals.CatFault.TheVariants as fault
use Rattle.script_text.specs.declared.refusals.LinesRefused.{LinesRefused}
use Rattle.script_text.specs.declared.refusals.LinesRefused.TheVariants.{Memory, Line}

-- by the first procedure that is not well typed
abbrev pub typed_by : Plan → Option Wrong → Result Plan RefusalKind
typed_by plan None = Ok plan
typed_by plan (Some wrong) = Err (Catalog (fault.Wrong wrong))

-- by what the data says, or the first place that does not have the form
abbrev pub shaped_by : Shaped Plan → Result Plan RefusalKind
shaped_by (Ok plan) = typed_by plan (first_wrong plan)
shaped_by (Err path) = Err (Catalog (fault.Shape path))

-- by the data, where the text is JSON
abbrev pub read_by : Option Data → Result Plan RefusalKind
read_by None = Err (Catalog fault.NotJson)
read_by (Some d) = shaped_by (plan_of d)

-- bytes that are no UTF-8 are no JSON
abbrev pub catalog_of : List ℕ → Result Plan RefusalKind
catalog_of text = if is_utf8 text then read_by (read text) else Err (Catalog fault.NotJson)

-- ---- refusals

abbrev pub refused_at : ℕ → CatFault → LinesRefused
refused_at line fault = Line (record { line = line; kind = Catalog fault })

-- what a script answers where the reader of catalogues refuses the text
abbrev pub refusal_of : ℕ → CatRefused → LinesRefused
refusal_of line cat.Memory = Memory
refusal_of line cat.NotJson = refused_at line fault.NotJson
refusal_of line (cat.Shape path) = refused_at line (fault.Shape path)
refusal_of line (cat.Wrong wrong) = refused_at line (fault.Wrong wrong)
