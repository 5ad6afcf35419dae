-- What is wrong with a text that says no catalogue.
use Rattle.std.specs.Prelude.{◌≡◌, ℕ, ◌+◌, List, [], ◌∷◌, Option, Some, None, Result, IsUtf8}
use Rattle.std.specs.declared.result.Result.TheVariants.{Ok, Err}
use Rattle.aria_base.specs.declared.schemas.Table.{Table}
use Rattle.proc_lang.specs.declared.flaws.Wrong.{Wrong}
use Rattle.proc_lang.specs.declared.procs.Proc.{Proc}
use Rattle.proc_lang.specs.Catalogs.{Plan}
use Rattle.proc_lang.specs.Typing.{Flaw, Reached, typed_proc}
use Rattle.serde_json.specs.Data.{Data}
use Rattle.serde_json.specs.Read.{read}
use Rattle.cat_forms.specs.PlanWalks.{plan_of}
use Rattle.cat_forms.specs.Texts.{Says}
use Rattle.cat_read.specs.declared.refusals.CatRefused.{CatRefused}
use Rattle.cat_read.specs.declared.refusals.CatRefused.TheVariants as refused

-- ---- typing

-- the failure of the procedure with this number, or else that of the others
abbrev pub wrong_or : ℕ → Result Reached Flaw → Option Wrong → Option Wrong
wrong_or number (Ok reached) others = others
wrong_or number (Err flaw) others = Some (record { proc = number; place = flaw.place; cause = flaw.cause })

-- the first procedure that is not well typed, counted from this number
abbrev pub wrong_from : List Table → ℕ → List Proc → Option Wrong
wrong_from tables number [] = None
wrong_from tables number (p ∷ ps) = wrong_or number (typed_proc tables p) (wrong_from tables (number + 1) ps)

abbrev pub first_wrong : Plan → Option Wrong
first_wrong plan = wrong_from plan.tables 0 plan.procs

-- ---- refusals

-- what a refusal says of the text; out of memory says nothing
abbrev pub Refuses : List ℕ → CatRefused → Type 0
Refuses text refused.Memory = Unit {0}
Refuses text refused.NotJson = IsUtf8 text → read text ≡ None
Refuses text (refused.Shape path) = (d : Data) × Says text d × (plan_of d ≡ Err path)
Refuses text (refused.Wrong w) = (d : Data) × (plan : Plan) × Says text d × (plan_of d ≡ Ok plan) × (first_wrong plan ≡ Some w)
