-- A text that tells a catalogue, and is never refused.
use Rattle.std.specs.Prelude.{◌≡◌, ℕ, List, Some, None}
use Rattle.std.specs.declared.result.Result.TheVariants.{Ok}
use Rattle.serde_json.specs.Data.{Data}
use Rattle.serde_json.specs.Read.{read}
use Rattle.proc_lang.specs.Catalogs.{Plan}
use Rattle.cat_forms.specs.PlanWalks.{plan_of}
use Rattle.cat_read.specs.Texts.{first_wrong}

-- the text is JSON, the plan is what it says, and each of its procedures is well typed
pub record IsTold (text : List ℕ) (plan : Plan) : Type 0 where
  pub json : Data
  pub says : read text ≡ Some json
  pub tells : plan_of json ≡ Ok plan
  pub typed : first_wrong plan ≡ None
