-- What a text says as a catalogue.
use Rattle.std.specs.Prelude.{◌≡◌, ℕ, List, Some, IsUtf8}
use Rattle.std.specs.declared.result.Result.TheVariants.{Ok}
use Rattle.proc_lang.specs.Catalogs.{Plan}
use Rattle.serde_json.specs.Data.{Data}
use Rattle.serde_json.specs.Read.{read}
use Rattle.cat_forms.specs.PlanWalks.{plan_of}

-- the text is JSON that says this data
pub record Says (text : List ℕ) (d : Data) : Type 0 where
  pub utf8 : IsUtf8 text
  pub data_is : read text ≡ Some d

-- the catalogue is what the text says
abbrev pub Tells : List ℕ → Plan → Type 0
Tells text plan = (d : Data) × Says text d × (plan_of d ≡ Ok plan)
