-- The payload of a log record, as a text: a batch's rule, fallback and new calls.
use Rattle.std.specs.Prelude.{◌≡◌, ℕ, ◌≤◌, Bool, true, false, ◌==◌, if◌then◌else◌, List, [], ◌∷◌, ◌++◌, map, All}
use Rattle.std.specs.Prelude.{Option, Some, None}
use Rattle.aria_base.specs.declared.calls.Call.{Call}
use Rattle.aria_base.specs.declared.limits.TheConstants.{MOST_PERCENT}
use Rattle.batch_rules.specs.declared.verdicts.Rule.{Rule}
use Rattle.batch_rules.specs.declared.verdicts.Rule.TheVariants.{Plain, Reorder}
use Rattle.proc_lang.specs.Catalogs.{Plan}
use Rattle.image_text.specs.Lines.{lines_text, lines_taken, taking}
use Rattle.image_text.specs.Exactly.{line_of_call, exact_call, IsCallOf}

-- what a payload is the text of
pub record Batch : Type 0 where
  pub rule : Rule
  pub fallback : ℕ
  pub calls : List Call

abbrev pub rule_byte : Rule → ℕ
rule_byte Plain = 0
rule_byte Reorder = 1

abbrev pub rule_of : ℕ → Option Rule
rule_of byte = if byte == 0 then Some Plain else (if byte == 1 then Some Reorder else None)

abbrev pub calls_text : Plan → List Call → List ℕ
calls_text plan calls = lines_text (map (line_of_call plan) calls)

abbrev pub payload_text : Plan → Batch → List ℕ
payload_text plan batch = rule_byte batch.rule ∷ batch.fallback ∷ calls_text plan batch.calls

-- the text of this batch, whose calls fit the catalogue
pub record IsPayload (plan : Plan) (bytes : List ℕ) (batch : Batch) : Type 0 where
  pub text : bytes ≡ payload_text plan batch
  pub fallback : batch.fallback ≤ MOST_PERCENT
  pub fit : All (IsCallOf plan) batch.calls

-- the batch of which these bytes are the text, or there is none
abbrev pub IsThat : Plan → List ℕ → Option Batch → Type 0
IsThat plan bytes None = (batch : Batch) → ¬ (IsPayload plan bytes batch)
IsThat plan bytes (Some batch) = IsPayload plan bytes batch

-- ---- the lines of calls alone

pub record IsCalls (plan : Plan) (bytes : List ℕ) (calls : List Call) : Type 0 where
  pub text : bytes ≡ calls_text plan calls
  pub fit : All (IsCallOf plan) calls

abbrev pub AreCalls : Plan → List ℕ → Option (List Call) → Type 0
AreCalls plan bytes None = (calls : List Call) → ¬ (IsCalls plan bytes calls)
AreCalls plan bytes (Some calls) = IsCalls plan bytes calls

-- ---- how they are read

abbrev pub push : List Call → Call → Option (List Call)
push calls call = Some (calls ++ call ∷ [])

abbrev pub take : Plan → List Call → List ℕ → Option (List Call)
take plan calls line = taking (exact_call plan) push calls line

abbrev pub read_calls : Plan → List ℕ → Option (List Call)
read_calls plan bytes = lines_taken (take plan) [] bytes
