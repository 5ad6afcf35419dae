-- The bytes of a payload are the text of one batch alone.
use Rattle.std.proofs.Common.{◌≡◌, ℕ, List, drop, refl, sym, ◌∙◌, ap, arith}
use Rattle.std.specs.Prelude.{slice_index}
use Rattle.aria_base.specs.declared.calls.Call.{Call}
use Rattle.batch_rules.specs.declared.verdicts.Rule.{Rule}
use Rattle.batch_rules.specs.declared.verdicts.Rule.TheVariants.{Plain, Reorder}
use Rattle.proc_lang.specs.Catalogs.{Plan, IsCatalog}
use Rattle.image_text.specs.Payloads.{Batch, rule_byte, calls_text, payload_text, IsPayload, IsCalls}
use Rattle.image_text.proofs.PayloadsRead.{calls_taken, some_is}

pub one_calls : (plan : Plan) (bytes : List ℕ) (a b : List Call) → IsCatalog plan → IsCalls plan bytes a → IsCalls plan bytes b → a ≡ b
one_calls plan bytes a b is h k = some_is a b (sym (calls_taken plan bytes a is h) ∙ calls_taken plan bytes b is k)

same_rule : (a b : Rule) → rule_byte a ≡ rule_byte b → a ≡ b
same_rule Plain Plain e = refl
same_rule Plain Reorder e = absurd (omega (arith, e))
same_rule Reorder Plain e = absurd (omega (arith, e))
same_rule Reorder Reorder e = refl

pub one_payload : (plan : Plan) (bytes : List ℕ) (a b : Batch) → IsCatalog plan → IsPayload plan bytes a → IsPayload plan bytes b → a ≡ b
one_payload plan bytes a b is h k =
    let same : payload_text plan a ≡ payload_text plan b = sym h.text ∙ k.text in
    let rule : a.rule ≡ b.rule = same_rule a.rule b.rule (ap (λ (l : List ℕ). slice_index l 0) same) in
    let fallback : a.fallback ≡ b.fallback = ap (λ (l : List ℕ). slice_index l 1) same in
    let lines : calls_text plan a.calls ≡ calls_text plan b.calls = ap (λ (l : List ℕ). drop 2 l) same in
    let calls : a.calls ≡ b.calls =
    one_calls plan (calls_text plan a.calls) a.calls b.calls is (record { text = refl; fit = h.fit }) (record { text = lines; fit = k.fit }) in
    λ i. record { rule = rule i; fallback = fallback i; calls = calls i }
