-- A payload is read exactly where it is the text of some batch.
use Rattle.std.proofs.Common.{◌≡◌, ℕ, ◌+◌, ◌<◌, ◌≤◌, List, [], ◌∷◌, ◌++◌, length, drop, Option, Some, None, Bool, true, false, cond, refl, ap, subst, sym, ◌∙◌, arith}
use Rattle.std.specs.Prelude.{All, slice_index, ◌==◌}
use Rattle.std.proofs.lemmas.Bool.{eqb-true}
use Rattle.std.proofs.lemmas.List.{append_assoc, append-nil}
use Rattle.aria_base.specs.declared.calls.Call.{Call}
use Rattle.aria_base.specs.declared.limits.TheConstants.{MOST_PERCENT}
use Rattle.batch_rules.specs.declared.verdicts.Rule.{Rule}
use Rattle.batch_rules.specs.declared.verdicts.Rule.TheVariants.{Plain, Reorder}
use Rattle.proc_lang.specs.Catalogs.{Plan, IsCatalog, takes}
use Rattle.script_text.specs.Written.{IsArgs}
use Rattle.image_text.specs.Lines.{written, pushes}
use Rattle.image_text.specs.Exactly.{line_of_call, exact_call, IsCallOf}
use Rattle.image_text.specs.Payloads.{Batch, rule_byte, rule_of, calls_text, payload_text, IsPayload, IsThat, IsCalls, AreCalls, push, read_calls}
use Rattle.image_text.proofs.LinesTaken.{written_is, items_again, items_read}
use Rattle.image_text.proofs.Exactness.{call_written, call_read, call_lacks}

-- ---- calls

pushed : (read : List ℕ → Option Call) (calls before : List Call) → pushes read push before calls ≡ Some (before ++ calls)
pushed read [] before = ap Some (sym (append-nil before))
pushed read (call ∷ calls) before = pushed read calls (before ++ call ∷ []) ∙ ap Some (append_assoc before (call ∷ []) calls)

pub calls_taken : (plan : Plan) (bytes : List ℕ) (calls : List Call) → IsCatalog plan → IsCalls plan bytes calls → read_calls plan bytes ≡ Some calls
calls_taken plan bytes calls is h =
    ap (read_calls plan) h.text
    ∙ items_again (line_of_call plan) (exact_call plan) push (IsCallOf plan) (λ call k. call_written plan call is k)
    (λ call k. call_lacks plan call is k) calls [] calls h.fit (pushed (exact_call plan) calls [])

pub some_is : (a b : List Call) → Some a ≡ Some b → a ≡ b
some_is a b e = cc

calls_read : (plan : Plan) (bytes : List ℕ) (calls : List Call) → read_calls plan bytes ≡ Some calls
    → (bytes ≡ calls_text plan calls) × All (λ call. takes plan call ≡ true) calls
calls_read plan bytes calls e =
    let k = items_read (line_of_call plan) (exact_call plan) push (λ call. takes plan call ≡ true) (call_read plan) bytes [] calls e in
    let same : k.items ≡ calls = some_is k.items calls (sym (pushed (exact_call plan) k.items []) ∙ k.pushed) in
    (k.text ∙ ap (calls_text plan) same, subst (All (λ call. takes plan call ≡ true)) same k.each)

pub are_calls : (plan : Plan) (bytes : List ℕ) (calls : List Call) → Some calls ≡ read_calls plan bytes → All (λ call. IsArgs call.args) calls
    → IsCalls plan bytes calls
are_calls plan bytes calls e held =
    let k = calls_read plan bytes calls (sym e) in
    record { text = k.0; fit = λ i d below. record { fit = k.1 i d below; args = held i d below } }

pub no_calls : (plan : Plan) (bytes : List ℕ) → IsCatalog plan → None ≡ read_calls plan bytes → AreCalls plan bytes None
no_calls plan bytes is e = λ calls h. let no = e ∙ calls_taken plan bytes calls is h in cc

-- ---- batches

pub payload_written : (plan : Plan) (bytes : List ℕ) (batch : Batch) → bytes ≡ payload_text plan batch → batch.fallback ≤ MOST_PERCENT
    → All (λ call. takes plan call ≡ true) batch.calls → All (λ call. IsArgs call.args) batch.calls → IsPayload plan bytes batch
payload_written plan bytes batch e few fit args = record { text = e; fallback = few; fit = λ i d below. record { fit = fit i d below; args = args i d below } }

pub payload_joined : (plan : Plan) (batch : Batch) (byte : ℕ) (begun one two all : List ℕ) → byte ≡ rule_byte batch.rule → begun ≡ [] → one ≡ begun ++ byte ∷ []
    → two ≡ one ++ batch.fallback ∷ [] → all ≡ two ++ written (line_of_call plan) batch.calls → all ≡ payload_text plan batch
payload_joined plan batch byte begun one two all r a b c e =
    let lines = written (line_of_call plan) batch.calls in
    e ∙ ap (λ (l : List ℕ). l ++ lines) (c ∙ ap (λ (l : List ℕ). l ++ batch.fallback ∷ []) (b ∙ ap (λ (l : List ℕ). l ++ byte ∷ []) a))
    ∙ ap (λ (k : ℕ). k ∷ batch.fallback ∷ lines) r ∙ ap (λ (l : List ℕ). rule_byte batch.rule ∷ batch.fallback ∷ l) (written_is (line_of_call plan) batch.calls)

byte_of : (rule : Rule) → rule_of (rule_byte rule) ≡ Some rule
byte_of Plain = refl
byte_of Reorder = refl

rule_byte_of : (byte : ℕ) (rule : Rule) → Some rule ≡ rule_of byte → byte ≡ rule_byte rule
rule_byte_of byte rule e = by (byte == 0) refl (byte == 1) refl e
  where
    by : (a : Bool) → (byte == 0) ≡ a → (b : Bool) → (byte == 1) ≡ b → Some rule ≡ cond a (Some Plain) (cond b (Some Reorder) None) → byte ≡ rule_byte rule
    by true w b v k = let same : rule ≡ Plain = cc in eqb-true byte 0 w ∙ ap rule_byte (sym same)
    by false w true v k = let same : rule ≡ Reorder = cc in eqb-true byte 1 v ∙ ap rule_byte (sym same)
    by false w false v k = cc

-- bytes that begin otherwise than a payload does are none
pub no_settings : (plan : Plan) (bytes : List ℕ) → length bytes < 2 → IsThat plan bytes None
no_settings plan bytes few = λ batch h. let n = ap (λ (l : List ℕ). length l) h.text in omega (arith, n, few)

module _ (plan : Plan) (bytes lines : List ℕ) (byte fallback : ℕ) (begins : bytes ≡ byte ∷ fallback ∷ lines) where
  same_byte : (batch : Batch) → IsPayload plan bytes batch → byte ≡ rule_byte batch.rule
  same_byte batch h = ap (λ (l : List ℕ). slice_index l 0) (sym begins ∙ h.text)

  same_fallback : (batch : Batch) → IsPayload plan bytes batch → fallback ≡ batch.fallback
  same_fallback batch h = ap (λ (l : List ℕ). slice_index l 1) (sym begins ∙ h.text)

  pub no_rule : None ≡ rule_of byte → IsThat plan bytes None
  no_rule none = λ batch h. let no = none ∙ ap rule_of (same_byte batch h) ∙ byte_of batch.rule in cc

  pub no_fallback : MOST_PERCENT < fallback → IsThat plan bytes None
  no_fallback many = λ batch h. omega (arith, same_fallback batch h, h.fallback, many)

  pub no_batch : AreCalls plan lines None → IsThat plan bytes None
  no_batch none = λ batch h. none batch.calls (record { text = ap (λ (l : List ℕ). drop 2 l) (sym begins ∙ h.text); fit = h.fit })

  pub is_batch : (rule : Rule) (calls : List Call) → Some rule ≡ rule_of byte → fallback ≤ MOST_PERCENT → IsCalls plan lines calls
      → IsPayload plan bytes (record { rule = rule; fallback = fallback; calls = calls })
  is_batch rule calls r few h = record {
    text = begins ∙ ap (λ (b : ℕ). b ∷ fallback ∷ lines) (rule_byte_of byte rule r) ∙ ap (λ (l : List ℕ). rule_byte rule ∷ fallback ∷ l) h.text;
    fallback = few;
    fit = h.fit;
  }
