-- How long a payload may be.
use Rattle.std.proofs.Common.{◌≡◌, ℕ, ◌*◌, ◌≤◌, List, [], ◌∷◌, ◌++◌, length, All, ap, arith, length-append}
use Rattle.std.proofs.lemmas.List.Elements.{All-head, All-tail}
use Rattle.aria_base.specs.declared.calls.Call.{Call}
use Rattle.aria_base.specs.declared.limits.TheConstants.{LONGEST_LINE, MOST_REQUESTS}
use Rattle.proc_lang.specs.Catalogs.{Plan}
use Rattle.image_text.specs.Exactly.{line_of_call}
use Rattle.image_text.specs.Payloads.{Batch, calls_text, payload_text}
use Rattle.input_log.specs.declared.limits.TheConstants.{MOST_PAYLOAD}

lines_short : (plan : Plan) (calls : List Call) → All (λ call. length (line_of_call plan call) ≤ LONGEST_LINE) calls
    → length (calls_text plan calls) ≤ 4097 * length calls
lines_short plan [] short = omega arith
lines_short plan (call ∷ calls) short =
    let first : length (line_of_call plan call) ≤ LONGEST_LINE = All-head (λ c. length (line_of_call plan c) ≤ LONGEST_LINE) call calls short in
    let rest = lines_short plan calls (All-tail (λ c. length (line_of_call plan c) ≤ LONGEST_LINE) call calls short) in
    omega (
      arith,
      first,
      rest,
      length-append (line_of_call plan call ++ 10 ∷ []) (calls_text plan calls),
      length-append (line_of_call plan call) (10 ∷ []),
    )

pub payload_short : (plan : Plan) (batch : Batch) (bytes : List ℕ) → bytes ≡ payload_text plan batch
    → All (λ call. length (line_of_call plan call) ≤ LONGEST_LINE) batch.calls → length batch.calls ≤ MOST_REQUESTS → length bytes ≤ MOST_PAYLOAD
payload_short plan batch bytes e short few =
    let same : length bytes ≡ length (payload_text plan batch) = ap (λ (l : List ℕ). length l) e in
    omega (arith, same, lines_short plan batch.calls short, few)
