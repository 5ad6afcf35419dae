-- Reading a log record by record, from a disk that may tell its files.
use Rattle.std.proofs.Common.{◌≡◌, ℕ, ◌+◌, ◌-◌, ◌<◌, ◌≤◌, List, [], length, take, drop, get_or, Option, None, Some, refl, sym, ◌∙◌, subst, ap, arith, length-drop}
use Rattle.std.specs.Prelude.{IfSome}
use Rattle.std.proofs.lemmas.List.{drop-drop, drop_more, get_or-take, get_or-drop}
use Rattle.byteorder.specs.Endian.{little_number}
use Rattle.disk_model.specs.Files.{File}
use Rattle.input_log.specs.declared.logs.Payload.{Payload}
use Rattle.input_log.specs.Layout.{Closed, Open, Broken, next_of, Ends, Breaks, with_payload, log_from, log_of}
use Rattle.input_log.proofs.Gates.{little_front, open_next, broken_next}
use Rattle.input_log.proofs.Reached.{log_record, log_closed, log_broken}

-- the byte at a gate, read into a buffer of one
gate_read : (seen gate : List ℕ) (at : ℕ) → gate ≡ take 1 (drop at seen) → get_or gate 0 0 ≡ get_or seen at 0
gate_read seen gate at is = ap (λ (l : List ℕ). get_or l 0 0) is ∙ get_or-take 1 (drop at seen) 0 0 (omega arith) ∙ get_or-drop at seen 0 0
    ∙ ap (λ (n : ℕ). get_or seen n 0) (omega arith)

pub read_short : (told : Option File) (at len : ℕ) (gate : List ℕ) → IfSome told (λ f. len ≡ length f.seen) → IfSome told (λ f. gate ≡ take 1 (drop at f.seen))
    → at < len → get_or gate 0 0 ≡ 1 → len - at ≤ 5
    → IfSome told (λ f. next_of (drop at f.seen) ≡ Broken)
read_short None at len gate size is within is_open short = tt
read_short (Some f) at len gate size is within is_open short =
    ap (λ (l : List ℕ). next_of l) (drop_more f.seen at 0 (omega arith))
    ∙ broken_next (get_or f.seen at 0) (drop (at + 1) f.seen) (sym (gate_read f.seen gate at is) ∙ is_open) (omega (arith, length-drop (at + 1) f.seen))

pub read_long : (told : Option File) (at len : ℕ) (gate size_bytes : List ℕ) → IfSome told (λ f. len ≡ length f.seen)
    → IfSome told (λ f. gate ≡ take 1 (drop at f.seen))
    → IfSome told (λ f. size_bytes ≡ take 4 (drop (at + 1) f.seen)) → 5 < len - at → get_or gate 0 0 ≡ 1 → len - at - 5 ≤ little_number 4 size_bytes
    → IfSome told (λ f. next_of (drop at f.seen) ≡ Broken)
read_long None at len gate size_bytes size is size_is within is_open short = tt
read_long (Some f) at len gate size_bytes size is size_is within is_open short =
    let value : little_number 4 size_bytes ≡ little_number 4 (drop (at + 1) f.seen) = ap (λ (l : List ℕ). little_number 4 l) size_is
    ∙ little_front (drop (at + 1) f.seen) in
    let room : len - at - 5 ≤ little_number 4 (drop (at + 1) f.seen) = subst (λ (n : ℕ). len - at - 5 ≤ n) value short in
    ap (λ (l : List ℕ). next_of l) (drop_more f.seen at 0 (omega arith))
    ∙ broken_next (get_or f.seen at 0) (drop (at + 1) f.seen) (sym (gate_read f.seen gate at is) ∙ is_open) (omega (arith, length-drop (at + 1) f.seen))

pub read_open : (told : Option File) (at len : ℕ) (gate size_bytes payload : List ℕ) → IfSome told (λ f. len ≡ length f.seen)
    → IfSome told (λ f. gate ≡ take 1 (drop at f.seen))
    → IfSome told (λ f. size_bytes ≡ take 4 (drop (at + 1) f.seen)) → IfSome told (λ f. payload ≡ take (little_number 4 size_bytes) (drop (at + 5) f.seen))
    → 5 < len - at → get_or gate 0 0 ≡ 1
    → little_number 4 size_bytes < len - at - 5 → IfSome told (λ f. next_of (drop at f.seen) ≡ Open payload)
read_open None at len gate size_bytes payload size is size_is payload_is within is_open fits = tt
read_open (Some f) at len gate size_bytes payload size is size_is payload_is within is_open fits =
    let rest : List ℕ = drop (at + 1) f.seen in
    let value : little_number 4 size_bytes ≡ little_number 4 rest = ap (λ (l : List ℕ). little_number 4 l) size_is ∙ little_front rest in
    let room : little_number 4 rest < len - at - 5 = subst (λ (n : ℕ). n < len - at - 5) value fits in
    let four : drop 4 rest ≡ drop (at + 5) f.seen = drop-drop 4 (at + 1) f.seen ∙ ap (λ (n : ℕ). drop n f.seen) (omega arith) in
    let own : take (little_number 4 rest) (drop 4 rest) ≡ payload = ap (λ (l : List ℕ). take (little_number 4 rest) l) four
    ∙ ap (λ (n : ℕ). take n (drop (at + 5) f.seen)) (sym value) ∙ sym payload_is in
    ap (λ (l : List ℕ). next_of l) (drop_more f.seen at 0 (omega arith))
    ∙ open_next (get_or f.seen at 0) rest payload (sym (gate_read f.seen gate at is) ∙ is_open) (omega (arith, length-drop (at + 1) f.seen)) own

-- the log from a gate on, after the payloads before it, is the whole log
abbrev pub Goes : Option File → List Payload → ℕ → Type 0
Goes told before at = IfSome told (λ f. log_from before at (drop at f.seen) ≡ log_of f.seen)

pub goes_start : (told : Option File) → Goes told [] 0
goes_start None = tt
goes_start (Some f) = refl

pub goes_on : (told : Option File) (before : List Payload) (at : ℕ) (payload : List ℕ) → Goes told before at
    → IfSome told (λ f. next_of (drop at f.seen) ≡ Open payload)
    → Goes told (with_payload before at payload) (at + 5 + length payload)
goes_on None before at payload goes opens = tt
goes_on (Some f) before at payload goes opens =
    let step : drop (5 + length payload) (drop at f.seen) ≡ drop (at + 5 + length payload) f.seen = drop-drop (5 + length payload) at f.seen
    ∙ ap (λ (n : ℕ). drop n f.seen) (omega arith) in
    ap (λ (l : List ℕ). log_from (with_payload before at payload) (at + 5 + length payload) l) (sym step)
    ∙ sym (log_record before at (drop at f.seen) payload opens) ∙ goes

pub goes_closed : (told : Option File) (before : List Payload) (at : ℕ) → Goes told before at → IfSome told (λ f. next_of (drop at f.seen) ≡ Closed)
    → IfSome told (λ f. log_of f.seen ≡ Ends before at)
goes_closed None before at goes shut = tt
goes_closed (Some f) before at goes shut = sym goes ∙ log_closed before at (drop at f.seen) shut

pub goes_broken : (told : Option File) (before : List Payload) (at : ℕ) → Goes told before at → IfSome told (λ f. next_of (drop at f.seen) ≡ Broken)
    → IfSome told (λ f. log_of f.seen ≡ Breaks at)
goes_broken None before at goes broken = tt
goes_broken (Some f) before at goes broken = sym goes ∙ log_broken before at (drop at f.seen) broken
