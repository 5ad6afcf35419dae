-- A log is read the same way up to a gate from all bytes with the same prefix.
use Rattle.std.proofs.Common.{◌≡◌, ◌≢◌, ℕ, zero, suc, ◌+◌, ◌<◌, ◌≤◌, List, [], ◌∷◌, length, take, drop, get_or, refl, sym, ◌∙◌, subst, ap, arith, length-drop}
use Rattle.std.proofs.lemmas.List.{drop-drop, drop-take, drop_more, length_push}
use Rattle.input_log.specs.declared.logs.Payload.{Payload}
use Rattle.input_log.specs.Layout.{Next, Closed, Open, Broken, next_of, Log, Ends, Breaks, by_next, with_payload, read_log, log_from, log_of}
use Rattle.input_log.proofs.Gates.{same_next, closed_next, not_open}

-- the number of records that may be read does not matter, where it is no less than that of the bytes
fuels : (m n : ℕ) (before : List Payload) (at : ℕ) (bytes : List ℕ) → length bytes ≤ m → length bytes ≤ n
    → read_log m before at bytes ≡ read_log n before at bytes
fuels zero zero before at bytes le_m le_n = refl
fuels zero (suc n) before at [] le_m le_n = refl
fuels zero (suc n) before at (b ∷ bytes) le_m le_n = absurd (omega arith)
fuels (suc m) zero before at [] le_m le_n = refl
fuels (suc m) zero before at (b ∷ bytes) le_m le_n = absurd (omega arith)
fuels (suc m) (suc n) before at [] le_m le_n = refl
fuels (suc m) (suc n) before at (b ∷ bytes) le_m le_n =
    let go : (fuel : ℕ) → List ℕ → Log = λ fuel payload. read_log fuel (with_payload before at payload) (at + 5 + length payload)
    (drop (5 + length payload) (b ∷ bytes)) in
    elim (next_of (b ∷ bytes)) as (λ (x : Next). by_next x before at (go m) ≡ by_next x before at (go n)) [
      | Closed ↦ refl
      | Open payload ↦ fuels m n (with_payload before at payload) (at + 5 + length payload) (drop (5 + length payload) (b ∷ bytes))
          (omega (arith, length-drop (5 + length payload) (b ∷ bytes))) (omega (arith, length-drop (5 + length payload) (b ∷ bytes)))
      | Broken ↦ refl
    ]

-- one record
pub log_record : (before : List Payload) (at : ℕ) (bytes payload : List ℕ) → next_of bytes ≡ Open payload
    → log_from before at bytes ≡ log_from (with_payload before at payload) (at + 5 + length payload) (drop (5 + length payload) bytes)
log_record before at [] payload e = absurd (cc e)
log_record before at (b ∷ bytes) payload e =
    ap (λ (x : Next). by_next x before at (λ p. read_log (length bytes) (with_payload before at p) (at + 5 + length p) (drop (5 + length p) (b ∷ bytes)))) e
    ∙ fuels (length bytes) (length (drop (5 + length payload) (b ∷ bytes))) (with_payload before at payload) (at + 5 + length payload)
    (drop (5 + length payload) (b ∷ bytes))
    (omega (arith, length-drop (5 + length payload) (b ∷ bytes))) (omega arith)

-- a closed gate
pub log_closed : (before : List Payload) (at : ℕ) (bytes : List ℕ) → next_of bytes ≡ Closed → log_from before at bytes ≡ Ends before at
log_closed before at [] e = absurd (cc e)
log_closed before at (b ∷ bytes) e =
    ap (λ (x : Next). by_next x before at (λ p. read_log (length bytes) (with_payload before at p) (at + 5 + length p) (drop (5 + length p) (b ∷ bytes)))) e

pub log_broken : (before : List Payload) (at : ℕ) (bytes : List ℕ) → next_of bytes ≡ Broken → log_from before at bytes ≡ Breaks at
log_broken before at [] e = refl
log_broken before at (b ∷ bytes) e =
    ap (λ (x : Next). by_next x before at (λ p. read_log (length bytes) (with_payload before at p) (at + 5 + length p) (drop (5 + length p) (b ∷ bytes)))) e

-- The first closed gate stands so far ahead, and any bytes with this prefix and one more lead there.
pub record Reaches (before : List Payload) (at : ℕ) (bytes : List ℕ) (payloads : List Payload) (end : ℕ) : Type 0 where
  pub ahead : ℕ
  pub place : end ≡ at + ahead
  pub within : ahead < length bytes
  pub closed : next_of (drop ahead bytes) ≡ Closed
  pub leads : (other : List ℕ) → take ahead other ≡ take ahead bytes → ahead < length other
      → log_from before at other ≡ log_from payloads end (drop ahead other)

not_empty : (bytes : List ℕ) → next_of bytes ≡ Closed → 0 < length bytes
not_empty [] e = absurd (cc e)
not_empty (b ∷ bytes) e = omega arith

here : (before payloads : List Payload) (at end : ℕ) (bytes : List ℕ) → next_of bytes ≡ Closed → Ends before at ≡ Ends payloads end
    → Reaches before at bytes payloads end
here before payloads at end bytes closed e = record {
  ahead = 0;
  place = let same : at ≡ end = cc e in omega arith;
  within = not_empty bytes closed;
  closed = closed;
  leads = λ other same within. let ps : before ≡ payloads = cc e in let place : at ≡ end = cc e in ap (λ (b : List Payload). log_from b at other) ps
      ∙ ap (λ (n : ℕ). log_from payloads n other) place;
}

farther : (before payloads : List Payload) (at end : ℕ) (bytes payload : List ℕ) → next_of bytes ≡ Open payload
    → Reaches (with_payload before at payload) (at + 5 + length payload) (drop (5 + length payload) bytes) payloads end → Reaches before at bytes payloads end
farther before payloads at end bytes payload e r =
    let step : ℕ = 5 + length payload in record {
      ahead = step + r.ahead;
      place = omega (arith, r.place);
      within = omega (arith, r.within, length-drop step bytes);
      closed = ap (λ (l : List ℕ). next_of l) (sym (drop-drop r.ahead step bytes)) ∙ r.closed;
      leads = λ other same within.
          let opens = same_next bytes other payload (step + r.ahead) e same (omega arith) within in
          let front : take r.ahead (drop step other) ≡ take r.ahead (drop step bytes) = sym (drop-take step r.ahead other)
          ∙ ap (λ (l : List ℕ). drop step l) same ∙ drop-take step r.ahead bytes in
          log_record before at other payload opens
          ∙ r.leads (drop step other) front (omega (arith, within, length-drop step other))
          ∙ ap (λ (l : List ℕ). log_from payloads end l) (drop-drop r.ahead step other);
    }

reaches : (fuel : ℕ) (before : List Payload) (at : ℕ) (bytes : List ℕ) (payloads : List Payload) (end : ℕ) → read_log fuel before at bytes ≡ Ends payloads end
    → Reaches before at bytes payloads end
reaches zero before at bytes payloads end e = absurd (cc e)
reaches (suc fuel) before at bytes payloads end e =
    go (next_of bytes) refl e (λ payload left. reaches fuel (with_payload before at payload) (at + 5 + length payload)
    (drop (5 + length payload) bytes) payloads end left)
  where
    behind : List ℕ → Log
    behind p = read_log fuel (with_payload before at p) (at + 5 + length p) (drop (5 + length p) bytes)

    go : (x : Next) → next_of bytes ≡ x → by_next x before at behind ≡ Ends payloads end
        → ((payload : List ℕ) → behind payload ≡ Ends payloads end
        → Reaches (with_payload before at payload) (at + 5 + length payload) (drop (5 + length payload) bytes) payloads end)
        → Reaches before at bytes payloads end
    go Closed is left on = here before payloads at end bytes is left
    go (Open payload) is left on = farther before payloads at end bytes payload is (on payload left)
    go Broken is left on = absurd (cc left)

-- each record has some bytes
pub few_records : (fuel : ℕ) (before : List Payload) (at : ℕ) (bytes : List ℕ) (payloads : List Payload) (end : ℕ)
    → read_log fuel before at bytes ≡ Ends payloads end → length payloads + at ≤ length before + end
few_records zero before at bytes payloads end e = absurd (cc e)
few_records (suc fuel) before at bytes payloads end e =
    go (next_of bytes) e (λ payload left. few_records fuel (with_payload before at payload) (at + 5 + length payload)
    (drop (5 + length payload) bytes) payloads end left)
  where
    behind : List ℕ → Log
    behind p = read_log fuel (with_payload before at p) (at + 5 + length p) (drop (5 + length p) bytes)

    go : (x : Next) → by_next x before at behind ≡ Ends payloads end
        → ((payload : List ℕ) → behind payload ≡ Ends payloads end
        → length payloads + (at + 5 + length payload) ≤ length (with_payload before at payload) + end)
        → length payloads + at ≤ length before + end
    go Closed left on = let ps : before ≡ payloads = cc left in let place : at ≡ end = cc left in omega (arith, ap (λ (l : List Payload). length l) ps)
    go (Open payload) left on = omega (arith, on payload left, length_push before (record { at = at; bytes = payload }))
    go Broken left on = absurd (cc left)

-- what a log that ends says of its bytes: the gate at its end is there and closed, and whatever has the same prefix reads so up to it
pub record Front (bytes : List ℕ) (payloads : List Payload) (end : ℕ) : Type 0 where
  pub within : end < length bytes
  pub shut : get_or bytes end 0 ≢ 1
  pub leads : (other : List ℕ) → take end other ≡ take end bytes → end < length other → log_of other ≡ log_from payloads end (drop end other)

pub front_of : (bytes : List ℕ) (payloads : List Payload) (end : ℕ) → log_of bytes ≡ Ends payloads end → Front bytes payloads end
front_of bytes payloads end e =
    let r = reaches (length bytes) [] 0 bytes payloads end e in
    let same : r.ahead ≡ end = omega (arith, r.place) in record {
      within = omega (arith, r.within);
      shut =
          let there : end < length bytes = omega (arith, r.within) in
          let gate : next_of (get_or bytes end 0 ∷ drop (end + 1) bytes) ≡ Closed = ap (λ (l : List ℕ). next_of l) (sym (drop_more bytes end 0 there))
          ∙ ap (λ (n : ℕ). next_of (drop n bytes)) (sym same) ∙ r.closed in
          not_open (get_or bytes end 0) (drop (end + 1) bytes) gate;
      leads = λ other front within.
          r.leads other (subst (λ (n : ℕ). take n other ≡ take n bytes) (sym same) front) (omega arith)
          ∙ ap (λ (n : ℕ). log_from payloads end (drop n other)) same;
    }

-- bytes whose gate at the end is closed too
pub same_front : (bytes other : List ℕ) (payloads : List Payload) (end : ℕ) → log_of bytes ≡ Ends payloads end → take end other ≡ take end bytes
    → end < length other → get_or other end 0 ≢ 1 → log_of other ≡ Ends payloads end
same_front bytes other payloads end e same within shut =
    let f = front_of bytes payloads end e in
    f.leads other same within
    ∙ ap (λ (l : List ℕ). log_from payloads end l) (drop_more other end 0 within)
    ∙ log_closed payloads end (get_or other end 0 ∷ drop (end + 1) other) (closed_next (get_or other end 0) (drop (end + 1) other) shut)
