-- The batches of a log: one more, how they are read one after another, and that they are the only ones.
use Rattle.std.proofs.Common.{◌≡◌, ℕ, suc, ◌+◌, ◌≤◌, List, [], ◌∷◌, ◌++◌, length, get_or, drop, drop-cons, Bool, true, false, refl, sym, ◌∙◌, ap, subst, arith, inl, inr}
use Rattle.std.proofs.Common.{◌<◌, ◌-◌, zero, Option, None, Some}
use Rattle.std.specs.List.{slice_get}
use Rattle.std.proofs.lemmas.Option.{slice_get-get_or}
use Rattle.image_text.specs.declared.payloads.Logged.{Logged}
use Rattle.std.proofs.lemmas.List.{append_assoc, append-nil, drop_all}
use Rattle.std.specs.Prelude.{◌==◌}
use Rattle.batch_rules.specs.declared.verdicts.Rule.{Rule}
use Rattle.input_log.specs.declared.logs.Payload.{Payload}
use Rattle.aria_base.specs.declared.limits.TheConstants.{GREATEST_NUMBER}
use Rattle.proc_lang.specs.Catalogs.{IsCatalog}
use Rattle.aria_base.specs.declared.calls.Call.{Call}
use Rattle.image_text.specs.Payloads.{Batch, IsThat, IsCalls, AreCalls}
use Rattle.image_text.proofs.PayloadsOnce.{one_calls, one_payload}
use Rattle.slot_images.specs.Images.{Checkpoint}
use Rattle.aria_store.specs.Records.{SaysIn, Says, IsThatBatch, IsWithin, Follows, IsNext, AreBatches, FirstWrong, requests_after}
use Rattle.aria_store.specs.Stands.{batches_in, rule_after, fallback_after}

-- ---- one more behind them

pub are_added : (c : Checkpoint) (batches requests : ℕ) (payloads : List Payload) (later : List Batch) (payload : Payload) (batch : Batch)
    → AreBatches c batches requests payloads later
    → Follows c (batches + length later) (requests_after requests later) payload.bytes batch
    → AreBatches c batches requests (payloads ++ payload ∷ []) (later ++ batch ∷ [])
are_added c batches requests [] [] payload batch are follows =
    let none : batches + 0 ≡ batches = omega arith in (subst (λ (n : ℕ). Follows c n requests payload.bytes batch) none follows, tt)
are_added c batches requests [] (b ∷ later) payload batch are follows = absurd are
are_added c batches requests (p ∷ payloads) [] payload batch are follows = absurd are
are_added c batches requests (p ∷ payloads) (b ∷ later) payload batch are follows =
    let on : batches + length (b ∷ later) ≡ batches + 1 + length later = omega arith in (
      are.0,
      are_added c (batches + 1) (requests + length b.calls) payloads later payload batch are.1
          (subst (λ (n : ℕ). Follows c n (requests_after (requests + length b.calls) later) payload.bytes batch) on follows),
    )

pub rule_added : (rule : Rule) (later : List Batch) (batch : Batch) → rule_after rule (later ++ batch ∷ []) ≡ batch.rule
rule_added rule [] batch = refl
rule_added rule (b ∷ later) batch = rule_added b.rule later batch

pub fallback_added : (fallback : ℕ) (later : List Batch) (batch : Batch) → fallback_after fallback (later ++ batch ∷ []) ≡ batch.fallback
fallback_added fallback [] batch = refl
fallback_added fallback (b ∷ later) batch = fallback_added b.fallback later batch

pub same_count : (c : Checkpoint) (batches requests : ℕ) (payloads : List Payload) (later : List Batch)
    → AreBatches c batches requests payloads later → length later ≡ length payloads
same_count c batches requests [] [] are = refl
same_count c batches requests [] (b ∷ later) are = absurd are
same_count c batches requests (p ∷ payloads) [] are = absurd are
same_count c batches requests (p ∷ payloads) (b ∷ later) are =
    let rest = same_count c (batches + 1) (requests + length b.calls) payloads later are.1 in omega (arith, rest)

-- ---- read one after another

-- what the payloads to come are, behind these batches, decides what all are
pub record GoesOn (c : Checkpoint) (ran numbered : ℕ) (all : List Payload) (before : List Batch) (now_batches now_requests : ℕ)
    (rest : List Payload) : Type 0 where
  pub batches : now_batches ≤ GREATEST_NUMBER
  pub requests : now_requests ≤ GREATEST_NUMBER
  pub found : (later : List Batch) → AreBatches c now_batches now_requests rest later → AreBatches c ran numbered all (before ++ later)
  pub wrong : (at : ℕ) → FirstWrong c now_batches now_requests rest at → FirstWrong c ran numbered all at

pub goes_start : (c : Checkpoint) (batches requests : ℕ) (all : List Payload) → batches ≤ GREATEST_NUMBER → requests ≤ GREATEST_NUMBER
    → GoesOn c batches requests all [] batches requests all
goes_start c batches requests all few least = record { batches = few; requests = least; found = λ later are. are; wrong = λ at w. w }

pub goes_next : (c : Checkpoint) (batches requests : ℕ) (all : List Payload) (before : List Batch) (b r : ℕ) (payload : Payload)
    (rest : List Payload) (batch : Batch) → GoesOn c batches requests all before b r (payload ∷ rest) → Follows c b r payload.bytes batch
    → GoesOn c batches requests all (before ++ batch ∷ []) (b + 1) (r + length batch.calls) rest
goes_next c batches requests all before b r payload rest batch goes follows = record {
  batches = follows.1.batches;
  requests = follows.1.requests;
  found = λ later are. subst (λ (l : List Batch). AreBatches c batches requests all l) (sym (append_assoc before (batch ∷ []) later))
      (goes.found (batch ∷ later) (follows, are));
  wrong = λ at w. goes.wrong at (inr (batch, follows, w));
}

pub goes_done : (c : Checkpoint) (batches requests : ℕ) (all : List Payload) (before : List Batch) (b r : ℕ)
    → GoesOn c batches requests all before b r [] → AreBatches c batches requests all before
goes_done c batches requests all before b r goes =
    subst (λ (l : List Batch). AreBatches c batches requests all l) (append-nil before) (goes.found [] tt)

pub goes_wrong : (c : Checkpoint) (batches requests : ℕ) (all : List Payload) (before : List Batch) (b r : ℕ) (payload : Payload)
    (rest : List Payload) → GoesOn c batches requests all before b r (payload ∷ rest)
    → ((batch : Batch) → ¬ (Follows c b r payload.bytes batch)) → FirstWrong c batches requests all payload.at
goes_wrong c batches requests all before b r payload rest goes none = goes.wrong payload.at (inl (refl, none))

-- the same by the place of the next payload
module _ (c : Checkpoint) (all : List Payload) (i : ℕ) (batches requests b r : ℕ) (before : List Batch)
    (goes : GoesOn c batches requests all before b r (drop i all)) where
  one_on : suc i ≡ i + 1
  one_on = omega arith

  next : (payload : Payload) → i < length all → payload ≡ get_or all i payload
      → GoesOn c batches requests all before b r (payload ∷ drop (i + 1) all)
  next payload below is =
      let split : drop i all ≡ payload ∷ drop (i + 1) all =
      drop-cons all i payload below ∙ ap (λ (n : ℕ). get_or all i payload ∷ drop n all) one_on ∙ ap (λ (p : Payload). p ∷ drop (i + 1) all) (sym is) in
      subst (λ (l : List Payload). GoesOn c batches requests all before b r l) split goes

  pub goes_past : (payload : Payload) (batch : Batch) (after : List Batch) → i < length all → payload ≡ get_or all i payload
      → Follows c b r payload.bytes batch → after ≡ before ++ batch ∷ []
      → GoesOn c batches requests all after (b + 1) (r + length batch.calls) (drop (i + 1) all)
  goes_past payload batch after below is follows same =
      subst (λ (l : List Batch). GoesOn c batches requests all l (b + 1) (r + length batch.calls) (drop (i + 1) all)) (sym same)
      (goes_next c batches requests all before b r payload (drop (i + 1) all) batch (next payload below is) follows)

  pub goes_amiss : (payload : Payload) → i < length all → payload ≡ get_or all i payload
      → ((batch : Batch) → ¬ (Follows c b r payload.bytes batch)) → FirstWrong c batches requests all payload.at
  goes_amiss payload below is none =
      goes_wrong c batches requests all before b r payload (drop (i + 1) all) (next payload below is) none

  pub goes_through : length all ≤ i → AreBatches c batches requests all before
  goes_through past =
      goes_done c batches requests all before b r
      (subst (λ (l : List Payload). GoesOn c batches requests all before b r l) (drop_all i all past) goes)

-- ---- the settings of the last one

last_of : (xs : List Logged) (i : ℕ) (x : Logged) → length xs ≡ i + 1 → slice_get xs i ≡ Some x → (rule : Rule) (fallback : ℕ)
    → (rule_after rule (batches_in xs) ≡ x.rule) × (fallback_after fallback (batches_in xs) ≡ x.fallback)
last_of [] i x e g rule fallback = absurd (omega (arith, e))
last_of (y ∷ []) zero x e g rule fallback =
    let same : y ≡ x = cc in (ap (λ (l : Logged). l.rule) same, ap (λ (l : Logged). l.fallback) same)
last_of (y ∷ []) (suc i) x e g rule fallback = absurd (omega (arith, e))
last_of (y ∷ z ∷ xs) zero x e g rule fallback = absurd (omega (arith, e))
last_of (y ∷ z ∷ xs) (suc i) x e g rule fallback = last_of (z ∷ xs) i x (omega (arith, e)) g y.rule y.fallback

pub settings_last : (xs : List Logged) (x : Logged) → slice_get xs (length xs - 1) ≡ Some x → (rule : Rule) (fallback : ℕ)
    → (rule_after rule (batches_in xs) ≡ x.rule) × (fallback_after fallback (batches_in xs) ≡ x.fallback)
settings_last [] x g rule fallback = absurd (cc g)
settings_last (y ∷ ys) x g rule fallback = last_of (y ∷ ys) (length (y ∷ ys) - 1) x (omega arith) g rule fallback

pub settings_none : (xs : List Logged) → slice_get xs (length xs - 1) ≡ None → (rule : Rule) (fallback : ℕ)
    → (rule_after rule (batches_in xs) ≡ rule) × (fallback_after fallback (batches_in xs) ≡ fallback)
settings_none [] g rule fallback = (refl, refl)
settings_none (y ∷ ys) g rule fallback =
    let within : length (y ∷ ys) - 1 < length (y ∷ ys) = omega arith in
    let both : Some (get_or (y ∷ ys) (length (y ∷ ys) - 1) y) ≡ None = sym (slice_get-get_or (y ∷ ys) (length (y ∷ ys) - 1) y within) ∙ g in
    absurd (cc both)

-- ---- by the format

pub of_second : (c : Checkpoint) (bytes : List ℕ) (found : Option Batch) → (c.head.format == 1) ≡ false → IsThat c.plan bytes found
    → IsThatBatch c bytes found
of_second c bytes None second none = λ batch says. none batch (subst (λ (b : Bool). SaysIn b c bytes batch) second says)
of_second c bytes (Some batch) second is = subst (λ (b : Bool). SaysIn b c bytes batch) (sym second) is

pub of_first : (c : Checkpoint) (bytes : List ℕ) (calls : List Call) → (c.head.format == 1) ≡ true → IsCalls c.plan bytes calls
    → Says c bytes (record { rule = c.head.rule; fallback = c.head.fallback; calls = calls })
of_first c bytes calls first is =
    subst (λ (b : Bool). SaysIn b c bytes (record { rule = c.head.rule; fallback = c.head.fallback; calls = calls }))
    (sym first) (refl, refl, is)

pub none_first : (c : Checkpoint) (bytes : List ℕ) → (c.head.format == 1) ≡ true → AreCalls c.plan bytes None → IsThatBatch c bytes None
none_first c bytes first none = λ batch says.
    let own : SaysIn true c bytes batch = subst (λ (b : Bool). SaysIn b c bytes batch) first says in none batch.calls own.2

pub none_next : (c : Checkpoint) (batches requests : ℕ) (bytes : List ℕ) → IsThatBatch c bytes None → IsNext c batches requests bytes None
none_next c batches requests bytes none = λ batch follows. none batch follows.0

-- ---- the only ones

module _ (c : Checkpoint) (is : IsCatalog c.plan) where
  says_in_once : (first : Bool) (bytes : List ℕ) (a b : Batch) → SaysIn first c bytes a → SaysIn first c bytes b → a ≡ b
  says_in_once false bytes a b h k = one_payload c.plan bytes a b is h k
  says_in_once true bytes a b h k =
      let rule : a.rule ≡ b.rule = h.0 ∙ sym k.0 in
      let fallback : a.fallback ≡ b.fallback = h.1 ∙ sym k.1 in
      let calls : a.calls ≡ b.calls = one_calls c.plan bytes a.calls b.calls is h.2 k.2 in
      λ i. record { rule = rule i; fallback = fallback i; calls = calls i }

  pub says_once : (bytes : List ℕ) (a b : Batch) → Says c bytes a → Says c bytes b → a ≡ b
  says_once bytes a b h k = says_in_once (c.head.format == 1) bytes a b h k

  pub batches_once : (batches requests : ℕ) (payloads : List Payload) (one other : List Batch)
      → AreBatches c batches requests payloads one → AreBatches c batches requests payloads other → one ≡ other
  batches_once batches requests [] [] [] h k = refl
  batches_once batches requests [] [] (b ∷ other) h k = absurd k
  batches_once batches requests [] (a ∷ one) other h k = absurd h
  batches_once batches requests (p ∷ payloads) [] other h k = absurd h
  batches_once batches requests (p ∷ payloads) (a ∷ one) [] h k = absurd k
  batches_once batches requests (p ∷ payloads) (a ∷ one) (b ∷ other) h k =
      let same : a ≡ b = says_once p.bytes a b h.0.0 k.0.0 in
      let rest : one ≡ other = batches_once (batches + 1) (requests + length a.calls) payloads one other h.1
      (subst (λ (x : Batch). AreBatches c (batches + 1) (requests + length x.calls) payloads other) (sym same) k.1) in
      λ i. same i ∷ rest i

  pub not_both : (batches requests : ℕ) (payloads : List Payload) (later : List Batch) (at : ℕ)
      → AreBatches c batches requests payloads later → FirstWrong c batches requests payloads at → ⊥
  not_both batches requests [] later at h w = absurd w
  not_both batches requests (p ∷ payloads) [] at h w = absurd h
  not_both batches requests (p ∷ payloads) (b ∷ later) at h (inl none) = none.1 b h.0
  not_both batches requests (p ∷ payloads) (b ∷ later) at h (inr on) =
      let same : on.0 ≡ b = says_once p.bytes on.0 b on.1.0 h.0.0 in
      not_both (batches + 1) (requests + length b.calls) payloads later at h.1
      (subst (λ (x : Batch). FirstWrong c (batches + 1) (requests + length x.calls) payloads at) same on.2)

  pub wrong_once : (batches requests : ℕ) (payloads : List Payload) (at other : ℕ)
      → FirstWrong c batches requests payloads at → FirstWrong c batches requests payloads other → at ≡ other
  wrong_once batches requests [] at other h k = absurd h
  wrong_once batches requests (p ∷ payloads) at other (inl h) (inl k) = h.0 ∙ sym k.0
  wrong_once batches requests (p ∷ payloads) at other (inl h) (inr k) = absurd (h.1 k.0 k.1)
  wrong_once batches requests (p ∷ payloads) at other (inr h) (inl k) = absurd (k.1 h.0 h.1)
  wrong_once batches requests (p ∷ payloads) at other (inr h) (inr k) =
      let same : h.0 ≡ k.0 = says_once p.bytes h.0 k.0 h.1.0 k.1.0 in
      wrong_once (batches + 1) (requests + length k.0.calls) payloads at other
      (subst (λ (x : Batch). FirstWrong c (batches + 1) (requests + length x.calls) payloads at) same h.2) k.2

  -- one that passes a bound, and so none
  pub past_bound : (batches requests : ℕ) (bytes : List ℕ) (a : Batch) → Says c bytes a → (IsWithin batches requests (length a.calls) → ⊥)
      → IsNext c batches requests bytes None
  past_bound batches requests bytes a says past = λ batch follows.
      let same : batch ≡ a = says_once bytes batch a follows.0 says in
      past (subst (λ (x : Batch). IsWithin batches requests (length x.calls)) same follows.1)
