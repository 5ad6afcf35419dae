-- Each answer is serialisable by the order that it prints, by request numbers.
use Rattle.std.proofs.Common.{◌≡◌, ℕ, ◌+◌, List, [], ◌∷◌, ◌++◌, map, length, drop, Bool, true, false, Some, Option, not, refl, sym, ap, ◌∙◌, subst, arith}
use Rattle.std.specs.Prelude.{if◌then◌else◌, IsSomeAnd, slice_index_or}
use Rattle.std.specs.List.{All, filter}
use Rattle.std.specs.Option.{option_map}
use Rattle.std.proofs.lemmas.List.Elements.{All-nil, All-cons, All-map, All-filter, filter_passes}
use Rattle.std.proofs.lemmas.List.Sorted.{IsPermutation-sym, IsPermutation-map, All-permutation}
use Rattle.std.proofs.lemmas.List.{map-append}
use Rattle.std.proofs.lemmas.Simd.{map-map}
use Rattle.std.specs.List.Sorted.{IsPermutation}
use Rattle.aria_base.specs.Orders.{key_cmp, Cells}
use Rattle.aria_base.proofs.Orders.{key_cmp_total, key_cmp-IsAntisymmetric}
use Rattle.aria_base.specs.declared.keys.Key.{Key}
use Rattle.aria_base.specs.declared.calls.Call.{Call}
use Rattle.aria_base.specs.declared.calls.Request.{Request}
use Rattle.proc_lang.specs.declared.ends.End.{End}
use Rattle.proc_lang.specs.Meaning.{is_done}
use Rattle.batch_rules.specs.Trees.{Tree}
use Rattle.batch_rules.specs.Batches.{Fate, Ended, Waits, Moved, Entry, has_ended, is_carried, ordered, carried, on_start, touching}
use Rattle.batch_rules.specs.Serials.{serial_ends, serial_map}
use Rattle.batch_rules.proofs.Fates.{serial_law, requests-settled}
use Rattle.batch_rules.proofs.Lists.{All-left, filter-map}
use Rattle.batch_rules.proofs.Places.{each_once}
use Rattle.batch_core.specs.declared.answers.Reply.{Reply}
use Rattle.batch_core.specs.declared.answers.Reply.TheVariants as reply
use Rattle.batch_core.specs.Steps.{State, Handed, numbered, list_of, outcome, step, answer, reply_of, line_of}
use Rattle.batch_core.specs.Serial.{RiseWithin, IsNumbered, request_numbered, named, is_named, printed, is_wait, IsSerial, AllSerial}
use Rattle.batch_core.proofs.Numbers.{rise-append, rise-filter, rise-unmapped, found, all_found, rest-is}

pub numbered-rise : (n : ℕ) (calls : List Call) → RiseWithin (λ request. request.q) n (numbered n calls) (n + length calls)
numbered-rise n [] = omega arith
numbered-rise n (call ∷ calls) = (
  omega arith,
  subst (λ high. RiseWithin (λ request. request.q) (n + 1) (numbered (n + 1) calls) high) (omega arith)
      (numbered-rise (n + 1) calls),
)

-- the list of a batch has numbers that rise up to the last one given
pub list-rises : (state : State) (handed : Handed) → IsNumbered state
    → RiseWithin (λ request. request.q) 0 (list_of state handed) (state.requests + length handed.calls)
list-rises state handed h = rise-append (λ request. request.q) 0 state.waiting state.requests (numbered state.requests handed.calls)
    (state.requests + length handed.calls) h (numbered-rise state.requests handed.calls)

-- of entries whose fates are all ends none is carried
none_carried : {K Q A : Type 0} (ends : List A) (es : List (Entry K Q A)) → map Ended ends ≡ map (λ e. e.fate) es → All (λ e. is_carried e ≡ false) es
none_carried {K} {Q} {A} ends [] same = All-nil (λ (e : Entry K Q A). is_carried e ≡ false)
none_carried [] (e ∷ es) same = cc
none_carried {K} {Q} {A} (end ∷ ends) (e ∷ es) same = All-cons (λ (e : Entry K Q A). is_carried e ≡ false) e es
    (sym (ap (λ fates. if has_ended (slice_index_or fates 0 (Ended end)) then false else true) same)) (none_carried ends es (ap (drop 1) same))

wait_printed : (list : List Request) (fate : Fate Key End) → (if has_ended fate then false else true) ≡ true → is_wait (reply_of list fate) ≡ true
wait_printed list (Ended end) e = e
wait_printed list (Waits cause) e = refl
wait_printed list (Moved key) e = refl

module _ (tree : Request → Tree Key Cells End) (state : State) (handed : Handed) where
  abbrev number : Entry Key Request End → ℕ
  number e = e.judged.request.q

  pub list-is : map (λ e. e.judged.request) (outcome tree state handed).entries ≡ list_of state handed
  list-is = requests-settled (on_start is_done tree state.rows) (touching (on_start is_done tree state.rows) key_cmp) handed.rule (list_of state handed) _

  pub serial_answer : IsNumbered state → IsSerial tree state handed
  serial_answer h =
      let list = list_of state handed in
      let es = (outcome tree state handed).entries in
      let os = ordered es in
      let told = answer tree state handed in
      let high = state.requests + length handed.calls in
      let law = serial_law key_cmp_total key_cmp-IsAntisymmetric is_done tree handed.rule handed.percent state.rows list in
      let once = each_once (on_start is_done tree state.rows) (touching (on_start is_done tree state.rows) key_cmp) handed.rule list _ in
      let rises : RiseWithin number 0 es high = rise-unmapped (λ e. e.judged.request) (λ request. request.q) 0 es high
      (subst (λ l. RiseWithin (λ request. request.q) 0 l high) (sym list-is) (list-rises state handed h)) in
      let asked : All (λ e. request_numbered list (number e) ≡ Some e.judged.request) es =
      λ k d below. ap (λ l. request_numbered l (number (slice_index_or es k d))) (sym list-is)
      ∙ found (λ e. e.judged.request) (λ request. request.q) 0 es high rises k d below in
      let replied : All (λ e. printed told (number e) ≡ Some (reply_of list e.fate)) es =
      λ k d below. ap (option_map (λ line. line.reply)) (found (line_of (λ request. request) list) (λ line. line.q) 0 es high rises k d below) in
      let first : (P : Entry Key Request End → Type 0) → All P es → All P os =
      λ P a. All-left P os (carried es) (All-permutation P es (os ++ carried es) (IsPermutation-sym _ _ once.parted) a) in
      let asks = all_found (request_numbered list) number (λ e. e.judged.request) os
      (first (λ e. request_numbered list (number e) ≡ Some e.judged.request) asked) in
      let replies = all_found (printed told) number (λ e. reply_of list e.fate) os
      (first (λ e. printed told (number e) ≡ Some (reply_of list e.fate)) replied) in
      let runs : map (λ e. e.judged.request) os ≡ named list told.order = sym asks.1 in
      let ends = serial_ends is_done tree state.rows (map (λ e. e.judged.request) os) in
      let shown : Fate Key End → Option Reply = λ fate. Some (reply_of list fate) in record {
        found = asks.0 ∙ ap (map Some) runs;
        ends = replies.0 ∙ map-map Some (λ e. reply_of list e.fate) os ∙ sym (map-map shown (λ e. e.fate) os) ∙ sym (ap (map shown) law.ends)
            ∙ map-map shown Ended ends
            ∙ ap (λ qs. map (λ end. Some (reply.Ended end)) (serial_ends is_done tree state.rows qs)) runs;
        rows = sym law.map ∙ ap (serial_map is_done tree state.rows) runs;
        rest = filter-map (λ e. e.judged.request) is_carried (λ request. not (is_named told.order request)) es
            (rest-is number 0 es high rises is_carried os once.parted (none_carried ends os law.ends))
            ∙ ap (filter (λ request. not (is_named told.order request))) list-is;
        waits = All-map (λ request. IsSomeAnd (printed told request.q) (λ reply. is_wait reply ≡ true)) (λ e. e.judged.request) (carried es) (λ k d below.
            let e = slice_index_or (carried es) k d in
            subst (λ reply. IsSomeAnd reply (λ reply. is_wait reply ≡ true))
            (sym (All-filter is_carried (λ e. printed told (number e) ≡ Some (reply_of list e.fate)) es replied k d below))
            (wait_printed list e.fate (filter_passes is_carried es k d below)));
        once =
            let q : Request → ℕ = λ request. request.q in
            let cs = carried es in
            let told_and_left : map number (os ++ cs) ≡ told.order ++ map q (map (λ e. e.judged.request) cs) = map-append number os cs
            ∙ ap (λ ns. map number os ++ ns) (sym (map-map q (λ e. e.judged.request) cs)) in
            let all : map number es ≡ map q list = sym (map-map q (λ e. e.judged.request) es) ∙ ap (map q) list-is in
            subst (λ ns. IsPermutation ns (map q list)) told_and_left
            (subst (IsPermutation (map number (os ++ cs))) all (IsPermutation-map number (os ++ cs) es once.parted));
      }

  pub keeps_numbers : IsNumbered state → IsNumbered (step tree state handed)
  keeps_numbers h =
      let list = list_of state handed in
      let other : Request → Bool = λ request. not (is_named (answer tree state handed).order request) in
      let high = state.requests + length handed.calls in
      subst (λ waiting. RiseWithin (λ request. request.q) 0 waiting high) (sym (serial_answer h).rest)
      (rise-filter (λ request. request.q) other 0 list high (list-rises state handed h))

-- every answer of a run of batches
pub all_serial : (tree : Request → Tree Key Cells End) (state : State) (batches : List Handed) → IsNumbered state → AllSerial tree state batches
all_serial tree state [] h = tt
all_serial tree state (handed ∷ rest) h = (serial_answer tree state handed h, all_serial tree (step tree state handed) rest (keeps_numbers tree state handed h))
